-- the branches that end or are moved: each frame that is open on one is entered once

use Rattle.std.proofs.Common.{◌≡◌, ◌≢◌, ◌==◌, ◌&&◌, ℕ, Bool, true, false, List, [], ◌∷◌, ◌++◌, map, flat_map, append-nil, Option, None, Some, refl, sym, ◌∙◌, ap, subst, arith, ◌⊎◌, inl, inr, if◌then◌else◌}
use Rattle.std.specs.Prelude.{not, nat_le, nat_lt, length, count_by, option_map, option_and_then, Result, Ok, Err}
use Rattle.std.specs.FinMap.{get, insert, keys, remove}
use Rattle.std.proofs.lemmas.Grind.{flat_map-append}
use Rattle.std.proofs.lemmas.Bool.Decides.{nat_tests}
use Rattle.world_model.specs.Words.{PortNo, Channel, End, Mark, Party, next_control, with_control, Cell, Answer, Quiet, Send, Open, Said, Step, is_estab, ticked, greeting_of, gsmp_answer, gsmp_received, Request, AddBranch, MoveBranch, DeleteTree, VerifyTree, PortManagement, Branches, same_end, new_branch, cut_by_move, Entry, Bad, Loss, Gsmp, PoolFull, Cut, Journal, noted, gsmp_refusal, made, frame_cells, Tested, tested, Changed, noted_cut, added_by, moved_by, ended_by, all_ended, inputs_on, branches_after, asked_in, is_request, failure_of, Handled, handled_by, handled_asked, handled, Switch, control_port, gsmp_channel, replied, requested, frame_read, gsmp_cell, tick_comes, restarted}
use Rattle.world_model.specs.adjacency_table.declared.message.Answer.TheVariants.{Reset}
use Rattle.world_model.specs.gsmp_wire.declared.message.Message.{Message}
use Rattle.world_model.specs.gsmp_wire.declared.message.Message.TheVariants as messages
use Rattle.world_model.specs.gsmp_wire.declared.fault.Fault.{Fault}
use Rattle.world_model.specs.gsmp_wire.declared.request.Request.TheVariants.{DeleteAll, AllPorts}
use Rattle.world_model.specs.gsmp_wire.Layout.{octets_of}
use Rattle.world_model.specs.gsmp_wire.Fields.{decoded}
use Rattle.world_model.specs.crossbar_model.declared.branch.Branch.{Branch}
use Rattle.world_model.specs.crossbar_model.Crossbar.{moved, output_of}
use Rattle.world_model.specs.frame_model.Reassembly.{Taken, taken}
use Rattle.world_model.specs.frame_model.Sending as frames
use Rattle.law_causes.proofs.law_port_facts.Keyed.{on_both}
use Rattle.law_causes.proofs.Maps.{same_input, insert_here, insert_away, remove_here, remove_away}
use Rattle.world_model.proofs.Lists.{count_append, count_here, count_there}
use Rattle.world_model.specs.switch_model.declared.request.Asked.{Asked}
use Rattle.world_model.specs.gsmp_wire.declared.failure.Failure.{Failure}
use Rattle.world_model.specs.Requests.{branch_ended, deleted_all}
use Rattle.world_model.specs.Switch.{ActedSwitch, free_slots}
use Rattle.world_model.specs.Conduct.{with_cells, sends, says, answers, steps, message_heard, opened_frame, after_test, ends_frame}
use Rattle.law_true_losses.specs.Cut.{open_on, is_empty_list, leads_on, cut_entry}
use Rattle.law_true_losses.proofs.Cutting.{cuts_in, cuts_noted, cuts_other, same_ends, taken_cuts, tested_cuts}

-- *One branch*, before and after
abbrev pub open_by : Option Branch → List Mark
open_by o = open_on (option_and_then (λ (b : Branch). b.unfinished) o)

abbrev output_by : Option Branch → Option End
output_by o = option_map (λ (b : Branch). b.output) o

abbrev pub is_left : (before after : Option Branch) → Bool
is_left before after = not (is_empty_list (open_by before)) && not (leads_on (output_by before) (output_by after))

pub same_itself : (e : End) → same_end e e ≡ true
same_itself e = grind (arith, nat_tests)

pub and_false : (b : Bool) → (b && false) ≡ false
and_false true = refl
and_false false = refl

-- one that leads to where it led isn't left
pub not_left : (before after : Option Branch) → output_by after ≡ output_by before → is_left before after ≡ false
not_left None after same = refl
not_left (Some b) after same =
    ap (λ (o : Option End). not (is_empty_list (open_by (Some b))) && not (leads_on (Some b.output) o)) same
    ∙ ap (λ (t : Bool). not (is_empty_list (open_by (Some b))) && not t) (same_itself b.output) ∙ and_false (not (is_empty_list (open_by (Some b))))

-- *Branches ended or were moved*: those on which frames were open
pub record BranchCuts (m0 m : Branches) (notes : Journal) : Type 0 where
  pub inputs : List End
  pub entries : cuts_in notes ≡ flat_map (λ (input : End). map cut_entry (open_by (get m0 input))) inputs
  pub each : (input : End) → count_by (same_end input) inputs ≡ (if is_left (get m0 input) (get m input) then 1 else 0)

-- none, and all lead to where they led
pub none_left : (m0 m : Branches) (notes : Journal) → cuts_in notes ≡ [] → ((input : End) → output_of m input ≡ output_of m0 input) → BranchCuts m0 m notes
none_left m0 m notes none same = record {
  inputs = [];
  entries = none;
  each = λ input. sym (ap {B = ℕ} (λ (b : Bool). if b then 1 else 0) (not_left (get m0 input) (get m input) (same input)));
}

-- the notes grow by no cut
pub still_cut : (m0 m : Branches) (notes more : Journal) → cuts_in more ≡ cuts_in notes → BranchCuts m0 m notes → BranchCuts m0 m more
still_cut m0 m notes more same h = record { inputs = h.inputs; entries = same ∙ h.entries; each = h.each }

-- *Branches end*, one after the other
abbrev open_count : Option Branch → ℕ
open_count o = if is_empty_list (open_by o) then 0 else 1

data Fares (n : ℕ) (before now : Option Branch) : Type 0 where
  stays : n ≡ 0 → now ≡ before → Fares n before now
  gone : n ≡ open_count before → now ≡ None → Fares n before now

record Ended (m0 : Branches) (c : Changed) : Type 0 where
  inputs : List End
  entries : cuts_in c.notes ≡ flat_map (λ (input : End). map cut_entry (open_by (get m0 input))) inputs
  fares : (input : End) → Fares (count_by (same_end input) inputs) (get m0 input) (get c.branches input)

fares_to : (n : ℕ) (before now : Option Branch) → Fares n before now → n ≡ (if is_left before now then 1 else 0)
fares_to n before now (stays none same) = none ∙ sym (ap {B = ℕ} (λ (b : Bool). if b then 1 else 0) (not_left before now (ap output_by same)))
fares_to n None now (gone one is) = one
fares_to n (Some b) now (gone one is) = one ∙ by (is_empty_list (open_by (Some b)))
    ∙ ap {B = ℕ} (λ (o : Option Branch). if is_left (Some b) o then 1 else 0) (sym is)
  where
    by : (t : Bool) → ◌≡◌ {A = ℕ} (if t then 0 else 1) (if not t && true then 1 else 0)
    by true = refl
    by false = refl

ended_left : (m0 : Branches) (c : Changed) → Ended m0 c → BranchCuts m0 c.branches c.notes
ended_left m0 c h = record { inputs = h.inputs; entries = h.entries; each = λ input. fares_to (count_by (same_end input) h.inputs) (get m0 input) (get c.branches input) (h.fares input) }

module _ (m0 : Branches) (c : Changed) (input : End) (h : Ended m0 c) where
  abbrev removed : Branches
  removed = remove c.branches input

  stood : (b : Branch) → get c.branches input ≡ Some b → (n : ℕ) → Fares n (get m0 input) (get c.branches input) → (n ≡ 0) × (get m0 input ≡ Some b)
  stood b found n (stays none same) = (none, sym same ∙ found)
  stood b found n (gone one is) = (let clash : None ≡ Some b = sym is ∙ found in absurd (cc clash))

  others : (inputs : List End) (other : End) → other ≢ input → count_by (same_end other) inputs ≡ count_by (same_end other) h.inputs → Fares (count_by (same_end other) inputs) (get m0 other) (get removed other)
  others inputs other apart same = subst (λ (n : ℕ). Fares n (get m0 other) (get removed other)) (sym same)
      (subst (Fares (count_by (same_end other) h.inputs) (get m0 other)) (sym (remove_away c.branches input other apart)) (h.fares other))

  ended_on : (b : Branch) → get c.branches input ≡ Some b → (o : Option Mark) → b.unfinished ≡ o → Ended m0 (record { branches = removed; notes = noted_cut c.notes o })
  ended_on b found None marked = record {
    inputs = h.inputs;
    entries = h.entries;
    fares = λ other. by other (same_input other input);
  }
    where
      there : (count_by (same_end input) h.inputs ≡ 0) × (get m0 input ≡ Some b)
      there = stood b found (count_by (same_end input) h.inputs) (h.fares input)

      none : open_count (get m0 input) ≡ 0
      none = ap open_count there.1 ∙ ap {B = ℕ} (λ (o : Option Mark). if is_empty_list (open_on o) then 0 else 1) marked

      by : (other : End) → (other ≡ input) ⊎ (other ≢ input) → Fares (count_by (same_end other) h.inputs) (get m0 other) (get removed other)
      by other (inl same) = subst (λ (e : End). Fares (count_by (same_end e) h.inputs) (get m0 e) (get removed e)) (sym same) (gone (there.0 ∙ sym none) (remove_here c.branches input))
      by other (inr apart) = others h.inputs other apart refl
  ended_on b found (Some mark) marked = record {
    inputs = h.inputs ++ input ∷ [];
    entries = cuts_noted c.notes (Loss mark Cut) ∙ ap (λ (more : List Entry). more ++ cut_entry mark ∷ []) h.entries
        ∙ ap (λ (o : Option Mark). flat_map entries_of h.inputs ++ map cut_entry (open_on o)) (sym marked)
        ∙ ap (λ (o : Option Branch). flat_map entries_of h.inputs ++ map cut_entry (open_by o)) (sym there.1)
        ∙ ap (λ (more : List Entry). flat_map entries_of h.inputs ++ more) (sym (append-nil (entries_of input)))
        ∙ sym (flat_map-append entries_of h.inputs (input ∷ []));
    fares = λ other. by other (same_input other input);
  }
    where
      entries_of : End → List Entry
      entries_of e = map cut_entry (open_by (get m0 e))

      there : (count_by (same_end input) h.inputs ≡ 0) × (get m0 input ≡ Some b)
      there = stood b found (count_by (same_end input) h.inputs) (h.fares input)

      one : open_count (get m0 input) ≡ 1
      one = ap open_count there.1 ∙ ap {B = ℕ} (λ (o : Option Mark). if is_empty_list (open_on o) then 0 else 1) marked

      here : count_by (same_end input) (h.inputs ++ input ∷ []) ≡ 1
      here = (let last : count_by (same_end input) (input ∷ []) ≡ 1 = count_here (same_end input) input [] (same_itself input) in
          omega (arith, count_append (same_end input) h.inputs (input ∷ []), there.0, last))

      elsewhere : (other : End) → other ≢ input → count_by (same_end other) (h.inputs ++ input ∷ []) ≡ count_by (same_end other) h.inputs
      elsewhere other apart = (let last : count_by (same_end other) (input ∷ []) ≡ 0 = count_there (same_end other) input [] (differ other apart) in
          omega (arith, count_append (same_end other) h.inputs (input ∷ []), last))
        where
          differ : (other : End) → other ≢ input → same_end other input ≡ false
          differ other apart = by_test (same_end other input) refl
            where
              by_test : (b : Bool) → same_end other input ≡ b → same_end other input ≡ false
              by_test true t = absurd (apart (same_ends other input t))
              by_test false t = t

      by : (other : End) → (other ≡ input) ⊎ (other ≢ input) → Fares (count_by (same_end other) (h.inputs ++ input ∷ [])) (get m0 other) (get removed other)
      by other (inl same) = subst (λ (e : End). Fares (count_by (same_end e) (h.inputs ++ input ∷ [])) (get m0 e) (get removed e)) (sym same) (gone (here ∙ sym one) (remove_here c.branches input))
      by other (inr apart) = others (h.inputs ++ input ∷ []) other apart (elsewhere other apart)

  ended_by_kept : (o : Option Branch) → get c.branches input ≡ o → Ended m0 (ended_by c input o)
  ended_by_kept None found = h
  ended_by_kept (Some b) found = ended_on b found b.unfinished refl

all_kept : (m0 : Branches) (c : Changed) (inputs : List End) → Ended m0 c → Ended m0 (all_ended c inputs)
all_kept m0 c [] h = h
all_kept m0 c (input ∷ inputs) h = all_kept m0 (branch_ended c input) inputs (ended_by_kept m0 c input h (get c.branches input) refl)

begun : (c : Changed) → cuts_in c.notes ≡ [] → Ended c.branches c
begun c none = record { inputs = []; entries = none; fares = λ input. stays refl refl }

-- *A branch is moved*
module _ (c : Changed) (input to : End) (none : cuts_in c.notes ≡ []) (b : Branch) (found : get c.branches input ≡ Some b) where
  abbrev m : Branches
  m = c.branches

  abbrev after : Branches
  after = insert m input (new_branch to)

  stays_there : (other : End) → other ≢ input → is_left (get m other) (get after other) ≡ false
  stays_there other apart = not_left (get m other) (get after other) (ap output_by (insert_away m input other (new_branch to) apart))

  moves : (same_end b.output to) ≡ false → (o : Option Mark) → b.unfinished ≡ o → BranchCuts m after (noted_cut c.notes o)
  moves leads None marked = record {
    inputs = [];
    entries = none;
    each = λ other. sym (ap {B = ℕ} (λ (t : Bool). if t then 1 else 0) (by other (same_input other input)));
  }
    where
      by : (other : End) → (other ≡ input) ⊎ (other ≢ input) → is_left (get m other) (get after other) ≡ false
      by other (inl same) = subst (λ (e : End). is_left (get m e) (get after e) ≡ false) (sym same)
          (ap (λ (o : Option Branch). is_left o (get after input)) found ∙ ap (λ (o : Option Mark). not (is_empty_list (open_on o)) && not (leads_on (Some b.output) (output_by (get after input)))) marked)
      by other (inr apart) = stays_there other apart
  moves leads (Some mark) marked = record {
    inputs = input ∷ [];
    entries = cuts_noted c.notes (Loss mark Cut) ∙ ap (λ (more : List Entry). more ++ cut_entry mark ∷ []) none
        ∙ ap (λ (o : Option Mark). map cut_entry (open_on o)) (sym marked) ∙ ap (λ (o : Option Branch). map cut_entry (open_by o)) (sym found)
        ∙ sym (append-nil (map cut_entry (open_by (get m input))));
    each = λ other. by other (same_input other input);
  }
    where
      left : is_left (get m input) (get after input) ≡ true
      left = ap (λ (o : Option Branch). is_left o (get after input)) found
          ∙ ap (λ (o : Option Branch). is_left (Some b) o) (insert_here m input (new_branch to))
          ∙ ap (λ (o : Option Mark). not (is_empty_list (open_on o)) && not (same_end b.output to)) marked
          ∙ ap (λ (t : Bool). not t) leads

      differ : (other : End) (t : Bool) → same_end other input ≡ t → other ≢ input → same_end other input ≡ false
      differ other true t apart = absurd (apart (same_ends other input t))
      differ other false t apart = t

      by : (other : End) → (other ≡ input) ⊎ (other ≢ input) → count_by (same_end other) (input ∷ []) ≡ (if is_left (get m other) (get after other) then 1 else 0)
      by other (inl same) = subst (λ (e : End). count_by (same_end e) (input ∷ []) ≡ (if is_left (get m e) (get after e) then 1 else 0)) (sym same)
          (count_here (same_end input) input [] (same_itself input) ∙ sym (ap {B = ℕ} (λ (t : Bool). if t then 1 else 0) left))
      by other (inr apart) = count_there (same_end other) input [] (differ other (same_end other input) refl apart) ∙ sym (ap {B = ℕ} (λ (t : Bool). if t then 1 else 0) (stays_there other apart))

  moved_cuts : BranchCuts m (moved m input b to) (noted_cut c.notes (cut_by_move b to))
  moved_cuts = by (same_end b.output to) refl
    where
      by : (t : Bool) → same_end b.output to ≡ t → BranchCuts m (if t then m else after) (noted_cut c.notes (if t then None else b.unfinished))
      by true leads = none_left m m c.notes none (λ other. refl)
      by false leads = moves leads b.unfinished refl

-- *A request*
module _ (c : Changed) (none : cuts_in c.notes ≡ []) where
  abbrev ToCuts : Changed → Type 0
  ToCuts d = BranchCuts c.branches d.branches d.notes

  all_cuts : (inputs : List End) → ToCuts (all_ended c inputs)
  all_cuts inputs = ended_left c.branches (all_ended c inputs) (all_kept c.branches c inputs (begun c none))

  added_cuts : (input output : End) (o : Option Branch) → get c.branches input ≡ o → ToCuts (record c { branches = added_by c.branches input output o })
  added_cuts input output None found = record {
    inputs = [];
    entries = none;
    each = λ other. sym (ap {B = ℕ} (λ (t : Bool). if t then 1 else 0) (by other (same_input other input)));
  }
    where
      after : Branches
      after = insert c.branches input (new_branch output)

      by : (other : End) → (other ≡ input) ⊎ (other ≢ input) → is_left (get c.branches other) (get after other) ≡ false
      by other (inl same) = subst (λ (e : End). is_left (get c.branches e) (get after e) ≡ false) (sym same) (ap (λ (o : Option Branch). is_left o (get after input)) found)
      by other (inr apart) = not_left (get c.branches other) (get after other) (ap output_by (insert_away c.branches input other (new_branch output) apart))
  added_cuts input output (Some b) found = none_left c.branches c.branches c.notes none (λ other. refl)

  to_cuts : (input to : End) (o : Option Branch) → get c.branches input ≡ o → ToCuts (moved_by c input to o)
  to_cuts input to None found = none_left c.branches c.branches c.notes none (λ other. refl)
  to_cuts input to (Some b) found = moved_cuts c input to none b found

  after_cuts : (request : Request) → ToCuts (branches_after c request)
  after_cuts (AddBranch input output) = added_cuts input output (get c.branches input) refl
  after_cuts (MoveBranch input from to) = to_cuts input to (get c.branches input) refl
  after_cuts (DeleteTree input) = all_cuts (input ∷ [])
  after_cuts (VerifyTree input) = none_left c.branches c.branches c.notes none (λ other. refl)
  after_cuts (DeleteAll port) = all_cuts (inputs_on c.branches port)
  after_cuts (PortManagement port function) = on_both ToCuts (function == 2) (deleted_all c port) c (all_cuts (inputs_on c.branches port)) (none_left c.branches c.branches c.notes none (λ other. refl))
  after_cuts AllPorts = none_left c.branches c.branches c.notes none (λ other. refl)

-- *A switch acts*
module _ (m0 : Branches) where
  abbrev pub P : ActedSwitch → Type 0
  P a = BranchCuts m0 a.switch.crossbar.branches a.notes

  pub sends_cuts : (a : ActedSwitch) (port : PortNo) (channel : Channel) (mark : Mark) (payload : List ℕ) → P a → P (sends a port channel mark payload)
  sends_cuts a port channel mark payload h = on_both (λ (s : frames.Sender Switch). BranchCuts m0 s.queues.crossbar.branches s.notes) (nat_le (length cells) (free_slots a.switch))
      (record { queues = with_cells a.switch port cells; notes = made a.notes mark payload })
      (record { queues = a.switch; notes = noted (made a.notes mark payload) (Loss mark PoolFull) })
      (still_cut m0 a.switch.crossbar.branches a.notes (made a.notes mark payload) refl h)
      (still_cut m0 a.switch.crossbar.branches a.notes (noted (made a.notes mark payload) (Loss mark PoolFull)) (cuts_other (made a.notes mark payload) (Loss mark PoolFull) refl) h)
    where
      cells : List Cell
      cells = frame_cells channel mark payload

  says_cuts : (a : ActedSwitch) (message : Message) → P a → P (says a message)
  says_cuts a message h =
      let given : ActedSwitch = record a { numbers = with_control a.numbers } in
      sends_cuts given control_port gsmp_channel (next_control a.numbers) (octets_of message) h

  answers_cuts : (a : ActedSwitch) (answer : Answer (Said Party) Party) → P a → P (answers a (gsmp_answer answer))
  answers_cuts a Quiet h = h
  answers_cuts a (Send m) h = says_cuts a (messages.Adjacency (greeting_of m)) h
  answers_cuts a (Open None own) h = h
  answers_cuts a (Open (Some m) own) h = says_cuts a (messages.Adjacency (greeting_of m)) h
  answers_cuts a Reset h = h

  steps_cuts : (a : ActedSwitch) (step : Step Party) → P a → P (steps a step)
  steps_cuts a step h =
      let turned : ActedSwitch = record a { switch = record a.switch { adjacency = step.side } } in
      answers_cuts turned step.answer h

  pub tick_cuts : (a : ActedSwitch) → P a → P (tick_comes a)
  tick_cuts a h = steps_cuts a (ticked a.switch.adjacency) h

-- from a world in which nothing was cut
abbrev pub Cuts : (a b : ActedSwitch) → Type 0
Cuts a b = BranchCuts a.switch.crossbar.branches b.switch.crossbar.branches b.notes

pub uncut : (a : ActedSwitch) → cuts_in a.notes ≡ [] → Cuts a a
uncut a none = none_left a.switch.crossbar.branches a.switch.crossbar.branches a.notes none (λ input. refl)

handled_cuts : (a : ActedSwitch) (m : Message) (request : Request) (o : Option Failure) → cuts_in a.notes ≡ [] → Cuts a (replied a (handled_by a.switch a.notes m request o))
handled_cuts a m request (Some failure) none = says_cuts a.switch.crossbar.branches a _ (uncut a none)
handled_cuts a m request None none =
    let c : Changed = record { branches = a.switch.crossbar.branches; notes = a.notes } in
    let x : Handled = handled_by a.switch a.notes m request None in
    says_cuts a.switch.crossbar.branches (record a { switch = x.switch; notes = x.notes }) x.answer (after_cuts c none request)

asked_cuts : (a : ActedSwitch) (m : Message) (o : Option Asked) → cuts_in a.notes ≡ [] → Cuts a (replied a (handled_asked a.switch a.notes m o))
asked_cuts a m None none = says_cuts a.switch.crossbar.branches a m (uncut a none)
asked_cuts a m (Some asked) none = handled_cuts a m asked.request (failure_of a.switch.ports a.switch.vpis a.switch.crossbar.branches asked) none

requested_cuts : (a : ActedSwitch) (m : Message) → cuts_in a.notes ≡ [] → Cuts a (requested a m)
requested_cuts a m none = on_both (Cuts a) (is_request m && is_estab a.switch.adjacency.state) (replied a (handled a.switch a.notes m)) a (asked_cuts a m (asked_in m) none) (uncut a none)

told_cuts : (a : ActedSwitch) (m : Message) → cuts_in a.notes ≡ [] → Cuts a (message_heard a m)
told_cuts a (messages.Adjacency greeting) none = steps_cuts a.switch.crossbar.branches a (gsmp_received a.switch.adjacency greeting) (uncut a none)
told_cuts a (messages.Branch kind result code number session input_port input output_port output branches priority) none =
    requested_cuts a (messages.Branch kind result code number session input_port input output_port output branches priority) none
told_cuts a (messages.Move result code number session input_port input output_port output target_port target branches priority) none =
    requested_cuts a (messages.Move result code number session input_port input output_port output target_port target branches priority) none
told_cuts a (messages.Port result code number port session function) none = requested_cuts a (messages.Port result code number port session function) none
told_cuts a (messages.AllPorts result code number rows) none = requested_cuts a (messages.AllPorts result code number rows) none

read_cuts : (a : ActedSwitch) (r : Result Message Fault) → cuts_in a.notes ≡ [] → Cuts a (frame_read a r)
read_cuts a (Ok m) none = told_cuts a m none
read_cuts a (Err fault) none = still_cut a.switch.crossbar.branches a.switch.crossbar.branches a.notes (noted a.notes (Bad a.switch.node Gsmp (gsmp_refusal fault)))
    (cuts_other a.notes (Bad a.switch.node Gsmp (gsmp_refusal fault)) refl) (uncut a none)

test_cuts : (a : ActedSwitch) (test : Tested) → cuts_in test.notes ≡ [] → Cuts a (after_test a test)
test_cuts a test none = by test.payload
  where
    by : (o : Option (List ℕ)) → Cuts a (opened_frame (record a { notes = test.notes }) o)
    by None = uncut (record a { notes = test.notes }) none
    by (Some payload) = read_cuts (record a { notes = test.notes }) (decoded payload) none

ends_cuts : (a : ActedSwitch) (cells : List Cell) → cuts_in a.notes ≡ [] → Cuts a (ends_frame a cells)
ends_cuts a [] none = uncut a none
ends_cuts a (cell ∷ cells) none = test_cuts a (tested a.notes (cell ∷ cells)) (tested_cuts a.notes (cell ∷ cells) ∙ none)

pub gsmp_cuts : (a : ActedSwitch) (cell : Cell) → cuts_in a.notes ≡ [] → Cuts a (gsmp_cell a cell)
gsmp_cuts a cell none =
    let t : Taken = taken a.notes (nat_lt 0 (free_slots a.switch)) a.switch.reassembly cell in
    ends_cuts (record a { switch = record a.switch { reassembly = t.reassembly }; notes = t.notes }) t.ended (taken_cuts a.notes (nat_lt 0 (free_slots a.switch)) a.switch.reassembly cell ∙ none)

pub restart_cuts : (a : ActedSwitch) → cuts_in a.notes ≡ []
    → BranchCuts a.switch.crossbar.branches (restarted a).switch.crossbar.branches (all_ended (record { branches = a.switch.crossbar.branches; notes = a.notes }) (keys a.switch.crossbar.branches)).notes
restart_cuts a none = all_cuts (record { branches = a.switch.crossbar.branches; notes = a.notes }) none (keys a.switch.crossbar.branches)
