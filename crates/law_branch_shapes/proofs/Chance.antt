-- a chain that a switch tests passes as the frame of its last cell, where the records have no chance

use Rattle.std.proofs.Common.{◌≡◌, ℕ, Bool, true, false, true≢false, List, [], ◌∷◌, ◌++◌, length, Option, None, Some, Result, Ok, Err, refl, sym, ◌∙◌, ap, subst, append_assoc, append-nil, ◌⊎◌, inl, inr, if◌then◌else◌}
use Rattle.std.specs.Prelude.{◌==◌, ◌&&◌, ◌||◌, not, nat_le, nat_lt}
use Rattle.std.specs.List.{list_any}
use Rattle.std.specs.FinMap.{get}
use Rattle.law_causes.specs.world_model.Words.{End, Mark, Greeting, Party, next_control, Answer, Quiet, Send, Open, Step, is_estab, gsmp_answer, gsmp_received, Cell, Move, Request, AddBranch, MoveBranch, DeleteTree, VerifyTree, PortManagement, Record, Loss, Chance, Bad, PoolFull, Cut, Gsmp, payload_of, is_frame, Journal, noted, gsmp_refusal, made, last_mark, payload_in, tested_by, frame_cells, most_cells, passed_over, without_slot, too_long, cut_by_move, Switch, control_port, gsmp_channel, Changed, noted_cut, moved_by, moved_to, ended_by, all_ended, inputs_on, branches_after, asked_in, is_request, failure_of, handled_by, handled_asked, handled, replied, requested, frame_read, gsmp_cell, is_wild, IsTame}
use Rattle.law_causes.specs.world_model.adjacency_table.declared.message.Answer.TheVariants.{Reset}
use Rattle.law_causes.specs.world_model.gsmp_wire.declared.fault.Fault.{Fault}
use Rattle.law_causes.specs.world_model.gsmp_wire.declared.message.Message.{Message}
use Rattle.law_causes.specs.world_model.gsmp_wire.declared.message.Message.TheVariants.{Adjacency, Branch as BranchMessage, Port, AllPorts as AllPortsMessage}
use Rattle.law_causes.specs.world_model.gsmp_wire.declared.request.Request.TheVariants.{DeleteAll, AllPorts}
use Rattle.law_causes.specs.world_model.gsmp_wire.Layout.{octets_of as message_octets}
use Rattle.law_causes.specs.world_model.gsmp_wire.Fields.{decoded}
use Rattle.law_causes.specs.world_model.frame_model.Frame.{octets_of}
use Rattle.law_causes.specs.world_model.frame_model.Sending.{Sender}
use Rattle.law_causes.specs.world_model.frame_model.Reassembly.{Taken, taken}
use Rattle.law_causes.specs.world_model.crossbar_model.declared.branch.Branch.{Branch}
use Rattle.law_causes.specs.world_model.switch_model.declared.request.Asked.{Asked}
use Rattle.law_causes.specs.world_model.gsmp_wire.declared.failure.Failure.{Failure}
use Rattle.law_causes.specs.world_model.Switch.{ActedSwitch, free_slots}
use Rattle.law_causes.specs.world_model.Requests.{branch_ended, deleted_all}
use Rattle.law_causes.specs.world_model.Conduct.{with_cells, says, answers, steps, message_heard, after_test, ends_frame}
use Rattle.law_world_views.proofs.law_port_facts.Keyed.{on_both}
use Rattle.law_branch_shapes.specs.Shapes.{ended_by as chain_ended}
use Rattle.law_world_views.proofs.law_shown_cells.Tested.{frame_is, last_is}

-- *Records are added* behind those before them
record Longer (before after : Journal) : Type 0 where
  more : List Record
  is : after.records ≡ before.records ++ more

same : (notes : Journal) → Longer notes notes
same notes = record { more = []; is = sym (append-nil notes.records) }

then_longer : (a b c : Journal) → Longer a b → Longer b c → Longer a c
then_longer a b c f g = record { more = f.more ++ g.more; is = g.is ∙ ap (λ (l : List Record). l ++ g.more) f.is ∙ append_assoc a.records f.more g.more }

abbrev Grows : ActedSwitch → ActedSwitch → Type 0
Grows a b = Longer a.notes b.notes

says_grows : (a : ActedSwitch) (m : Message) → Grows a (says a m)
says_grows a m = on_both (λ (s : Sender Switch). Longer a.notes s.notes) (nat_le (length (frame_cells gsmp_channel mark (message_octets m))) (free_slots a.switch))
    (record { queues = with_cells a.switch control_port (frame_cells gsmp_channel mark (message_octets m)); notes = made a.notes mark (message_octets m) })
    (record { queues = a.switch; notes = noted (made a.notes mark (message_octets m)) (Loss mark PoolFull) })
    (record { more = []; is = sym (append-nil a.notes.records) }) (record { more = Loss mark PoolFull ∷ []; is = refl })
  where
    mark : Mark
    mark = next_control a.numbers

answers_grow : (a : ActedSwitch) (answer : Answer Greeting Party) → Grows a (answers a answer)
answers_grow a Quiet = same a.notes
answers_grow a (Send greeting) = says_grows a (Adjacency greeting)
answers_grow a (Open None key) = same a.notes
answers_grow a (Open (Some greeting) key) = says_grows a (Adjacency greeting)
answers_grow a Reset = same a.notes

steps_grow : (a : ActedSwitch) (step : Step Party) → Grows a (steps a step)
steps_grow a step = answers_grow (record a { switch = record a.switch { adjacency = step.side } }) (gsmp_answer step.answer)

-- *A request* adds what it cuts
cut_longer : (notes : Journal) (unfinished : Option Mark) → Longer notes (noted_cut notes unfinished)
cut_longer notes None = same notes
cut_longer notes (Some mark) = record { more = Loss mark Cut ∷ []; is = refl }

ended_longer : (c : Changed) (input : End) → Longer c.notes (branch_ended c input).notes
ended_longer c input = by (get c.branches input)
  where
    by : (o : Option Branch) → Longer c.notes (ended_by c input o).notes
    by None = same c.notes
    by (Some b) = cut_longer c.notes b.unfinished

all_longer : (inputs : List End) (c : Changed) → Longer c.notes (all_ended c inputs).notes
all_longer [] c = same c.notes
all_longer (input ∷ inputs) c = then_longer c.notes (branch_ended c input).notes (all_ended (branch_ended c input) inputs).notes (ended_longer c input) (all_longer inputs (branch_ended c input))

moved_longer : (c : Changed) (input to : End) → Longer c.notes (moved_to c input to).notes
moved_longer c input to = by (get c.branches input)
  where
    by : (o : Option Branch) → Longer c.notes (moved_by c input to o).notes
    by None = same c.notes
    by (Some b) = cut_longer c.notes (cut_by_move b to)

branches_longer : (c : Changed) (request : Request) → Longer c.notes (branches_after c request).notes
branches_longer c (AddBranch input output) = same c.notes
branches_longer c (MoveBranch input from to) = moved_longer c input to
branches_longer c (DeleteTree input) = ended_longer c input
branches_longer c (DeleteAll port) = all_longer (inputs_on c.branches port) c
branches_longer c (PortManagement port function) = on_both (λ (d : Changed). Longer c.notes d.notes) (function == 2) (deleted_all c port) c (all_longer (inputs_on c.branches port) c) (same c.notes)
branches_longer c (VerifyTree input) = same c.notes
branches_longer c AllPorts = same c.notes

handled_longer : (s : Switch) (notes : Journal) (m : Message) → Longer notes (handled s notes m).notes
handled_longer s notes m = by (asked_in m)
  where
    by_failure : (asked : Asked) (o : Option Failure) → Longer notes (handled_by s notes m asked.request o).notes
    by_failure asked (Some failure) = same notes
    by_failure asked None = branches_longer (record { branches = s.crossbar.branches; notes = notes }) asked.request

    by : (o : Option Asked) → Longer notes (handled_asked s notes m o).notes
    by None = same notes
    by (Some asked) = by_failure asked (failure_of s.ports s.vpis s.crossbar.branches asked)

requested_grows : (a : ActedSwitch) (m : Message) → Grows a (requested a m)
requested_grows a m = on_both (Grows a) (is_request m && is_estab a.switch.adjacency.state) (replied a (handled a.switch a.notes m)) a
    (then_longer a.notes (handled a.switch a.notes m).notes (replied a (handled a.switch a.notes m)).notes (handled_longer a.switch a.notes m)
    (says_grows (record a { switch = (handled a.switch a.notes m).switch; notes = (handled a.switch a.notes m).notes }) (handled a.switch a.notes m).answer)) (same a.notes)

told_grows : (a : ActedSwitch) (m : Message) → Grows a (message_heard a m)
told_grows a (Adjacency greeting) = steps_grow a (gsmp_received a.switch.adjacency greeting)
told_grows a (BranchMessage kind result code number session input_port input output_port output branches priority) =
    requested_grows a (BranchMessage kind result code number session input_port input output_port output branches priority)
told_grows a (Move result code number session input_port input output_port output target_port target branches priority) =
    requested_grows a (Move result code number session input_port input output_port output target_port target branches priority)
told_grows a (Port result code number port session function) = requested_grows a (Port result code number port session function)
told_grows a (AllPortsMessage result code number rows) = requested_grows a (AllPortsMessage result code number rows)

read_grows : (a : ActedSwitch) (r : Result Message Fault) → Grows a (frame_read a r)
read_grows a (Ok m) = told_grows a m
read_grows a (Err fault) = record { more = Bad a.switch.node Gsmp (gsmp_refusal fault) ∷ []; is = refl }

-- *A chance* stays among the records
wild_within : (xs ys : List Record) (mark : Mark) → list_any is_wild ((xs ++ Chance mark ∷ []) ++ ys) ≡ true
wild_within [] ys mark = refl
wild_within (x ∷ xs) ys mark = by (is_wild x) (wild_within xs ys mark)
  where
    by : (b : Bool) → list_any is_wild ((xs ++ Chance mark ∷ []) ++ ys) ≡ true → (b || list_any is_wild ((xs ++ Chance mark ∷ []) ++ ys)) ≡ true
    by true e = refl
    by false e = e

module _ (a : ActedSwitch) (cell : Cell) where
  abbrev t : Taken
  t = taken a.notes (nat_lt 0 (free_slots a.switch)) a.switch.reassembly cell

  -- no chain ends, or the cell ends it
  abbrev Ends : Taken → Type 0
  Ends x = (x.ended ≡ []) ⊎ ((x.ended ≡ a.switch.reassembly.chain ++ cell ∷ []) × (x.notes ≡ a.notes))

  ends : Ends (taken a.notes (nat_lt 0 (free_slots a.switch)) a.switch.reassembly cell)
  ends = on_both Ends a.switch.reassembly.is_skipping (passed_over a.notes a.switch.reassembly cell) _ (inl refl)
      (on_both Ends (not (nat_lt 0 (free_slots a.switch))) (without_slot a.notes a.switch.reassembly cell) _ (inl refl)
      (on_both Ends (nat_le most_cells (length a.switch.reassembly.chain)) (too_long a.notes a.switch.reassembly cell) _ (inl refl)
      (on_both Ends cell.header.last
      (record { reassembly = record a.switch.reassembly { chain = [] }; notes = a.notes; ended = a.switch.reassembly.chain ++ cell ∷ [] })
      (record { reassembly = record a.switch.reassembly { chain = a.switch.reassembly.chain ++ cell ∷ [] }; notes = a.notes; ended = [] })
      (inr (refl, refl)) (inl refl))))

  pub tame_passes : IsTame (gsmp_cell a cell).notes.records → (first : Cell) (cells : List Cell) (payload : List ℕ) → chain_ended a cell ≡ first ∷ cells → payload_in (octets_of (first ∷ cells)) ≡ Some payload
      → payload_of a.notes.frames cell.mark ≡ Some payload
  tame_passes tame first cells payload e is = elim ends [
    | inl none ↦ absurd (cc (sym e ∙ none))
    | inr whole ↦ by_frame whole.1 (ap last_mark (sym e ∙ whole.0) ∙ last_is a.switch.reassembly.chain cell) (is_frame t.notes.frames (last_mark (first ∷ cells)) payload) refl
        (subst (λ (o : Option (List ℕ)). IsTame (after_test b (tested_by t.notes (first ∷ cells) o)).notes.records) is (subst (λ (es : List Cell). IsTame (ends_frame b es).notes.records) e tame))
  ]
    where
      b : ActedSwitch
      b = record a { switch = record a.switch { reassembly = t.reassembly }; notes = t.notes }

      by_frame : t.notes ≡ a.notes → last_mark (first ∷ cells) ≡ cell.mark → (f : Bool) → is_frame t.notes.frames (last_mark (first ∷ cells)) payload ≡ f
          → IsTame (frame_read (record b { notes = if f then t.notes else noted t.notes (Chance (last_mark (first ∷ cells))) }) (decoded payload)).notes.records → payload_of a.notes.frames cell.mark ≡ Some payload
      by_frame notes mark true f tame = subst (λ (j : Journal). payload_of j.frames cell.mark ≡ Some payload) notes
          (subst (λ (m : Mark). payload_of t.notes.frames m ≡ Some payload) mark (frame_is t.notes.frames (last_mark (first ∷ cells)) payload f))
      by_frame notes mark false f tame =
          let g = read_grows (record b { notes = noted t.notes (Chance (last_mark (first ∷ cells))) }) (decoded payload) in
          absurd (true≢false (sym (wild_within t.notes.records g.more (last_mark (first ∷ cells))) ∙ ap (list_any is_wild) (sym g.is) ∙ tame))
