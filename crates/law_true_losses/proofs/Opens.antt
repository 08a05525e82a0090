-- what is open on the branches of a switch, behind each of its rules

use Rattle.std.proofs.Common.{◌≡◌, ◌≢◌, ◌∙◌, ap, sym, subst, ℕ, zero, suc, Bool, true, false, List, [], ◌∷◌, length, Option, None, Some, refl, inl, inr, ◌⊎◌, if◌then◌else◌}
use Rattle.std.specs.Prelude.{◌==◌, ◌&&◌, nat_le, nat_lt, Result, Ok, Err}
use Rattle.std.specs.FinMap.{get, insert, keys, remove}
use Rattle.world_model.specs.Words.{NodeId, PortNo, Channel, End, Mark, Party, GivenOut, next_control, with_control, Cell, Answer, Quiet, Send, Open, Said, Step, is_estab, ticked, greeting_of, gsmp_answer, gsmp_received, Request, AddBranch, MoveBranch, DeleteTree, VerifyTree, PortManagement, Branches, same_end, new_branch, unfinished_after, route_on, switched_on, Loss, PoolFull, Journal, noted, made, frame_cells, Tested, tested, Changed, added_by, moved_by, ended_by, all_ended, inputs_on, branches_after, asked_in, is_request, failure_of, Handled, handled_by, handled_asked, handled, Switch, control_port, gsmp_channel, replied, requested, frame_read, gsmp_cell, switched_cell, is_gsmp, tick_comes, restarted, Site}
use Rattle.world_model.specs.adjacency_table.declared.message.Answer.TheVariants.{Reset}
use Rattle.world_model.specs.gsmp_wire.declared.message.Message.{Message}
use Rattle.world_model.specs.gsmp_wire.declared.message.Message.TheVariants as messages
use Rattle.world_model.specs.gsmp_wire.declared.fault.Fault.{Fault}
use Rattle.world_model.specs.gsmp_wire.declared.request.Request.TheVariants.{DeleteAll, AllPorts}
use Rattle.world_model.specs.gsmp_wire.Layout.{octets_of}
use Rattle.world_model.specs.gsmp_wire.Fields.{decoded}
use Rattle.world_model.specs.crossbar_model.declared.branch.Branch.{Branch}
use Rattle.world_model.specs.crossbar_model.Crossbar.{input_of}
use Rattle.world_model.specs.frame_model.Reassembly.{Taken, taken}
use Rattle.world_model.specs.frame_model.Sending as frames
use Rattle.law_causes.proofs.law_port_facts.Keyed.{on_both}
use Rattle.law_causes.proofs.Maps.{same_input, insert_here, insert_away, remove_here, remove_away}
use Rattle.world_model.specs.switch_model.declared.request.Asked.{Asked}
use Rattle.world_model.specs.gsmp_wire.declared.failure.Failure.{Failure}
use Rattle.world_model.specs.Requests.{branch_ended, deleted_all}
use Rattle.world_model.specs.Switch.{ActedSwitch, free_slots}
use Rattle.world_model.specs.Conduct.{with_cells, sends, says, answers, steps, message_heard, opened_frame, after_test, ends_frame, cell_routed, cell_comes}
use Rattle.law_true_losses.specs.Cut.{leads_on}
use Rattle.law_true_losses.specs.Open.{led_by, open_of, over_by, over_at, over_it, open_behind}
use Rattle.law_true_losses.proofs.Cutting.{same_ends}
use Rattle.law_true_losses.proofs.Branches.{same_itself}
use Rattle.law_true_losses.proofs.Held.{test_same}

-- *One branch*: it is as it was, or gone, or new
stays : (o : Option Branch) → open_of o ≡ open_behind None o o
stays None = refl
stays (Some b) = sym (ap (λ (t : Bool). if t then b.unfinished else None) (same_itself b.output))

pub stays_as : (o p : Option Branch) → p ≡ o → open_of p ≡ open_behind None o p
stays_as o p same = subst (λ (q : Option Branch). open_of q ≡ open_behind None o q) (sym same) (stays o)

ends_as : (o p : Option Branch) → p ≡ None → open_of p ≡ open_behind None o p
ends_as None p is = subst (λ (q : Option Branch). open_of q ≡ open_behind None None q) (sym is) refl
ends_as (Some b) p is = subst (λ (q : Option Branch). open_of q ≡ open_behind None (Some b) q) (sym is) refl

begins : (o : Option Branch) (to : End) → leads_on (led_by o) (Some to) ≡ false → open_of (Some (new_branch to)) ≡ open_behind None o (Some (new_branch to))
begins o to away = sym (ap (λ (t : Bool). if t then open_of o else None) away)

-- *All branches of a switch*, and the cell that goes over one
abbrev pub Opens : (m0 m : Branches) → (over : End → Option Cell) → Type 0
Opens m0 m over = (input : End) → open_of (get m input) ≡ open_behind (over input) (get m0 input) (get m input)

abbrev none_over : End → Option Cell
none_over input = None

all_stay : (m : Branches) → Opens m m none_over
all_stay m input = stays (get m input)

data Kept (before now : Option Branch) : Type 0 where
  as_it_was : now ≡ before → Kept before now
  is_gone : now ≡ None → Kept before now

abbrev AllKept : (m0 m : Branches) → Type 0
AllKept m0 m = (input : End) → Kept (get m0 input) (get m input)

kept_opens : (m0 m : Branches) → AllKept m0 m → Opens m0 m none_over
kept_opens m0 m h input = by (h input)
  where
    by : Kept (get m0 input) (get m input) → open_of (get m input) ≡ open_behind None (get m0 input) (get m input)
    by (as_it_was same) = stays_as (get m0 input) (get m input) same
    by (is_gone none) = ends_as (get m0 input) (get m input) none

ended_kept : (m0 : Branches) (c : Changed) (input : End) (o : Option Branch) → AllKept m0 c.branches → AllKept m0 (ended_by c input o).branches
ended_kept m0 c input None h other = h other
ended_kept m0 c input (Some b) h other = by (same_input other input)
  where
    by : (other ≡ input) ⊎ (other ≢ input) → Kept (get m0 other) (get (remove c.branches input) other)
    by (inl same) = subst (λ (e : End). Kept (get m0 e) (get (remove c.branches input) e)) (sym same) (is_gone (remove_here c.branches input))
    by (inr apart) = subst (Kept (get m0 other)) (sym (remove_away c.branches input other apart)) (h other)

all_kept : (m0 : Branches) (c : Changed) (inputs : List End) → AllKept m0 c.branches → AllKept m0 (all_ended c inputs).branches
all_kept m0 c [] h = h
all_kept m0 c (input ∷ inputs) h = all_kept m0 (branch_ended c input) inputs (ended_kept m0 c input (get c.branches input) h)

put_opens : (m : Branches) (input to : End) → leads_on (led_by (get m input)) (Some to) ≡ false → Opens m (insert m input (new_branch to)) none_over
put_opens m input to away other = by (same_input other input)
  where
    after : Branches
    after = insert m input (new_branch to)

    by : (other ≡ input) ⊎ (other ≢ input) → open_of (get after other) ≡ open_behind None (get m other) (get after other)
    by (inl same) = subst (λ (e : End). open_of (get after e) ≡ open_behind None (get m e) (get after e)) (sym same)
        (subst (λ (o : Option Branch). open_of o ≡ open_behind None (get m input) o) (sym (insert_here m input (new_branch to))) (begins (get m input) to away))
    by (inr apart) = stays_as (get m other) (get after other) (insert_away m input other (new_branch to) apart)

-- *A request*
module _ (c : Changed) where
  abbrev ToOpens : Changed → Type 0
  ToOpens d = Opens c.branches d.branches none_over

  all_opens : (inputs : List End) → ToOpens (all_ended c inputs)
  all_opens inputs = kept_opens c.branches (all_ended c inputs).branches (all_kept c.branches c inputs (λ input. as_it_was refl))

  added_opens : (input output : End) (o : Option Branch) → get c.branches input ≡ o → ToOpens (record c { branches = added_by c.branches input output o })
  added_opens input output None found = put_opens c.branches input output (ap (λ (o : Option Branch). leads_on (led_by o) (Some output)) found)
  added_opens input output (Some b) found = all_stay c.branches

  moved_opens : (input to : End) (b : Branch) → get c.branches input ≡ Some b → (t : Bool) → same_end b.output to ≡ t → Opens c.branches (if t then c.branches else insert c.branches input (new_branch to)) none_over
  moved_opens input to b found true leads = all_stay c.branches
  moved_opens input to b found false leads = put_opens c.branches input to (ap (λ (o : Option Branch). leads_on (led_by o) (Some to)) found ∙ leads)

  to_opens : (input to : End) (o : Option Branch) → get c.branches input ≡ o → ToOpens (moved_by c input to o)
  to_opens input to None found = all_stay c.branches
  to_opens input to (Some b) found = moved_opens input to b found (same_end b.output to) refl

  after_opens : (request : Request) → ToOpens (branches_after c request)
  after_opens (AddBranch input output) = added_opens input output (get c.branches input) refl
  after_opens (MoveBranch input from to) = to_opens input to (get c.branches input) refl
  after_opens (DeleteTree input) = all_opens (input ∷ [])
  after_opens (VerifyTree input) = all_stay c.branches
  after_opens (DeleteAll port) = all_opens (inputs_on c.branches port)
  after_opens (PortManagement port function) = on_both ToOpens (function == 2) (deleted_all c port) c (all_opens (inputs_on c.branches port)) (all_stay c.branches)
  after_opens AllPorts = all_stay c.branches

-- *A switch acts*
module _ (m0 : Branches) where
  abbrev P : ActedSwitch → Type 0
  P a = Opens m0 a.switch.crossbar.branches none_over

  sends_kept : (a : ActedSwitch) (port : PortNo) (channel : Channel) (mark : Mark) (payload : List ℕ) → P a → P (sends a port channel mark payload)
  sends_kept a port channel mark payload h = on_both (λ (s : frames.Sender Switch). Opens m0 s.queues.crossbar.branches none_over) (nat_le (length cells) (free_slots a.switch))
      (record { queues = with_cells a.switch port cells; notes = made a.notes mark payload })
      (record { queues = a.switch; notes = noted (made a.notes mark payload) (Loss mark PoolFull) }) h h
    where
      cells : List Cell
      cells = frame_cells channel mark payload

  says_kept : (a : ActedSwitch) (message : Message) → P a → P (says a message)
  says_kept a message h = sends_kept (record a { numbers = with_control a.numbers }) control_port gsmp_channel (next_control a.numbers) (octets_of message) h

  answers_kept : (a : ActedSwitch) (answer : Answer (Said Party) Party) → P a → P (answers a (gsmp_answer answer))
  answers_kept a Quiet h = h
  answers_kept a (Send m) h = says_kept a (messages.Adjacency (greeting_of m)) h
  answers_kept a (Open None own) h = h
  answers_kept a (Open (Some m) own) h = says_kept a (messages.Adjacency (greeting_of m)) h
  answers_kept a Reset h = h

  steps_kept : (a : ActedSwitch) (step : Step Party) → P a → P (steps a step)
  steps_kept a step h = answers_kept (record a { switch = record a.switch { adjacency = step.side } }) step.answer h

-- from what it had
abbrev To : (a b : ActedSwitch) → Type 0
To a b = Opens a.switch.crossbar.branches b.switch.crossbar.branches none_over

handled_opens : (a : ActedSwitch) (m : Message) (request : Request) (o : Option Failure) → To a (replied a (handled_by a.switch a.notes m request o))
handled_opens a m request (Some failure) = says_kept a.switch.crossbar.branches a _ (all_stay a.switch.crossbar.branches)
handled_opens a m request None =
    let x : Handled = handled_by a.switch a.notes m request None in
    says_kept a.switch.crossbar.branches (record a { switch = x.switch; notes = x.notes }) x.answer (after_opens (record { branches = a.switch.crossbar.branches; notes = a.notes }) request)

asked_opens : (a : ActedSwitch) (m : Message) (o : Option Asked) → To a (replied a (handled_asked a.switch a.notes m o))
asked_opens a m None = says_kept a.switch.crossbar.branches a m (all_stay a.switch.crossbar.branches)
asked_opens a m (Some asked) = handled_opens a m asked.request (failure_of a.switch.ports a.switch.vpis a.switch.crossbar.branches asked)

requested_opens : (a : ActedSwitch) (m : Message) → To a (requested a m)
requested_opens a m = on_both (To a) (is_request m && is_estab a.switch.adjacency.state) (replied a (handled a.switch a.notes m)) a (asked_opens a m (asked_in m)) (all_stay a.switch.crossbar.branches)

told_opens : (a : ActedSwitch) (m : Message) → To a (message_heard a m)
told_opens a (messages.Adjacency greeting) = steps_kept a.switch.crossbar.branches a (gsmp_received a.switch.adjacency greeting) (all_stay a.switch.crossbar.branches)
told_opens a (messages.Branch kind result code number session input_port input output_port output branches priority) =
    requested_opens a (messages.Branch kind result code number session input_port input output_port output branches priority)
told_opens a (messages.Move result code number session input_port input output_port output target_port target branches priority) =
    requested_opens a (messages.Move result code number session input_port input output_port output target_port target branches priority)
told_opens a (messages.Port result code number port session function) = requested_opens a (messages.Port result code number port session function)
told_opens a (messages.AllPorts result code number rows) = requested_opens a (messages.AllPorts result code number rows)

read_opens : (a : ActedSwitch) (r : Result Message Fault) → To a (frame_read a r)
read_opens a (Ok m) = told_opens a m
read_opens a (Err fault) = all_stay a.switch.crossbar.branches

test_opens : (a : ActedSwitch) (test : Tested) → To a (after_test a test)
test_opens a test = by test.payload
  where
    by : (o : Option (List ℕ)) → To a (opened_frame (record a { notes = test.notes }) o)
    by None = all_stay a.switch.crossbar.branches
    by (Some payload) = read_opens (record a { notes = test.notes }) (decoded payload)

ends_opens : (a : ActedSwitch) (cells : List Cell) → To a (ends_frame a cells)
ends_opens a [] = all_stay a.switch.crossbar.branches
ends_opens a (cell ∷ cells) = test_opens a (tested a.notes (cell ∷ cells))

gsmp_opens : (a : ActedSwitch) (cell : Cell) → To a (gsmp_cell a cell)
gsmp_opens a cell =
    let t : Taken = taken a.notes (nat_lt 0 (free_slots a.switch)) a.switch.reassembly cell in
    ends_opens (record a { switch = record a.switch { reassembly = t.reassembly }; notes = t.notes }) t.ended

-- *Of a site*
module _ (site : Site) (notes : Journal) (numbers : GivenOut) where
  abbrev a : ActedSwitch
  a = record { switch = site.switch; notes = notes; numbers = numbers }

  abbrev m : Branches
  m = site.switch.crossbar.branches

  pub tick_opens : Opens m (tick_comes a).switch.crossbar.branches none_over
  tick_opens = steps_kept m a (ticked a.switch.adjacency) (all_stay m)

  pub forged_opens : (port : PortNo) (channel : Channel) (mark : Mark) (payload : List ℕ) → Opens m (sends a port channel mark payload).switch.crossbar.branches none_over
  forged_opens port channel mark payload = sends_kept m a port channel mark payload (all_stay m)

  pub restarted_opens : Opens m (restarted a).switch.crossbar.branches none_over
  restarted_opens = all_opens (record { branches = m; notes = notes }) (keys m)

  -- *A cell comes*
  module _ (node : NodeId) (port : PortNo) (cell : Cell) where
    abbrev input : End
    input = input_of port cell

    through_opens : (b : Branch) → Opens m (insert m input (record b { unfinished = unfinished_after cell })) (λ other. over_it node other (Some (record { node = node; input = input; cell = cell })))
    through_opens b other = by (same_input other input)
      where
        after : Branches
        after = insert m input (record b { unfinished = unfinished_after cell })

        over_by_test : (e : End) (t : Bool) → ((node.0 == node.0) && same_end input e) ≡ t → over_it node e (Some (record { node = node; input = input; cell = cell })) ≡ (if t then Some cell else None)
        over_by_test e t is = ap {B = Option Cell} (λ (t : Bool). if t then Some cell else None) is

        here : ((node.0 == node.0) && same_end input input) ≡ true
        here = ap (λ (t : Bool). t && same_end input input) (test_same node.0 node.0 refl) ∙ same_itself input

        there : (e : End) → e ≢ input → (t : Bool) → same_end input e ≡ t → ((node.0 == node.0) && same_end input e) ≡ false
        there e apart true t = absurd (apart (sym (same_ends input e t)))
        there e apart false t = ap (λ (u : Bool). u && same_end input e) (test_same node.0 node.0 refl) ∙ t

        by : (other ≡ input) ⊎ (other ≢ input) → open_of (get after other) ≡ open_behind (over_it node other (Some (record { node = node; input = input; cell = cell }))) (get m other) (get after other)
        by (inl same) = subst (λ (e : End). open_of (get after e) ≡ open_behind (over_it node e (Some (record { node = node; input = input; cell = cell }))) (get m e) (get after e)) (sym same)
            (ap open_of (insert_here m input (record b { unfinished = unfinished_after cell }))
            ∙ sym (ap (λ (o : Option Cell). open_behind o (get m input) (get after input)) (over_by_test input true here)))
        by (inr apart) = stays_as (get m other) (get after other) (insert_away m input other (record b { unfinished = unfinished_after cell }) apart)
            ∙ sym (ap (λ (o : Option Cell). open_behind o (get m other) (get after other)) (over_by_test other false (there other apart (same_end input other) refl)))

    routed_opens : (o : Option Branch) (free : ℕ) → get m input ≡ o → free_slots site.switch ≡ free → Opens m (cell_routed a port cell (route_on o free)).switch.crossbar.branches (λ other. over_it node other (over_by node input o free cell))
    routed_opens None free found is = all_stay m
    routed_opens (Some b) zero found is = all_stay m
    routed_opens (Some b) (suc free) found is =
        subst (λ (o : Option Branch). Opens m (switched_on site.switch.crossbar input o (free_slots site.switch) cell).branches (λ other. over_it node other (Some (record { node = node; input = input; cell = cell })))) (sym found)
        (subst (λ (n : ℕ). Opens m (switched_on site.switch.crossbar input (Some b) n cell).branches (λ other. over_it node other (Some (record { node = node; input = input; cell = cell })))) (sym is) (through_opens b))

    pub cell_opens : Opens m (cell_comes a port cell).switch.crossbar.branches (λ other. over_it node other (over_at node (Some site) port cell))
    cell_opens = by (is_gsmp port cell.header.channel)
      where
        by : (b : Bool) → Opens m (if b then gsmp_cell a cell else switched_cell a port cell).switch.crossbar.branches
            (λ other. over_it node other (if b then None else over_by node input (get m input) (free_slots site.switch) cell))
        by true = gsmp_opens a cell
        by false = routed_opens (get m input) (free_slots site.switch) refl refl
