-- what a switch says goes to its controller on the channel of GSMP: the last cells that wait on others stay as they are

use Rattle.std.proofs.Common.{◌≡◌, ℕ, zero, suc, ◌<◌, ◌&&◌, Bool, true, false, true≢false, List, [], ◌∷◌, ◌++◌, length, slice_set, slice_index_or, Option, None, Some, Result, Ok, Err, nat_le, nat_lt, refl, sym, ◌∙◌, ap, subst, if◌then◌else◌}
use Rattle.std.specs.Option.{option_map}
use Rattle.std.specs.FinMap.{get}
use Rattle.world_model.specs.Words.{PortNo, Channel, End, Mark, Party, with_control, next_control, Cell, Said, Answer, Quiet, Send, Open, Step, is_estab, ticked, greeting_of, gsmp_answer, gsmp_received, Request, Journal, noted, Loss, PoolFull, frame_cells, made, Tested, tested, Crossbar, queue_of, switched_on, on_channel_of, route_on, same_channel, Switch, control_port, gsmp_channel, asked_in, is_request, failure_of, Handled, handled, handled_asked, handled_by, reset, replied, requested, frame_read, gsmp_cell, switched_cell, is_gsmp, tick_comes, restarted, routed, Routed}
use Rattle.world_model.specs.adjacency_table.declared.message.Answer.TheVariants.{Reset}
use Rattle.world_model.specs.gsmp_wire.declared.fault.Fault.{Fault}
use Rattle.world_model.specs.gsmp_wire.declared.message.Message.{Message}
use Rattle.world_model.specs.gsmp_wire.declared.message.Message.TheVariants as messages
use Rattle.world_model.specs.gsmp_wire.Layout.{octets_of}
use Rattle.world_model.specs.gsmp_wire.Fields.{decoded}
use Rattle.world_model.specs.frame_model.Sending.{Sender}
use Rattle.world_model.specs.frame_model.Reassembly.{Taken, taken}
use Rattle.world_model.specs.crossbar_model.declared.branch.Branch.{Branch}
use Rattle.world_model.specs.crossbar_model.declared.routed.Routed.TheVariants as routes
use Rattle.world_model.specs.crossbar_model.Crossbar.{input_of, output_of, relayed}
use Rattle.world_model.specs.switch_model.declared.request.Asked.{Asked}
use Rattle.world_model.specs.gsmp_wire.declared.failure.Failure.{Failure}
use Rattle.world_model.specs.Switch.{ActedSwitch, free_slots}
use Rattle.world_model.specs.Conduct.{with_cells, sends, says, answers, steps, message_heard, opened_frame, ends_frame, cell_routed, cell_comes}
use Rattle.world_model.proofs.Lists.{index_here}
use Rattle.law_live_orders.specs.Law.{is_last_on, last_marks}
use Rattle.law_live_orders.proofs.Marks.{channel_is, marks_there, marks_same, frame_has_none}

on_both : {A : Type 0} (P : A → Type 0) (b : Bool) (x y : A) → P x → P y → P (if b then x else y)
on_both P true x y p q = p
on_both P false x y p q = q

pub first : (p q : Bool) → (p && q) ≡ true → p ≡ true
first true q e = refl
first false q e = e

pub second : (p q : Bool) → (p && q) ≡ true → q ≡ true
second true q e = e
second false q e = absurd (true≢false (sym e))

-- *A queue* to which cells are put
set_keeps : (channel : Channel) (queues : List (List Cell)) (i j : ℕ) (cells : List Cell) → (i ≡ j → last_marks channel cells ≡ [])
    → last_marks channel (slice_index_or (slice_set queues i (slice_index_or queues i [] ++ cells)) j []) ≡ last_marks channel (slice_index_or queues j [])
set_keeps channel [] i j cells none = refl
set_keeps channel (queue ∷ queues) zero zero cells none = marks_same channel queue cells (none refl)
set_keeps channel (queue ∷ queues) zero (suc j) cells none = refl
set_keeps channel (queue ∷ queues) (suc i) zero cells none = refl
set_keeps channel (queue ∷ queues) (suc i) (suc j) cells none = set_keeps channel queues i j cells (λ e. none (ap suc e))

-- the cells of the channel of GSMP that go to the controller are no others
abbrev pub IsOther : PortNo → Channel → Type 0
IsOther port channel = port.0 ≡ 0 → same_channel gsmp_channel channel ≡ false

module _ (port : PortNo) (channel : Channel) where
  abbrev pub Keeps : ActedSwitch → ActedSwitch → Type 0
  Keeps a b = last_marks channel (queue_of b.switch.crossbar port) ≡ last_marks channel (queue_of a.switch.crossbar port)

  same : (a b : ActedSwitch) → b.switch.crossbar.queues ≡ a.switch.crossbar.queues → Keeps a b
  same a b queues = ap (λ (qs : List (List Cell)). last_marks channel (slice_index_or qs port.0 [])) queues

  module _ (other : IsOther port channel) where
    -- *Sending*
    sends_keeps : (a : ActedSwitch) (mark : Mark) (payload : List ℕ) → Keeps a (sends a control_port gsmp_channel mark payload)
    sends_keeps a mark payload =
        let cells : List Cell = frame_cells gsmp_channel mark payload in
        on_both (λ (s : Sender Switch). Keeps a (record a { switch = s.queues; notes = s.notes })) (nat_le (length cells) (free_slots a.switch))
        (record { queues = with_cells a.switch control_port cells; notes = made a.notes mark payload })
        (record { queues = a.switch; notes = noted (made a.notes mark payload) (Loss mark PoolFull) })
        (set_keeps channel a.switch.crossbar.queues 0 port.0 cells (λ e. frame_has_none channel gsmp_channel mark payload (other (sym e))))
        refl

    says_keeps : (a : ActedSwitch) (message : Message) → Keeps a (says a message)
    says_keeps a message = sends_keeps (record a { numbers = with_control a.numbers }) (next_control a.numbers) (octets_of message)

    -- *Adjacency*
    answers_keeps : (a : ActedSwitch) (answer : Answer (Said Party) Party) → Keeps a (answers a (gsmp_answer answer))
    answers_keeps a Quiet = refl
    answers_keeps a (Send message) = says_keeps a (messages.Adjacency (greeting_of message))
    answers_keeps a (Open None own) = refl
    answers_keeps a (Open (Some message) own) = says_keeps a (messages.Adjacency (greeting_of message))
    answers_keeps a Reset = same a (reset a) refl

    steps_keeps : (a : ActedSwitch) (step : Step Party) → Keeps a (steps a step)
    steps_keeps a step = answers_keeps (record a { switch = record a.switch { adjacency = step.side } }) step.answer

    -- *Requests*
    handled_by_kept : (s : Switch) (notes : Journal) (m : Message) (request : Request) (failure : Option Failure) → (handled_by s notes m request failure).switch.crossbar.queues ≡ s.crossbar.queues
    handled_by_kept s notes m request (Some failure) = refl
    handled_by_kept s notes m request None = refl

    handled_kept : (s : Switch) (notes : Journal) (m : Message) (asked : Option Asked) → (handled_asked s notes m asked).switch.crossbar.queues ≡ s.crossbar.queues
    handled_kept s notes m None = refl
    handled_kept s notes m (Some asked) = handled_by_kept s notes m asked.request (failure_of s.ports s.vpis s.crossbar.branches asked)

    requested_keeps : (a : ActedSwitch) (m : Message) → Keeps a (requested a m)
    requested_keeps a m = on_both (Keeps a) (is_request m && is_estab a.switch.adjacency.state) (replied a (handled a.switch a.notes m)) a replies refl
      where
        replies : Keeps a (replied a (handled a.switch a.notes m))
        replies =
            let h : Handled = handled a.switch a.notes m in
            let b : ActedSwitch = record a { switch = h.switch; notes = h.notes } in
            says_keeps b h.answer ∙ same a b (handled_kept a.switch a.notes m (asked_in m))

    told_keeps : (a : ActedSwitch) (m : Message) → Keeps a (message_heard a m)
    told_keeps a (messages.Adjacency greeting) = steps_keeps a (gsmp_received a.switch.adjacency greeting)
    told_keeps a (messages.Branch kind result code number session input_port input output_port output branches priority) =
        requested_keeps a (messages.Branch kind result code number session input_port input output_port output branches priority)
    told_keeps a (messages.Move result code number session input_port input output_port output target_port target branches priority) =
        requested_keeps a (messages.Move result code number session input_port input output_port output target_port target branches priority)
    told_keeps a (messages.Port result code number port session function) = requested_keeps a (messages.Port result code number port session function)
    told_keeps a (messages.AllPorts result code number rows) = requested_keeps a (messages.AllPorts result code number rows)

    -- *Frames*
    read_keeps : (a : ActedSwitch) (r : Result Message Fault) → Keeps a (frame_read a r)
    read_keeps a (Ok m) = told_keeps a m
    read_keeps a (Err fault) = refl

    opened_keeps : (a : ActedSwitch) (o : Option (List ℕ)) → Keeps a (opened_frame a o)
    opened_keeps a None = refl
    opened_keeps a (Some payload) = read_keeps a (decoded payload)

    ends_keeps : (a : ActedSwitch) (cells : List Cell) → Keeps a (ends_frame a cells)
    ends_keeps a [] = refl
    ends_keeps a (cell ∷ cells) =
        let test : Tested = tested a.notes (cell ∷ cells) in
        opened_keeps (record a { notes = test.notes }) test.payload

    gsmp_keeps : (a : ActedSwitch) (cell : Cell) → Keeps a (gsmp_cell a cell)
    gsmp_keeps a cell =
        let t : Taken = taken a.notes (nat_lt 0 (free_slots a.switch)) a.switch.reassembly cell in
        ends_keeps (record a { switch = record a.switch { reassembly = t.reassembly }; notes = t.notes }) t.ended

    -- *Ticks and restarts*
    pub tick_keeps : (a : ActedSwitch) → Keeps a (tick_comes a)
    tick_keeps a = steps_keeps a (ticked a.switch.adjacency)

    pub restart_keeps : (a : ActedSwitch) → Keeps a (restarted a)
    restart_keeps a = same a (restarted a) refl

    -- *A cell* that isn't a last one, or whose branch leads elsewhere
    module _ (a : ActedSwitch) (from : PortNo) (cell : Cell)
        (away : output_of a.switch.crossbar.branches (input_of from cell) ≡ Some (record { port = port; channel = channel }) → cell.header.last ≡ true → ⊥) where
      abbrev x : Crossbar
      x = a.switch.crossbar

      abbrev input : End
      input = input_of from cell

      put_elsewhere : (b : Branch) → get x.branches input ≡ Some b → b.output.port.0 ≡ port.0 → last_marks channel (on_channel_of cell b.output ∷ []) ≡ []
      put_elsewhere b found at_port = by (is_last_on channel (on_channel_of cell b.output)) refl
        where
          leads : same_channel b.output.channel channel ≡ true → b.output ≡ record { port = port; channel = channel }
          leads e = (let on : b.output.channel ≡ channel = channel_is b.output.channel channel e in
              λ i. record { port = record { 0 = at_port i }; channel = on i })

          by : (t : Bool) → is_last_on channel (on_channel_of cell b.output) ≡ t → last_marks channel (on_channel_of cell b.output ∷ []) ≡ []
          by false e = marks_there channel (on_channel_of cell b.output) [] e
          by true e = absurd (away (ap (option_map (λ (branch : Branch). branch.output)) found ∙ ap Some (leads (second cell.header.last (same_channel b.output.channel channel) e)))
              (first cell.header.last (same_channel b.output.channel channel) e))

      switched_keeps : (o : Option Branch) (free : ℕ) → get x.branches input ≡ o → last_marks channel (queue_of (switched_on x input o free cell) port) ≡ last_marks channel (queue_of x port)
      switched_keeps None free found = refl
      switched_keeps (Some b) zero found = refl
      switched_keeps (Some b) (suc n) found = set_keeps channel x.queues b.output.port.0 port.0 (on_channel_of cell b.output ∷ []) (put_elsewhere b found)

      routed_keeps : (r : Routed) → Keeps a (cell_routed a from cell r)
      routed_keeps (routes.Out output) = switched_keeps (get x.branches input) (free_slots a.switch) refl
      routed_keeps routes.Unconnected = refl
      routed_keeps routes.PoolFull = refl

      pub cell_keeps : Keeps a (cell_comes a from cell)
      cell_keeps = on_both (Keeps a) (is_gsmp from cell.header.channel) (gsmp_cell a cell) (switched_cell a from cell) (gsmp_keeps a cell)
          (routed_keeps (routed x (free_slots a.switch) from cell))

-- *A cell whose branch leads there* goes there, where a slot is free
module _ (a : ActedSwitch) (from : PortNo) (cell : Cell) (to : End) (leads : output_of a.switch.crossbar.branches (input_of from cell) ≡ Some to)
    (there : to.port.0 < length a.switch.crossbar.queues) (slot : nat_lt 0 (free_slots a.switch) ≡ true) (other : is_gsmp from cell.header.channel ≡ false) where
  abbrev y : Crossbar
  y = a.switch.crossbar

  abbrev entry : End
  entry = input_of from cell

  abbrev Goes : ActedSwitch → Type 0
  Goes b = queue_of b.switch.crossbar to.port ≡ queue_of y to.port ++ on_channel_of cell to ∷ []

  put_behind : (b : Branch) → b.output ≡ to → queue_of (relayed y entry b cell) to.port ≡ queue_of y to.port ++ on_channel_of cell to ∷ []
  put_behind b is = subst (λ (e : End). slice_index_or (slice_set y.queues e.port.0 (queue_of y e.port ++ on_channel_of cell e ∷ [])) to.port.0 [] ≡ queue_of y to.port ++ on_channel_of cell to ∷ []) (sym is)
      (index_here y.queues to.port.0 (queue_of y to.port ++ on_channel_of cell to ∷ []) [] there)

  one_end : (e : End) → Some e ≡ Some to → e ≡ to
  one_end e is = cc

  by_branch : (o : Option Branch) (free : ℕ) → get y.branches entry ≡ o → free_slots a.switch ≡ free → nat_lt 0 free ≡ true → option_map (λ (branch : Branch). branch.output) o ≡ Some to
      → Goes (cell_routed a from cell (route_on o free))
  by_branch None free found is some led = absurd (cc led)
  by_branch (Some b) zero found is some led = absurd (true≢false (sym some))
  by_branch (Some b) (suc free) found is some led =
      ap (λ (o : Option Branch). queue_of (switched_on y entry o (free_slots a.switch) cell) to.port) found
      ∙ (ap (λ (n : ℕ). queue_of (switched_on y entry (Some b) n cell) to.port) is ∙ put_behind b (one_end b.output led))

  pub cell_goes : Goes (cell_comes a from cell)
  cell_goes = ap (λ (b : Bool). queue_of (if b then gsmp_cell a cell else switched_cell a from cell).switch.crossbar to.port) other
      ∙ by_branch (get y.branches entry) (free_slots a.switch) refl refl slot leads
