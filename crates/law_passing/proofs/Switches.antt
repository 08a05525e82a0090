-- whatever comes to a switch puts cells at the ends of its queues, and takes none out

use Rattle.std.proofs.Common.{◌≡◌, ℕ, zero, suc, List, [], ◌∷◌, ◌++◌, length, slice_set, slice_index_or, Option, None, Some, refl, ap}
use Rattle.std.specs.Prelude.{nat_le, nat_lt, ◌&&◌, Result, Ok, Err}
use Rattle.std.specs.FinMap.{get}
use Rattle.law_actor_pace.specs.world_model.Words.{PortNo, Channel, End, Mark, Party, with_control, next_control, Cell, Said, Answer, Quiet, Send, Open, Step, is_estab, ticked, greeting_of, gsmp_answer, gsmp_received, Request, Journal, noted, Loss, PoolFull, frame_cells, made, Tested, tested, Routed, Crossbar, queue_of, sent, switched_on, on_channel_of, routed, Switch, control_port, gsmp_channel, asked_in, is_request, failure_of, Handled, handled, handled_asked, handled_by, reset, replied, requested, frame_read, gsmp_cell, switched_cell, is_gsmp, tick_comes, restarted}
use Rattle.law_actor_pace.specs.world_model.adjacency_table.declared.message.Answer.TheVariants.{Reset}
use Rattle.law_actor_pace.specs.world_model.gsmp_wire.declared.fault.Fault.{Fault}
use Rattle.law_actor_pace.specs.world_model.gsmp_wire.declared.message.Message.{Message}
use Rattle.law_actor_pace.specs.world_model.gsmp_wire.declared.message.Message.TheVariants as messages
use Rattle.law_actor_pace.specs.world_model.gsmp_wire.Layout.{octets_of}
use Rattle.law_actor_pace.specs.world_model.gsmp_wire.Fields.{decoded}
use Rattle.law_actor_pace.specs.world_model.frame_model.Sending.{Sender}
use Rattle.law_actor_pace.specs.world_model.frame_model.Reassembly.{Taken, taken}
use Rattle.law_actor_pace.specs.world_model.crossbar_model.declared.branch.Branch.{Branch}
use Rattle.law_actor_pace.specs.world_model.crossbar_model.declared.routed.Routed.TheVariants as routes
use Rattle.law_actor_pace.specs.world_model.crossbar_model.Crossbar.{input_of}
use Rattle.law_actor_pace.specs.world_model.switch_model.declared.request.Asked.{Asked}
use Rattle.law_actor_pace.specs.world_model.gsmp_wire.declared.failure.Failure.{Failure}
use Rattle.law_actor_pace.specs.world_model.Switch.{ActedSwitch, free_slots}
use Rattle.law_actor_pace.specs.world_model.Conduct.{with_cells, sends, says, answers, steps, message_heard, opened_frame, ends_frame, cell_routed, cell_comes}
use Rattle.law_actor_pace.proofs.Cells.{on_both}
use Rattle.law_passing.proofs.Fronts.{Grows, as_it_was, grows_same, grows_then}

-- *Cells are added* to its queues, or none
abbrev QueuesGrow : Crossbar → Crossbar → Type 0
QueuesGrow x y = (port : PortNo) → Grows (queue_of x port) (queue_of y port)

abbrev pub Adds : ActedSwitch → ActedSwitch → Type 0
Adds a b = QueuesGrow a.switch.crossbar b.switch.crossbar

itself : (a : ActedSwitch) → Adds a a
itself a port = as_it_was (queue_of a.switch.crossbar port)

adds_then : (a b c : ActedSwitch) → Adds a b → Adds b c → Adds a c
adds_then a b c p q port = grows_then (p port) (q port)

same : (a b : ActedSwitch) → b.switch.crossbar.queues ≡ a.switch.crossbar.queues → Adds a b
same a b queues port = grows_same (ap (λ qs. slice_index_or qs port.0 []) queues)

-- *Sending*
set_grows : (queues : List (List Cell)) (i j : ℕ) (cells : List Cell)
    → Grows (slice_index_or queues j []) (slice_index_or (slice_set queues i (slice_index_or queues i [] ++ cells)) j [])
set_grows [] i j cells = as_it_was []
set_grows (queue ∷ queues) zero zero cells = record { more = cells; is = refl }
set_grows (queue ∷ queues) zero (suc j) cells = as_it_was (slice_index_or queues j [])
set_grows (queue ∷ queues) (suc i) zero cells = as_it_was queue
set_grows (queue ∷ queues) (suc i) (suc j) cells = set_grows queues i j cells

sent_grows : (x : Crossbar) (port : PortNo) (cells : List Cell) → QueuesGrow x (sent x port cells)
sent_grows x port cells other = set_grows x.queues port.0 other.0 cells

pub sends_adds : (a : ActedSwitch) (port : PortNo) (channel : Channel) (mark : Mark) (payload : List ℕ) → Adds a (sends a port channel mark payload)
sends_adds a port channel mark payload =
    let cells : List Cell = frame_cells channel mark payload in
    on_both (λ (s : Sender Switch). Adds a (record a { switch = s.queues; notes = s.notes })) (nat_le (length cells) (free_slots a.switch))
    (record { queues = with_cells a.switch port cells; notes = made a.notes mark payload })
    (record { queues = a.switch; notes = noted (made a.notes mark payload) (Loss mark PoolFull) })
    (sent_grows a.switch.crossbar port cells)
    (itself a)

says_adds : (a : ActedSwitch) (message : Message) → Adds a (says a message)
says_adds a message = sends_adds (record a { numbers = with_control a.numbers }) control_port gsmp_channel (next_control a.numbers) (octets_of message)

-- *Adjacency*
answers_adds : (a : ActedSwitch) (answer : Answer (Said Party) Party) → Adds a (answers a (gsmp_answer answer))
answers_adds a Quiet = itself a
answers_adds a (Send message) = says_adds a (messages.Adjacency (greeting_of message))
answers_adds a (Open None own) = itself a
answers_adds a (Open (Some message) own) = says_adds a (messages.Adjacency (greeting_of message))
answers_adds a Reset = same a (reset a) refl

steps_adds : (a : ActedSwitch) (step : Step Party) → Adds a (steps a step)
steps_adds a step =
    let turned : ActedSwitch = record a { switch = record a.switch { adjacency = step.side } } in
    adds_then a turned (steps a step) (same a turned refl) (answers_adds turned step.answer)

-- *Requests*
handled_by_kept : (s : Switch) (notes : Journal) (m : Message) (request : Request) (failure : Option Failure) → (handled_by s notes m request failure).switch.crossbar.queues ≡ s.crossbar.queues
handled_by_kept s notes m request (Some failure) = refl
handled_by_kept s notes m request None = refl

handled_kept : (s : Switch) (notes : Journal) (m : Message) (asked : Option Asked) → (handled_asked s notes m asked).switch.crossbar.queues ≡ s.crossbar.queues
handled_kept s notes m None = refl
handled_kept s notes m (Some asked) = handled_by_kept s notes m asked.request (failure_of s.ports s.vpis s.crossbar.branches asked)

requested_adds : (a : ActedSwitch) (m : Message) → Adds a (requested a m)
requested_adds a m = on_both (Adds a) (is_request m && is_estab a.switch.adjacency.state) (replied a (handled a.switch a.notes m)) a replies (itself a)
  where
    replies : Adds a (replied a (handled a.switch a.notes m))
    replies =
        let h : Handled = handled a.switch a.notes m in
        let b : ActedSwitch = record a { switch = h.switch; notes = h.notes } in
        adds_then a b (replied a h) (same a b (handled_kept a.switch a.notes m (asked_in m))) (says_adds b h.answer)

told_adds : (a : ActedSwitch) (m : Message) → Adds a (message_heard a m)
told_adds a (messages.Adjacency greeting) = steps_adds a (gsmp_received a.switch.adjacency greeting)
told_adds a (messages.Branch kind result code number session input_port input output_port output branches priority) =
    requested_adds a (messages.Branch kind result code number session input_port input output_port output branches priority)
told_adds a (messages.Move result code number session input_port input output_port output target_port target branches priority) =
    requested_adds a (messages.Move result code number session input_port input output_port output target_port target branches priority)
told_adds a (messages.Port result code number port session function) = requested_adds a (messages.Port result code number port session function)
told_adds a (messages.AllPorts result code number rows) = requested_adds a (messages.AllPorts result code number rows)

-- *Frames*
read_adds : (a : ActedSwitch) (r : Result Message Fault) → Adds a (frame_read a r)
read_adds a (Ok m) = told_adds a m
read_adds a (Err fault) = same a (frame_read a (Err fault)) refl

opened_adds : (a : ActedSwitch) (o : Option (List ℕ)) → Adds a (opened_frame a o)
opened_adds a None = itself a
opened_adds a (Some payload) = read_adds a (decoded payload)

ends_adds : (a : ActedSwitch) (cells : List Cell) → Adds a (ends_frame a cells)
ends_adds a [] = itself a
ends_adds a (cell ∷ cells) =
    let test : Tested = tested a.notes (cell ∷ cells) in
    let b : ActedSwitch = record a { notes = test.notes } in
    adds_then a b (ends_frame a (cell ∷ cells)) (same a b refl) (opened_adds b test.payload)

gsmp_adds : (a : ActedSwitch) (cell : Cell) → Adds a (gsmp_cell a cell)
gsmp_adds a cell =
    let t : Taken = taken a.notes (nat_lt 0 (free_slots a.switch)) a.switch.reassembly cell in
    let b : ActedSwitch = record a { switch = record a.switch { reassembly = t.reassembly }; notes = t.notes } in
    adds_then a b (gsmp_cell a cell) (same a b refl) (ends_adds b t.ended)

-- *Cells*
switched_grows : (x : Crossbar) (input : End) (o : Option Branch) (free : ℕ) (cell : Cell) → QueuesGrow x (switched_on x input o free cell)
switched_grows x input None free cell port = as_it_was (queue_of x port)
switched_grows x input (Some b) zero cell port = as_it_was (queue_of x port)
switched_grows x input (Some b) (suc n) cell port = sent_grows x b.output.port (on_channel_of cell b.output ∷ []) port

passed_adds : (a : ActedSwitch) (port : PortNo) (cell : Cell) (r : Routed) → Adds a (cell_routed a port cell r)
passed_adds a port cell (routes.Out output) =
    let x = a.switch.crossbar in
    switched_grows x (input_of port cell) (get x.branches (input_of port cell)) (free_slots a.switch) cell
passed_adds a port cell routes.Unconnected = same a (cell_routed a port cell routes.Unconnected) refl
passed_adds a port cell routes.PoolFull = same a (cell_routed a port cell routes.PoolFull) refl

pub cell_adds : (a : ActedSwitch) (port : PortNo) (cell : Cell) → Adds a (cell_comes a port cell)
cell_adds a port cell = on_both (Adds a) (is_gsmp port cell.header.channel) (gsmp_cell a cell) (switched_cell a port cell) (gsmp_adds a cell)
    (passed_adds a port cell (routed a.switch.crossbar (free_slots a.switch) port cell))

-- *Ticks and restarts*
pub tick_adds : (a : ActedSwitch) → Adds a (tick_comes a)
tick_adds a = steps_adds a (ticked a.switch.adjacency)

pub restart_adds : (a : ActedSwitch) → Adds a (restarted a)
restart_adds a = same a (restarted a) refl
