-- whatever comes to a switch, its side of the adjacency with its controller is such a side still

use Rattle.std.proofs.Common.{◌≡◌, ℕ, List, [], ◌∷◌, length, Option, None, Some, Result, Ok, Err, refl, sym, subst}
use Rattle.std.specs.Prelude.{nat_le, nat_lt, ◌&&◌}
use Rattle.world_model.specs.Words.{PortNo, Channel, Mark, Cell, Party, Step, Send, Open, Quiet, Answer, Greeting, Journal, Loss, PoolFull, noted, frame_cells, made, next_control, with_control, payload_in, tested_by, gsmp_received, gsmp_answer, ticked, is_estab, asked_in, is_request, failure_of, Handled, handled, handled_asked, handled_by, Switch, control_port, gsmp_channel, is_gsmp, gsmp_cell, requested, replied, frame_read, switched_cell, Routed, routed, tick_comes, restarted}
use Rattle.world_model.specs.adjacency_table.declared.message.Answer.TheVariants.{Reset}
use Rattle.world_model.specs.gsmp_wire.declared.failure.Failure.{Failure}
use Rattle.world_model.specs.gsmp_wire.declared.fault.Fault.{Fault}
use Rattle.world_model.specs.gsmp_wire.declared.message.Message.{Message}
use Rattle.world_model.specs.gsmp_wire.declared.message.Message.TheVariants.{Adjacency, Branch, Move, Port, AllPorts}
use Rattle.world_model.specs.gsmp_wire.Layout.{octets_of as message_octets}
use Rattle.world_model.specs.gsmp_wire.Fields.{decoded}
use Rattle.world_model.specs.frame_model.Frame.{octets_of}
use Rattle.world_model.specs.frame_model.Reassembly.{Taken, taken}
use Rattle.world_model.specs.frame_model.Sending.{Sender}
use Rattle.world_model.specs.crossbar_model.declared.routed.Routed.TheVariants as routes
use Rattle.world_model.specs.switch_model.declared.request.Asked.{Asked}
use Rattle.world_model.specs.Switch.{ActedSwitch, free_slots}
use Rattle.world_model.specs.Conduct.{sends, with_cells, says, answers, steps, message_heard, after_test, ends_frame, cell_routed, cell_comes}
use Rattle.law_live_woken.proofs.law_controller_facts.law_port_facts.Keyed.{on_both}
use Rattle.law_live_woken.specs.law_live_waking.Beats.{IsSuchSide}
use Rattle.law_live_rested.proofs.Sides.{heard_such, ticked_such, begun_such}

abbrev pub HasSide : ActedSwitch → Type 0
HasSide a = IsSuchSide a.switch.adjacency

-- *What it says*
pub sends_has : (a : ActedSwitch) (port : PortNo) (channel : Channel) (mark : Mark) (payload : List ℕ) → HasSide a → HasSide (sends a port channel mark payload)
sends_has a port channel mark payload h = on_both (λ (s : Sender Switch). IsSuchSide s.queues.adjacency) (nat_le (length (frame_cells channel mark payload)) (free_slots a.switch))
    (record { queues = with_cells a.switch port (frame_cells channel mark payload); notes = made a.notes mark payload })
    (record { queues = a.switch; notes = noted (made a.notes mark payload) (Loss mark PoolFull) }) h h

says_has : (a : ActedSwitch) (message : Message) → HasSide a → HasSide (says a message)
says_has a message h = sends_has (record a { numbers = with_control a.numbers }) control_port gsmp_channel (next_control a.numbers) (message_octets message) h

-- *The table's answer*
answers_has : (a : ActedSwitch) (answer : Answer Greeting Party) → HasSide a → HasSide (answers a answer)
answers_has a Quiet h = h
answers_has a (Send greeting) h = says_has a (Adjacency greeting) h
answers_has a (Open None own) h = h
answers_has a (Open (Some greeting) own) h = says_has a (Adjacency greeting) h
answers_has a Reset h = begun_such _

steps_has : (a : ActedSwitch) (step : Step Party) → IsSuchSide step.side → HasSide (steps a step)
steps_has a step h = answers_has (record a { switch = record a.switch { adjacency = step.side } }) (gsmp_answer step.answer) h

-- *A request* leaves its side as it is
handled_side : (s : Switch) (notes : Journal) (message : Message) (o : Option Asked) → (handled_asked s notes message o).switch.adjacency ≡ s.adjacency
handled_side s notes message None = refl
handled_side s notes message (Some asked) = by (failure_of s.ports s.vpis s.crossbar.branches asked)
  where
    by : (o : Option Failure) → (handled_by s notes message asked.request o).switch.adjacency ≡ s.adjacency
    by (Some failure) = refl
    by None = refl

requested_has : (a : ActedSwitch) (message : Message) → HasSide a → HasSide (requested a message)
requested_has a message h =
    let x : Handled = handled a.switch a.notes message in
    on_both HasSide (is_request message && is_estab a.switch.adjacency.state) (replied a x) a
    (says_has (record a { switch = x.switch; notes = x.notes }) x.answer (subst IsSuchSide (sym (handled_side a.switch a.notes message (asked_in message))) h)) h

told_has : (a : ActedSwitch) (message : Message) → HasSide a → HasSide (message_heard a message)
told_has a (Adjacency greeting) h = steps_has a (gsmp_received a.switch.adjacency greeting) (heard_such a.switch.adjacency greeting h)
told_has a (Branch kind result code number session input_port input output_port output branches priority) h =
    requested_has a (Branch kind result code number session input_port input output_port output branches priority) h
told_has a (Move result code number session input_port input output_port output target_port target branches priority) h =
    requested_has a (Move result code number session input_port input output_port output target_port target branches priority) h
told_has a (Port result code number port session function) h = requested_has a (Port result code number port session function) h
told_has a (AllPorts result code number rows) h = requested_has a (AllPorts result code number rows) h

-- *A frame*
read_has : (a : ActedSwitch) (r : Result Message Fault) → HasSide a → HasSide (frame_read a r)
read_has a (Err fault) h = h
read_has a (Ok message) h = told_has a message h

tests_has : (a : ActedSwitch) (cells : List Cell) (o : Option (List ℕ)) → HasSide a → HasSide (after_test a (tested_by a.notes cells o))
tests_has a cells None h = h
tests_has a cells (Some payload) h = read_has (record a { notes = (tested_by a.notes cells (Some payload)).notes }) (decoded payload) h

ends_has : (a : ActedSwitch) (cells : List Cell) → HasSide a → HasSide (ends_frame a cells)
ends_has a [] h = h
ends_has a (cell ∷ cells) h = tests_has a (cell ∷ cells) (payload_in (octets_of (cell ∷ cells))) h

gsmp_has : (a : ActedSwitch) (cell : Cell) → HasSide a → HasSide (gsmp_cell a cell)
gsmp_has a cell h =
    let t : Taken = taken a.notes (nat_lt 0 (free_slots a.switch)) a.switch.reassembly cell in
    ends_has (record a { switch = record a.switch { reassembly = t.reassembly }; notes = t.notes }) t.ended h

routed_has : (a : ActedSwitch) (port : PortNo) (cell : Cell) (r : Routed) → HasSide a → HasSide (cell_routed a port cell r)
routed_has a port cell (routes.Out output) h = h
routed_has a port cell routes.Unconnected h = h
routed_has a port cell routes.PoolFull h = h

-- *What comes*: a cell, a tick, a restart
pub cell_has : (a : ActedSwitch) (port : PortNo) (cell : Cell) → HasSide a → HasSide (cell_comes a port cell)
cell_has a port cell h = on_both HasSide (is_gsmp port cell.header.channel) (gsmp_cell a cell) (switched_cell a port cell)
    (gsmp_has a cell h) (routed_has a port cell (routed a.switch.crossbar (free_slots a.switch) port cell) h)

pub tick_has : (a : ActedSwitch) → HasSide a → HasSide (tick_comes a)
tick_has a h = steps_has a (ticked a.switch.adjacency) (ticked_such a.switch.adjacency h)

pub restarted_has : (a : ActedSwitch) → HasSide (restarted a)
restarted_has a = begun_such _
