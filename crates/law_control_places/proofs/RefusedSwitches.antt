-- a switch notes no `Bad`, whatever it does, where each frame of GSMP's channel can be read

use Rattle.std.proofs.Common.{◌≡◌, ℕ, true, List, [], ◌∷◌, length, Option, None, Some, Result, refl, sym, subst}
use Rattle.std.specs.Prelude.{◌==◌, ◌&&◌, nat_le, nat_lt}
use Rattle.std.specs.FinMap.{get, keys}
use Rattle.world_model.specs.Words.{PortNo, End, Mark, Party, next_control, Cell, Said, Answer, Quiet, Send, Open, Step, is_estab, ticked, greeting_of, gsmp_answer, gsmp_received, Request, AddBranch, MoveBranch, DeleteTree, VerifyTree, PortManagement, Loss, PoolFull, Cut, Unconnected, Journal, noted, frame_cells, made, payload_in, tested_by, Routed, routed, cut_by_move, Switch, control_port, gsmp_channel, Changed, asked_in, is_request, noted_cut, moved_by, ended_by, all_ended, inputs_on, branches_after, failure_of, Handled, handled, handled_asked, handled_by, replied, requested, frame_read, gsmp_cell, switched_cell, is_gsmp, tick_comes, restarted}
use Rattle.world_model.specs.adjacency_table.declared.message.Answer.TheVariants.{Reset}
use Rattle.world_model.specs.gsmp_wire.declared.fault.Fault.{Fault}
use Rattle.world_model.specs.gsmp_wire.declared.message.Message.{Message}
use Rattle.world_model.specs.gsmp_wire.declared.message.Message.TheVariants as messages
use Rattle.world_model.specs.gsmp_wire.declared.request.Request.TheVariants.{DeleteAll, AllPorts}
use Rattle.world_model.specs.gsmp_wire.Layout.{octets_of as gsmp_octets}
use Rattle.world_model.specs.gsmp_wire.Fields.{decoded}
use Rattle.world_model.specs.frame_model.Sending.{Sender}
use Rattle.world_model.specs.frame_model.Frame.{octets_of}
use Rattle.world_model.specs.frame_model.Reassembly.{Taken}
use Rattle.law_frame_readings.proofs.law_port_facts.Keyed.{on_both, on_each}
use Rattle.world_model.specs.crossbar_model.declared.branch.Branch.{Branch}
use Rattle.world_model.specs.crossbar_model.declared.routed.Routed.TheVariants as routes
use Rattle.world_model.specs.switch_model.declared.request.Asked.{Asked}
use Rattle.world_model.specs.gsmp_wire.declared.failure.Failure.{Failure}
use Rattle.world_model.specs.Switch.{ActedSwitch, free_slots}
use Rattle.world_model.specs.Requests.{branch_ended}
use Rattle.world_model.specs.Conduct.{with_cells, says, answers, steps, message_heard, after_test, ends_frame, cell_routed, cell_comes}
use Rattle.law_control_places.proofs.Notes.{AreFair, note_fair, cut_fair, taken_fair, tested_fair}
use Rattle.law_control_places.proofs.Frames.{IsOfGsmp}
pub use Rattle.law_running_worlds.proofs.Switch.{taken_by}

-- *No record is `Bad`* of a switch at work
abbrev pub Has : ActedSwitch → Type 0
Has a = AreFair a.notes

says_fair : (a : ActedSwitch) (message : Message) → Has a → Has (says a message)
says_fair a message h =
    let mark : Mark = next_control a.numbers in
    let cells : List Cell = frame_cells gsmp_channel mark (gsmp_octets message) in
    let notes : Journal = made a.notes mark (gsmp_octets message) in
    on_both (λ (s : Sender Switch). AreFair s.notes) (nat_le (length cells) (free_slots a.switch)) (record { queues = with_cells a.switch control_port cells; notes = notes })
    (record { queues = a.switch; notes = noted notes (Loss mark PoolFull) }) h (note_fair notes (Loss mark PoolFull) refl h)

-- *Branches end, or are moved*
cut_mark : (notes : Journal) (o : Option Mark) → AreFair notes → AreFair (noted_cut notes o)
cut_mark notes None h = h
cut_mark notes (Some mark) h = note_fair notes (Loss mark Cut) refl h

ended_fair : (c : Changed) (input : End) (o : Option Branch) → AreFair c.notes → AreFair (ended_by c input o).notes
ended_fair c input None h = h
ended_fair c input (Some b) h = cut_mark c.notes b.unfinished h

all_fair : (inputs : List End) (c : Changed) → AreFair c.notes → AreFair (all_ended c inputs).notes
all_fair [] c h = h
all_fair (input ∷ inputs) c h = all_fair inputs (branch_ended c input) (ended_fair c input (get c.branches input) h)

moved_fair : (c : Changed) (input to : End) (o : Option Branch) → AreFair c.notes → AreFair (moved_by c input to o).notes
moved_fair c input to None h = h
moved_fair c input to (Some b) h = cut_mark c.notes (cut_by_move b to) h

after_fair : (c : Changed) (request : Request) → AreFair c.notes → AreFair (branches_after c request).notes
after_fair c (AddBranch input output) h = h
after_fair c (MoveBranch input from to) h = moved_fair c input to (get c.branches input) h
after_fair c (DeleteTree input) h = ended_fair c input (get c.branches input) h
after_fair c (VerifyTree input) h = h
after_fair c (DeleteAll port) h = all_fair (inputs_on c.branches port) c h
after_fair c (PortManagement port function) h = on_both (λ (d : Changed). AreFair d.notes) (function == 2) (all_ended c (inputs_on c.branches port)) c (all_fair (inputs_on c.branches port) c h) h
after_fair c AllPorts h = h

-- *Requests*
handled_fair : (a : ActedSwitch) (m : Message) (o : Option Asked) → Has a → AreFair (handled_asked a.switch a.notes m o).notes
handled_fair a m None h = h
handled_fair a m (Some asked) h = by (failure_of a.switch.ports a.switch.vpis a.switch.crossbar.branches asked)
  where
    by : (o : Option Failure) → AreFair (handled_by a.switch a.notes m asked.request o).notes
    by (Some failure) = h
    by None = after_fair (record { branches = a.switch.crossbar.branches; notes = a.notes }) asked.request h

requested_fair : (a : ActedSwitch) (m : Message) → Has a → Has (requested a m)
requested_fair a m h = on_both Has (is_request m && is_estab a.switch.adjacency.state) (replied a (handled a.switch a.notes m)) a
    (let x : Handled = handled a.switch a.notes m in says_fair (record a { switch = x.switch; notes = x.notes }) x.answer (handled_fair a m (asked_in m) h)) h

-- *The adjacency*
answers_fair : (a : ActedSwitch) (answer : Answer (Said Party) Party) → Has a → Has (answers a (gsmp_answer answer))
answers_fair a Quiet h = h
answers_fair a (Send m) h = says_fair a (messages.Adjacency (greeting_of m)) h
answers_fair a (Open None own) h = h
answers_fair a (Open (Some m) own) h = says_fair a (messages.Adjacency (greeting_of m)) h
answers_fair a Reset h = h

steps_fair : (a : ActedSwitch) (step : Step Party) → Has a → Has (steps a step)
steps_fair a step h = answers_fair (record a { switch = record a.switch { adjacency = step.side } }) step.answer h

told_fair : (a : ActedSwitch) (m : Message) → Has a → Has (message_heard a m)
told_fair a (messages.Adjacency greeting) h = steps_fair a (gsmp_received a.switch.adjacency greeting) h
told_fair a (messages.Branch kind result code number session input_port input output_port output branches priority) h =
    requested_fair a (messages.Branch kind result code number session input_port input output_port output branches priority) h
told_fair a (messages.Move result code number session input_port input output_port output target_port target branches priority) h =
    requested_fair a (messages.Move result code number session input_port input output_port output target_port target branches priority) h
told_fair a (messages.Port result code number port session function) h = requested_fair a (messages.Port result code number port session function) h
told_fair a (messages.AllPorts result code number rows) h = requested_fair a (messages.AllPorts result code number rows) h

-- *A frame* that can be read
read_fair : (a : ActedSwitch) (payload : List ℕ) → IsOfGsmp payload → Has a → Has (frame_read a (decoded payload))
read_fair a payload can h = subst (λ (r : Result Message Fault). Has (frame_read a r)) (sym can.read) (told_fair a can.message h)

abbrev pub EndsRight : List Cell → Type 0
EndsRight [] = Unit {0}
EndsRight (first ∷ cells) = (payload : List ℕ) → payload_in (octets_of (first ∷ cells)) ≡ Some payload → IsOfGsmp payload

test_fair : (a : ActedSwitch) (cells : List Cell) (o : Option (List ℕ)) → ((payload : List ℕ) → o ≡ Some payload → IsOfGsmp payload) → Has a → Has (after_test a (tested_by a.notes cells o))
test_fair a cells None can h = tested_fair a.notes cells None h
test_fair a cells (Some payload) can h = read_fair (record a { notes = (tested_by a.notes cells (Some payload)).notes }) payload (can payload refl) (tested_fair a.notes cells (Some payload) h)

ends_fair : (a : ActedSwitch) (cells : List Cell) → EndsRight cells → Has a → Has (ends_frame a cells)
ends_fair a [] can h = h
ends_fair a (cell ∷ cells) can h = test_fair a (cell ∷ cells) (payload_in (octets_of (cell ∷ cells))) can h

-- *A cell comes*
gsmp_fair : (a : ActedSwitch) (cell : Cell) → EndsRight (taken_by a cell).ended → Has a → Has (gsmp_cell a cell)
gsmp_fair a cell ends h =
    let t : Taken = taken_by a cell in
    ends_fair (record a { switch = record a.switch { reassembly = t.reassembly }; notes = t.notes }) t.ended ends (taken_fair a.notes (nat_lt 0 (free_slots a.switch)) a.switch.reassembly cell h)

passed_fair : (a : ActedSwitch) (port : PortNo) (cell : Cell) (r : Routed) → Has a → Has (cell_routed a port cell r)
passed_fair a port cell (routes.Out output) h = h
passed_fair a port cell routes.Unconnected h = note_fair a.notes (Loss cell.mark Unconnected) refl h
passed_fair a port cell routes.PoolFull h = note_fair a.notes (Loss cell.mark PoolFull) refl h

pub cell_fair : (a : ActedSwitch) (port : PortNo) (cell : Cell) → (is_gsmp port cell.header.channel ≡ true → EndsRight (taken_by a cell).ended) → Has a → Has (cell_comes a port cell)
cell_fair a port cell ends h = on_each Has (is_gsmp port cell.header.channel) (gsmp_cell a cell) (switched_cell a port cell) (λ is. gsmp_fair a cell (ends is) h)
    (λ other. passed_fair a port cell (routed a.switch.crossbar (free_slots a.switch) port cell) h)

-- *Ticks and restarts*
pub ticks_fair : (a : ActedSwitch) → Has a → Has (tick_comes a)
ticks_fair a h = steps_fair a (ticked a.switch.adjacency) h

pub restarts_fair : (a : ActedSwitch) → Has a → Has (restarted a)
restarts_fair a h =
    let c : Changed = record { branches = a.switch.crossbar.branches; notes = a.notes } in
    let d : Changed = all_ended c (keys a.switch.crossbar.branches) in
    cut_fair d.notes a.switch.reassembly (all_fair (keys a.switch.crossbar.branches) c h)
