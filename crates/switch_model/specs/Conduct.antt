-- What a switch does at each input: a cell, a tick, a restart. The cells are RFC 1987's and I.361's;
-- what is kept of them and recorded is this project's own.

use Rattle.std.specs.Prelude.{ℕ, Bool, not, ◌&&◌, ◌+◌, ◌==◌, List, [], ◌∷◌, map, nat_lt, Option, None, Some, Result, Ok, Err, min, if◌then◌else◌}
use Rattle.std.specs.FinMap.{keys}
use Rattle.net_types.specs.declared.node.PortNo.{PortNo}
use Rattle.net_types.specs.declared.number.Mark.{Mark}
use Rattle.net_types.specs.declared.channel.Channel.{Channel}
use Rattle.net_types.specs.declared.adjacency.Greeting.{Greeting}
use Rattle.net_types.specs.declared.adjacency.Party.{Party}
use Rattle.net_types.specs.Number.{next_control, with_control, next_instance, with_instance}
use Rattle.crossbar_model.specs.atm_cells.declared.cell.Cell.{Cell}
use Rattle.adjacency_table.specs.declared.State.TheVariants.{SynSent}
use Rattle.adjacency_table.specs.declared.message.Answer.{Answer}
use Rattle.adjacency_table.specs.declared.message.Answer.TheVariants.{Quiet, Send, Open, Reset}
use Rattle.adjacency_table.specs.Side.{Step, fresh, is_estab, ticked}
use Rattle.adjacency_table.specs.Greeting.{gsmp_answer, gsmp_received}
use Rattle.gsmp_wire.specs.declared.fault.Fault.{Fault}
use Rattle.gsmp_wire.specs.declared.message.Message.{Message}
use Rattle.gsmp_wire.specs.declared.message.Message.TheVariants.{Adjacency}
use Rattle.gsmp_wire.specs.Layout.{octets_of}
use Rattle.gsmp_wire.specs.Fields.{decoded}
use Rattle.frame_model.specs.link_model.declared.record.Record.TheVariants.{Loss, Bad}
use Rattle.frame_model.specs.link_model.declared.record.Cause.TheVariants.{Unconnected, PoolFull}
use Rattle.frame_model.specs.link_model.declared.record.Layer.TheVariants.{Gsmp}
use Rattle.frame_model.specs.link_model.Notes.{noted}
use Rattle.refusal_names.specs.Names.{gsmp_refusal}
use Rattle.frame_model.specs.Reassembly.{Taken, taken, cut, nothing_taken}
use Rattle.frame_model.specs.Frame.{Tested, tested}
use Rattle.frame_model.specs.Sending.{Sender, sent_frame}
use Rattle.crossbar_model.specs.declared.routed.Routed.{Routed}
use Rattle.crossbar_model.specs.declared.routed.Routed.TheVariants as routes
use Rattle.crossbar_model.specs.Crossbar.{routed, switched, sent}
use Rattle.switch_model.specs.Switch.{Switch, ActedSwitch, control_port, gsmp_channel, free_slots, with_branches, begun}
use Rattle.switch_model.specs.Requests.{Changed, all_ended, is_request}
use Rattle.switch_model.specs.Answers.{Handled, handled}

-- *Sending*

abbrev pub with_cells : Switch → PortNo → List Cell → Switch
with_cells s port cells = record s { crossbar = sent s.crossbar port cells }

-- the cells of a frame go to the end of a port's queue, or PoolFull is entered
abbrev pub sends : ActedSwitch → PortNo → Channel → Mark → (payload : List ℕ) → ActedSwitch
sends a port channel mark payload =
    let before : Sender Switch = record { queues = a.switch; notes = a.notes } in
    let after = sent_frame (free_slots a.switch) (with_cells a.switch port) before channel mark payload in
    record a { switch = after.queues; notes = after.notes }

-- a message is sent to the controller; its frame has the next mark, whether or not it finds slots
abbrev pub says : ActedSwitch → Message → ActedSwitch
says a message =
    sends (record a { numbers = with_control a.numbers }) control_port gsmp_channel (next_control a.numbers) (octets_of message)

-- a frame that no node made is put on a port's queue
abbrev pub forged : ActedSwitch → PortNo → Channel → Mark → (payload : List ℕ) → ActedSwitch
forged a port channel mark payload = sends a port channel mark payload

-- *Adjacency*

-- a reset draws a new instance, and leaves all else as it is
abbrev pub reset : ActedSwitch → ActedSwitch
reset a =
    let own = record a.switch.adjacency.own { instance = next_instance a.numbers } in
    record a {
      switch = record a.switch { adjacency = fresh SynSent own };
      numbers = with_instance a.numbers;
    }

-- what the table answers is done
abbrev pub answers : ActedSwitch → Answer Greeting Party → ActedSwitch
answers a Quiet = a
answers a (Send greeting) = says a (Adjacency greeting)
answers a (Open None key) = a
answers a (Open (Some greeting) key) = says a (Adjacency greeting)
answers a Reset = reset a

abbrev pub steps : ActedSwitch → Step Party → ActedSwitch
steps a step = answers (record a { switch = record a.switch { adjacency = step.side } }) (gsmp_answer step.answer)

-- *Messages*

abbrev pub greeted : ActedSwitch → Greeting → ActedSwitch
greeted a greeting = steps a (gsmp_received a.switch.adjacency greeting)

-- a request is handled, and answered
abbrev pub replied : ActedSwitch → Handled → ActedSwitch
replied a h = says (record a { switch = h.switch; notes = h.notes }) h.answer

-- requests are taken in Estab alone, and other messages are ignored
abbrev pub requested : ActedSwitch → Message → ActedSwitch
requested a message =
    if is_request message && is_estab a.switch.adjacency.state
    then replied a (handled a.switch a.notes message)
    else a

abbrev pub message_heard : ActedSwitch → Message → ActedSwitch
message_heard a (Adjacency greeting) = greeted a greeting
message_heard a message = requested a message

-- *Frames*

abbrev pub frame_read : ActedSwitch → Result Message Fault → ActedSwitch
frame_read a (Ok message) = message_heard a message
frame_read a (Err fault) = record a { notes = noted a.notes (Bad a.switch.node Gsmp (gsmp_refusal fault)) }

-- a frame that failed its test holds nothing
abbrev pub opened_frame : ActedSwitch → Option (List ℕ) → ActedSwitch
opened_frame a None = a
opened_frame a (Some payload) = frame_read a (decoded payload)

abbrev pub after_test : ActedSwitch → Tested → ActedSwitch
after_test a test = opened_frame (record a { notes = test.notes }) test.payload

-- a chain that a last cell ended is tested, and its frame acts
abbrev pub ends_frame : ActedSwitch → List Cell → ActedSwitch
ends_frame a [] = a
ends_frame a (cell ∷ cells) = after_test a (tested a.notes (cell ∷ cells))

-- *Cells*

abbrev pub after_cell : ActedSwitch → Taken → ActedSwitch
after_cell a t =
    ends_frame (record a { switch = record a.switch { reassembly = t.reassembly }; notes = t.notes }) t.ended

-- a cell of the GSMP channel joins its reassembly
abbrev pub gsmp_cell : ActedSwitch → Cell → ActedSwitch
gsmp_cell a cell = after_cell a (taken a.notes (nat_lt 0 (free_slots a.switch)) a.switch.reassembly cell)

-- a count that stays at its type's end
abbrev pub one_more_switched : ℕ → ℕ
one_more_switched n = min (n + 1) 18446744073709551615

-- cells from a port of a link to a port of a link are counted
abbrev pub counted : (from to : PortNo) → ℕ → ℕ
counted from to n = if not (from.0 == 0) && not (to.0 == 0) then one_more_switched n else n

-- a cell goes where its branch leads, and else gets its entry
abbrev pub cell_routed : ActedSwitch → PortNo → Cell → Routed → ActedSwitch
cell_routed a port cell (routes.Out output) =
    let s = a.switch in
    record a {
      switch = record s {
        crossbar = switched s.crossbar (free_slots s) port cell;
        switched = counted port output.port s.switched;
      };
    }
cell_routed a port cell routes.Unconnected = record a { notes = noted a.notes (Loss cell.mark Unconnected) }
cell_routed a port cell routes.PoolFull = record a { notes = noted a.notes (Loss cell.mark PoolFull) }

abbrev pub switched_cell : ActedSwitch → PortNo → Cell → ActedSwitch
switched_cell a port cell = cell_routed a port cell (routed a.switch.crossbar (free_slots a.switch) port cell)

abbrev pub is_gsmp : PortNo → Channel → Bool
is_gsmp port channel = (port.0 == 0) && ((channel.vpi == 0) && (channel.vci == 15))

-- a cell comes on a port
abbrev pub cell_comes : ActedSwitch → PortNo → Cell → ActedSwitch
cell_comes a port cell = if is_gsmp port cell.header.channel then gsmp_cell a cell else switched_cell a port cell

-- *Ticks and restarts*

abbrev pub tick_comes : ActedSwitch → ActedSwitch
tick_comes a = steps a (ticked a.switch.adjacency)

-- all branches end, in ascending order of their inputs, then the chain is cut; the adjacency and the
-- ports begin anew, and the cells that wait stay
abbrev pub restarted : ActedSwitch → ActedSwitch
restarted a =
    let s = a.switch in
    let own = next_instance a.numbers in
    let c : Changed = all_ended (record { branches = s.crossbar.branches; notes = a.notes }) (keys s.crossbar.branches) in
    record {
      switch = record (with_branches s c.branches) {
        ports = map (λ state. begun own state.number) s.ports;
        reassembly = nothing_taken;
        adjacency = fresh SynSent (record s.adjacency.own { instance = own });
      };
      notes = cut c.notes s.reassembly;
      numbers = with_instance a.numbers;
    }
