-- the ports of a switch stay as they are, whatever it hears of what controllers ask

use Rattle.std.proofs.Common.{◌≡◌, Bool, true, false, true≢false, List, [], ◌∷◌, length, Option, None, Some, Result, Ok, Err, refl, sym, ◌∙◌, if◌then◌else◌}
use Rattle.std.specs.Prelude.{◌&&◌, nat_le, nat_lt}
use Rattle.world_model.specs.Words.{PortNo, Mark, Party, Greeting, Answer, Quiet, Send, Open, Step, next_control, made, noted, Loss, PoolFull, is_estab, gsmp_answer, gsmp_received, Cell, frame_cells, Routed, routed, Switch, control_port, gsmp_channel, Request, AddBranch, MoveBranch, DeleteTree, VerifyTree, PortManagement, ports_after, asked_in, is_request, failure_of, handled_by, handled_asked, handled, replied, requested, frame_read, gsmp_cell, switched_cell, is_gsmp, Journal}
use Rattle.world_model.specs.adjacency_table.declared.message.Answer.TheVariants.{Reset}
use Rattle.world_model.specs.gsmp_wire.declared.fault.Fault.{Fault}
use Rattle.world_model.specs.gsmp_wire.declared.failure.Failure.{Failure}
use Rattle.world_model.specs.gsmp_wire.declared.request.Request.TheVariants as requests
use Rattle.world_model.specs.gsmp_wire.declared.message.Message.{Message}
use Rattle.world_model.specs.gsmp_wire.declared.message.Message.TheVariants as messages
use Rattle.world_model.specs.gsmp_wire.Layout.{octets_of}
use Rattle.world_model.specs.frame_model.Sending.{Sender}
use Rattle.world_model.specs.frame_model.Reassembly.{Taken, taken}
use Rattle.world_model.specs.crossbar_model.declared.routed.Routed.TheVariants as routes
use Rattle.world_model.specs.switch_model.declared.port.PortState.{PortState}
use Rattle.world_model.specs.switch_model.declared.request.Asked.{Asked}
use Rattle.world_model.specs.Switch.{ActedSwitch, free_slots}
use Rattle.world_model.specs.Conduct.{with_cells, says, answers, steps, message_heard, ends_frame, cell_routed, cell_comes}
use Rattle.law_live_journeys.proofs.law_running_worlds.law_port_facts.Keyed.{on_both, on_each}
use Rattle.law_live_journeys.specs.law_running_worlds.law_input_steps.Asking.{IsAsked}
use Rattle.law_live_journeys.proofs.law_running_worlds.MadeTame.{whole_chain}

-- *A switch with the same ports*, and the same paths
pub record HasSamePorts (before after : Switch) : Type 0 where
  pub ports : after.ports ≡ before.ports
  pub vpis : after.vpis ≡ before.vpis

pub ports_then : (a b c : Switch) → HasSamePorts a b → HasSamePorts b c → HasSamePorts a c
ports_then a b c p q = record { ports = q.ports ∙ p.ports; vpis = q.vpis ∙ p.vpis }

itself : (s : Switch) → HasSamePorts s s
itself s = record { ports = refl; vpis = refl }

-- what it says
said_same : (a : ActedSwitch) (message : Message) → HasSamePorts a.switch (says a message).switch
said_same a message =
    let mark : Mark = next_control a.numbers in
    let cells : List Cell = frame_cells gsmp_channel mark (octets_of message) in
    on_both (λ (s : Sender Switch). HasSamePorts a.switch s.queues) (nat_le (length cells) (free_slots a.switch))
    (record { queues = with_cells a.switch control_port cells; notes = made a.notes mark (octets_of message) })
    (record { queues = a.switch; notes = noted (made a.notes mark (octets_of message)) (Loss mark PoolFull) }) (record { ports = refl; vpis = refl }) (itself a.switch)

-- *A greeting*
greeted_same : (a : ActedSwitch) (step : Step Party) → HasSamePorts a.switch (steps a step).switch
greeted_same a step = by (gsmp_answer step.answer)
  where
    b : ActedSwitch
    b = record a { switch = record a.switch { adjacency = step.side } }

    says_so : (greeting : Greeting) → HasSamePorts a.switch (says b (messages.Adjacency greeting)).switch
    says_so greeting = ports_then a.switch b.switch (says b (messages.Adjacency greeting)).switch (record { ports = refl; vpis = refl }) (said_same b (messages.Adjacency greeting))

    by : (answer : Answer Greeting Party) → HasSamePorts a.switch (answers b answer).switch
    by Quiet = record { ports = refl; vpis = refl }
    by (Send greeting) = says_so greeting
    by (Open None own) = record { ports = refl; vpis = refl }
    by (Open (Some greeting) own) = says_so greeting
    by Reset = record { ports = refl; vpis = refl }

-- *A request* that a controller asks
asked_same : (ports : List PortState) (request : Request) → IsAsked request → ports_after ports request ≡ ports
asked_same ports (AddBranch input output) is = refl
asked_same ports (MoveBranch input from to) is = refl
asked_same ports (DeleteTree input) is = refl
asked_same ports (VerifyTree input) is = refl
asked_same ports (requests.DeleteAll port) is = refl
asked_same ports (PortManagement port function) is = absurd is
asked_same ports requests.AllPorts is = refl

abbrev pub AsksSo : Message → Type 0
AsksSo message = (asked : Asked) → is_request message ≡ true → asked_in message ≡ Some asked → IsAsked asked.request

handled_same : (s : Switch) (notes : Journal) (message : Message) → is_request message ≡ true → AsksSo message → HasSamePorts s (handled s notes message).switch
handled_same s notes message request asks = by (asked_in message) refl
  where
    by_failure : (asked : Asked) → IsAsked asked.request → (o : Option Failure) → HasSamePorts s (handled_by s notes message asked.request o).switch
    by_failure asked is (Some failure) = itself s
    by_failure asked is None = record { ports = asked_same s.ports asked.request is; vpis = refl }

    by : (o : Option Asked) → asked_in message ≡ o → HasSamePorts s (handled_asked s notes message o).switch
    by None is = itself s
    by (Some asked) is = by_failure asked (asks asked request is) (failure_of s.ports s.vpis s.crossbar.branches asked)

requested_same : (a : ActedSwitch) (message : Message) → AsksSo message → HasSamePorts a.switch (requested a message).switch
requested_same a message asks = by (is_request message) refl (is_estab a.switch.adjacency.state)
  where
    b : ActedSwitch
    b = record a { switch = (handled a.switch a.notes message).switch; notes = (handled a.switch a.notes message).notes }

    by : (t : Bool) → is_request message ≡ t → (up : Bool) → HasSamePorts a.switch (if t && up then replied a (handled a.switch a.notes message) else a).switch
    by true request true = ports_then a.switch b.switch (says b (handled a.switch a.notes message).answer).switch (handled_same a.switch a.notes message request asks)
        (said_same b (handled a.switch a.notes message).answer)
    by true request false = itself a.switch
    by false request up = itself a.switch

message_same : (a : ActedSwitch) (message : Message) → AsksSo message → HasSamePorts a.switch (message_heard a message).switch
message_same a (messages.Adjacency greeting) asks = greeted_same a (gsmp_received a.switch.adjacency greeting)
message_same a (messages.Branch kind result code number session input_port input output_port output count priority) asks =
    requested_same a (messages.Branch kind result code number session input_port input output_port output count priority) asks
message_same a (messages.Move result code number session input_port input output_port output target_port target count priority) asks =
    requested_same a (messages.Move result code number session input_port input output_port output target_port target count priority) asks
message_same a (messages.Port result code number port session function) asks = requested_same a (messages.Port result code number port session function) asks
message_same a (messages.AllPorts result code number rows) asks = requested_same a (messages.AllPorts result code number rows) asks

-- *A frame*
pub read_same : (a : ActedSwitch) (r : Result Message Fault) → ((message : Message) → r ≡ Ok message → AsksSo message) → HasSamePorts a.switch (frame_read a r).switch
read_same a (Err fault) asks = itself a.switch
read_same a (Ok message) asks = message_same a message (asks message refl)

-- *A cell* that ends no frame on the GSMP channel
module _ (a : ActedSwitch) where
  routed_same : (port : PortNo) (cell : Cell) (r : Routed) → HasSamePorts a.switch (cell_routed a port cell r).switch
  routed_same port cell (routes.Out output) = record { ports = refl; vpis = refl }
  routed_same port cell routes.Unconnected = itself a.switch
  routed_same port cell routes.PoolFull = itself a.switch

  gathered_same : (cell : Cell) → cell.header.last ≡ false → HasSamePorts a.switch (gsmp_cell a cell).switch
  gathered_same cell early = by t.ended refl
    where
      t : Taken
      t = taken a.notes (nat_lt 0 (free_slots a.switch)) a.switch.reassembly cell

      by : (cells : List Cell) → t.ended ≡ cells → HasSamePorts a.switch (ends_frame (record a { switch = record a.switch { reassembly = t.reassembly }; notes = t.notes }) cells).switch
      by [] e = record { ports = refl; vpis = refl }
      by (first ∷ rest) e = absurd (true≢false (sym (whole_chain a.notes (nat_lt 0 (free_slots a.switch)) a.switch.reassembly cell first rest e).is_ended.last ∙ early))

  pub cell_same : (port : PortNo) (cell : Cell) → (is_gsmp port cell.header.channel ≡ true → cell.header.last ≡ false) → HasSamePorts a.switch (cell_comes a port cell).switch
  cell_same port cell early = on_each (λ (b : ActedSwitch). HasSamePorts a.switch b.switch) (is_gsmp port cell.header.channel) (gsmp_cell a cell) (switched_cell a port cell)
      (λ on. gathered_same cell (early on)) (λ off. routed_same port cell (routed a.switch.crossbar (free_slots a.switch) port cell))
