-- a frame that may come to a controller leaves it the records of its switch's ports

use Rattle.std.proofs.Common.{◌≡◌, ℕ, List, Option, None, Some, Result, Ok, Err, refl, ◌∙◌, ap, drop}
use Rattle.std.specs.Prelude.{◌==◌}
use Rattle.world_model.specs.Words.{PortNo, Mark, Party, Side, Step, PacketFault, EncapsFault, default_unwrapped, unwrapped, control_protocol, protocol_of, source_of, Desk, Standing, Answered, Unknown, answered, Head, head_of, gsmp_answer, gsmp_holds, takes_answer, Label, counts, used, hears, Linked, ForGsmp, ForDefault, ForLabel, forwards_packet, ifmp_holds, counted_at, packet_holds, default_holds, label_holds, frame_holds}
use Rattle.world_model.specs.ipv4_packet.Packet.{first_fault}
use Rattle.world_model.specs.ifmp_wire.Fields.{decoded as ifmp_decoded}
use Rattle.world_model.specs.ifmp_wire.declared.message.Message.{Message as IfmpMessage}
use Rattle.world_model.specs.ifmp_wire.declared.reader.Fault.{Fault as IfmpFault}
use Rattle.world_model.specs.gsmp_wire.declared.fault.Fault.{Fault}
use Rattle.world_model.specs.gsmp_wire.declared.message.Message.{Message}
use Rattle.world_model.specs.gsmp_wire.declared.message.Message.TheVariants.{Adjacency, Branch, Move, Port, AllPorts}
use Rattle.world_model.specs.gsmp_wire.Fields.{decoded}
use Rattle.world_model.specs.Controller.{Acted}
use Rattle.world_model.specs.Cells.{Taker}
use Rattle.world_model.specs.Gsmp.{answers, message_comes}
use Rattle.live_model.specs.Met.{HaveMet}
use Rattle.law_live_journeys.proofs.law_running_worlds.law_port_facts.Keyed.{on_both}
use Rattle.law_live_journeys.proofs.law_running_worlds.law_input_premises.Rows.{KeepsRows, at_port_rows}
use Rattle.law_live_journeys.specs.law_live_control.Calm.{ack}
use Rattle.law_live_journeys.proofs.law_live_control.Sides.{ack_heard}
use Rattle.law_live_journeys.proofs.law_live_others.Holding.{forwards_same}
use Rattle.law_live_journeys.specs.law_live_mirrors.Answers.{HearsMirrored}
use Rattle.law_live_journeys.proofs.law_live_mirrors.Successes.{offers_keep_mirrors, starts_keep_mirrors, joins_keep_mirrors}
use Rattle.law_live_journeys.specs.law_live_asking.Frames.{IsPlainMessage, greets, answers_none, offers, starts, joins, IsPlainTold, MayCome}

-- *What the switch says*: its ACK
ack_rows : (a : Acted) (switch : Side Party) → HaveMet a.controller.adjacency switch → KeepsRows a (message_comes a (ack switch.own a.controller.adjacency.own))
ack_rows a switch met = ap (λ (step : Step Party). (answers (record a { controller = record a.controller { adjacency = step.side } }) (gsmp_answer step.answer)).controller.desk.rows)
    (ack_heard a.controller.adjacency switch.own met.one_is_up met.one_knows)

-- an answer to nothing
none_rows : (a : Acted) (message : Message) (head : Head) → head_of message ≡ Some head → answered a.controller.desk message ≡ Unknown → KeepsRows a (message_comes a message)
none_rows a (Adjacency greeting) head is_answer is = absurd (cc is_answer)
none_rows a (Branch kind result code number session input_port input output_port output branches priority) head is_answer is =
    ap (λ (answer : Answered). (takes_answer a answer).controller.desk.rows) is
none_rows a (Move result code number session input_port input output_port output target_port target branches priority) head is_answer is =
    ap (λ (answer : Answered). (takes_answer a answer).controller.desk.rows) is
none_rows a (Port result code number port session function) head is_answer is = ap (λ (answer : Answered). (takes_answer a answer).controller.desk.rows) is
none_rows a (AllPorts result code number rows) head is_answer is = ap (λ (answer : Answered). (takes_answer a answer).controller.desk.rows) is

-- a success
hears_rows : (a : Acted) (message : Message) (s : Standing) → HearsMirrored a (message_comes a message) s → KeepsRows a (message_comes a message)
hears_rows a message s hears = ap (λ (d : Desk). d.rows) hears.desk

message_rows : (a : Acted) (message : Message) → IsPlainMessage a message → KeepsRows a (message_comes a message)
message_rows a message (greets switch met) = ack_rows a switch met
message_rows a message (answers_none own head is_answer is) = none_rows a own head is_answer is
message_rows a message (offers own s linked session label h found wired unjoined asks) = hears_rows a own s (offers_keep_mirrors a own s linked session label h found wired unjoined asks)
message_rows a message (starts own s linked session grant h found working in_range held idle asks) =
    hears_rows a own s (starts_keep_mirrors a own s linked session grant h found working in_range held idle asks)
message_rows a message (joins own s input from output h labels leads link asks) = hears_rows a own s (joins_keep_mirrors a own s input from output h labels leads link asks)

told_rows : (a : Acted) (r : Result Message Fault) → IsPlainTold a r → KeepsRows a (gsmp_holds a r)
told_rows a (Err fault) is = refl
told_rows a (Ok message) is = message_rows a message is

-- *On other channels* a packet is sent on, and a port works
sent_rows : (a : Acted) (mark : Mark) (packet : List ℕ) → KeepsRows a (forwards_packet a mark packet)
sent_rows a mark packet = ap (λ (d : Desk). d.rows) (forwards_same a mark packet).desk

module _ (a : Acted) (mark : Mark) where
  label_rows : (linked : Linked) (label : Label) (r : Result (List ℕ) EncapsFault) → KeepsRows a (label_holds a linked label mark r)
  label_rows linked label (Err fault) = refl
  label_rows linked label (Ok packet) = at_port_rows (forwards_packet a mark packet) linked.setup.port (λ setup desk w. used w label.number) ∙ sent_rows a mark packet

  heard_rows : (port : PortNo) (packet : List ℕ) (r : Result IfmpMessage IfmpFault) → KeepsRows a (ifmp_holds a port packet r)
  heard_rows port packet (Err fault) = refl
  heard_rows port packet (Ok message) = at_port_rows a port (λ setup desk w. hears setup desk w (source_of packet) message)

  packet_rows : (port : PortNo) (packet : List ℕ) (o : Option PacketFault) → KeepsRows a (packet_holds a port mark packet o)
  packet_rows port packet (Some fault) = refl
  packet_rows port packet None = on_both (KeepsRows a) (protocol_of packet == control_protocol) (ifmp_holds a port packet (ifmp_decoded (drop 20 packet))) (counted_at (forwards_packet a mark packet) port packet)
      (heard_rows port packet (ifmp_decoded (drop 20 packet)))
      (at_port_rows (forwards_packet a mark packet) port (λ setup desk w. counts setup desk w packet) ∙ sent_rows a mark packet)

  default_rows : (port : PortNo) (r : Result (List ℕ) EncapsFault) → KeepsRows a (default_holds a port mark r)
  default_rows port (Err fault) = refl
  default_rows port (Ok packet) = packet_rows port packet (first_fault packet)

-- *A frame*
pub frame_rows : (a : Acted) (taker : Taker) (mark : Mark) (payload : List ℕ) → MayCome a taker payload → KeepsRows a (frame_holds a taker mark payload)
frame_rows a ForGsmp mark payload may = told_rows a (decoded payload) may
frame_rows a (ForDefault q) mark payload may = default_rows a mark q.setup.port (default_unwrapped payload)
frame_rows a (ForLabel q label) mark payload may = label_rows a mark q label (unwrapped label.flow payload)
