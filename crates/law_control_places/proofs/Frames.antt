-- a controller notes no `Bad` where a packet enters, and where a cell comes that ends no frame but one that can be read

use Rattle.std.proofs.Common.{◌≡◌, ℕ, true, List, [], ◌∷◌, drop, Option, None, Some, Result, Ok, refl, sym, subst}
use Rattle.std.specs.Prelude.{◌==◌, nat_lt}
use Rattle.world_model.specs.Words.{PortNo, Channel, Mark, Cell, protocol_of, PacketFault, kind_of, hop_of, onward, Hop, Here, On, default_payload, labelled_payload, default_unwrapped, unwrapped, EncapsFault, Loss, Delivered, Dropped, Unbound, Journal, next_mark, last_mark, payload_in, tested_by, Reassembly, control_end, Label, Grant, Linked, default_home, sends_control, is_control, sends_next, goes_by, grant_by, forwards_packet, injected, control_protocol, gsmp_holds, ForGsmp, ForDefault, ForLabel, taker_of, reassembly_of, with_reassembly, label_holds, ifmp_holds, counted_at, packet_holds, default_holds, frame_holds, takes_cell}
use Rattle.world_model.specs.ipv4_packet.Packet.{first_fault}
use Rattle.world_model.specs.ipv4_forward.declared.outcome.Hop.TheVariants.{NoRoute, Expired}
use Rattle.world_model.specs.ifmp_wire.declared.message.Message.{Message as IfmpMessage}
use Rattle.world_model.specs.ifmp_wire.declared.reader.Fault.{Fault as IfmpFault}
use Rattle.world_model.specs.ifmp_wire.Fields.{decoded as ifmp_decoded}
use Rattle.world_model.specs.gsmp_wire.declared.fault.Fault.{Fault}
use Rattle.world_model.specs.gsmp_wire.declared.message.Message.{Message}
use Rattle.world_model.specs.gsmp_wire.Fields.{decoded as gsmp_decoded}
use Rattle.world_model.specs.link_model.declared.record.DropCause.TheVariants as drop_causes
use Rattle.world_model.specs.frame_model.Frame.{octets_of}
use Rattle.world_model.specs.frame_model.Reassembly.{Taken, taken}
use Rattle.law_frame_readings.proofs.law_port_facts.Keyed.{on_both, on_each}
use Rattle.world_model.specs.Controller.{Acted, free_slots}
use Rattle.world_model.specs.Sending.{sends}
use Rattle.world_model.specs.Packets.{forwarded}
use Rattle.world_model.specs.Cells.{Taker, after_test, ends_frame, cell_comes}
use Rattle.law_control_places.proofs.Notes.{AreFair, note_fair, taken_fair, tested_fair}
use Rattle.law_frame_readings.proofs.law_controller_facts.Lifetimes.{decoded_lives}
use Rattle.law_rule_walks.proofs.Controllers.{ifmp_kept, used_kept, counted_kept}
use Rattle.law_rule_walks.proofs.Changes.{told_kept}
use Rattle.law_control_places.proofs.RefusedWalks.{Has, sends_fair, control_fair, fair, takes_fair}

-- *A packet goes on*
next_fair : (a : Acted) (came : Mark) (channel : Channel) (payload : List ℕ) → Has a → Has (sends_next a came channel payload)
next_fair a came channel payload h = on_both Has (is_control came) (sends_control a channel payload) (sends a channel (next_mark came) payload)
    (control_fair a channel payload h) (sends_fair a channel (next_mark came) payload h)

goes_by_fair : (a : Acted) (came : Mark) (port : PortNo) (packet : List ℕ) (o : Option Grant) → Has a → Has (goes_by a came port packet o)
goes_by_fair a came port packet None h = next_fair a came (default_home port).channel (default_payload packet) h
goes_by_fair a came port packet (Some grant) h = next_fair a came (control_end port grant.label).channel (labelled_payload (kind_of grant.flow) packet) h

forwarded_fair : (a : Acted) (came : Mark) (packet : List ℕ) (hop : Hop) → Has a → Has (forwarded a came packet hop)
forwarded_fair a came packet Here h = note_fair a.notes (Delivered a.controller.node came.packet packet) refl h
forwarded_fair a came packet NoRoute h = note_fair a.notes (Dropped a.controller.node came.packet drop_causes.NoRoute) refl h
forwarded_fair a came packet Expired h = note_fair a.notes (Dropped a.controller.node came.packet drop_causes.Expired) refl h
forwarded_fair a came packet (On port) h = goes_by_fair a came port (onward packet) (grant_by a.controller port (onward packet)) h

routes_fair : (a : Acted) (came : Mark) (packet : List ℕ) → Has a → Has (forwards_packet a came packet)
routes_fair a came packet h = forwarded_fair a came packet (hop_of a.controller.table packet) h

pub injected_fair : (a : Acted) (number : ℕ) (packet : List ℕ) → Has a → Has (injected a number packet)
injected_fair a number packet h = routes_fair a (record { packet = number; frame = 0 }) packet h

-- *What can be read*: a message of GSMP; on a default channel a packet that passes its tests, and if it is one of IFMP its
-- message can be read; on a label's channel a packet of its flow
pub record IsOfGsmp (payload : List ℕ) : Type 0 where
  pub message : Message
  pub read : gsmp_decoded payload ≡ Ok message

pub record IsOfIfmp (packet : List ℕ) : Type 0 where
  pub message : IfmpMessage
  pub read : ifmp_decoded (drop 20 packet) ≡ Ok message

pub record IsWhole (payload : List ℕ) : Type 0 where
  pub packet : List ℕ
  pub unwraps : default_unwrapped payload ≡ Ok packet
  pub whole : first_fault packet ≡ None
  pub told : (protocol_of packet == control_protocol) ≡ true → IsOfIfmp packet

pub record IsOfFlow (label : Label) (payload : List ℕ) : Type 0 where
  pub packet : List ℕ
  pub unwraps : unwrapped label.flow payload ≡ Ok packet

abbrev pub CanBeRead : Taker → (payload : List ℕ) → Type 0
CanBeRead ForGsmp payload = IsOfGsmp payload
CanBeRead (ForDefault linked) payload = IsWhole payload
CanBeRead (ForLabel linked label) payload = IsOfFlow label payload

-- *A frame* that can be read
gsmp_fair : (a : Acted) (payload : List ℕ) → IsOfGsmp payload → Has a → Has (gsmp_holds a (gsmp_decoded payload))
gsmp_fair a payload can h = subst (λ (r : Result Message Fault). Has (gsmp_holds a r)) (sym can.read) (told_kept fair takes_fair tt (λ b answer k. k) a can.message (λ greeting is. h) h)

control_frame : (a : Acted) (port : PortNo) (packet : List ℕ) → IsOfIfmp packet → Has a → Has (ifmp_holds a port packet (ifmp_decoded (drop 20 packet)))
control_frame a port packet can h = subst (λ (r : Result IfmpMessage IfmpFault). Has (ifmp_holds a port packet r)) (sym can.read) (ifmp_kept fair tt a port packet can.message (decoded_lives (drop 20 packet) can.message can.read) h)

default_fair : (a : Acted) (port : PortNo) (mark : Mark) (payload : List ℕ) → IsWhole payload → Has a → Has (default_holds a port mark (default_unwrapped payload))
default_fair a port mark payload can h =
    subst (λ (r : Result (List ℕ) EncapsFault). Has (default_holds a port mark r)) (sym can.unwraps)
    (subst (λ (o : Option PacketFault). Has (packet_holds a port mark can.packet o)) (sym can.whole)
    (on_each Has (protocol_of can.packet == control_protocol) (ifmp_holds a port can.packet (ifmp_decoded (drop 20 can.packet))) (counted_at (forwards_packet a mark can.packet) port can.packet)
    (λ is. control_frame a port can.packet (can.told is) h) (λ other. counted_kept fair (forwards_packet a mark can.packet) port can.packet (routes_fair a mark can.packet h))))

label_fair : (a : Acted) (linked : Linked) (label : Label) (mark : Mark) (payload : List ℕ) → IsOfFlow label payload → Has a → Has (label_holds a linked label mark (unwrapped label.flow payload))
label_fair a linked label mark payload can h = subst (λ (r : Result (List ℕ) EncapsFault). Has (label_holds a linked label mark r)) (sym can.unwraps)
    (used_kept fair (forwards_packet a mark can.packet) linked.setup.port label.number (routes_fair a mark can.packet h))

frame_fair : (a : Acted) (taker : Taker) (mark : Mark) (payload : List ℕ) → CanBeRead taker payload → Has a → Has (frame_holds a taker mark payload)
frame_fair a ForGsmp mark payload can h = gsmp_fair a payload can h
frame_fair a (ForDefault linked) mark payload can h = default_fair a linked.setup.port mark payload can h
frame_fair a (ForLabel linked label) mark payload can h = label_fair a linked label mark payload can h

-- *A chain ends*: its payload, if it passes, can be read
abbrev pub EndsRight : Taker → List Cell → Type 0
EndsRight taker [] = Unit {0}
EndsRight taker (first ∷ cells) = (payload : List ℕ) → payload_in (octets_of (first ∷ cells)) ≡ Some payload → CanBeRead taker payload

test_fair : (a : Acted) (taker : Taker) (mark : Mark) (cells : List Cell) (o : Option (List ℕ)) → ((payload : List ℕ) → o ≡ Some payload → CanBeRead taker payload) → Has a → Has (after_test a taker mark (tested_by a.notes cells o))
test_fair a taker mark cells None can h = tested_fair a.notes cells None h
test_fair a taker mark cells (Some payload) can h = frame_fair (record a { notes = (tested_by a.notes cells (Some payload)).notes }) taker mark payload (can payload refl) (tested_fair a.notes cells (Some payload) h)

ends_fair : (a : Acted) (taker : Taker) (cells : List Cell) → EndsRight taker cells → Has a → Has (ends_frame a taker cells)
ends_fair a taker [] can h = h
ends_fair a taker (cell ∷ cells) can h = test_fair a taker (last_mark (cell ∷ cells)) (cell ∷ cells) (payload_in (octets_of (cell ∷ cells))) can h

gathered_fair : (a : Acted) (taker : Taker) (notes : Journal) (r : Reassembly) → AreFair notes → Has (with_reassembly (record a { notes = notes }) taker r)
gathered_fair a ForGsmp notes r h = h
gathered_fair a (ForDefault linked) notes r h = h
gathered_fair a (ForLabel linked label) notes r h = h

-- *A cell comes*
abbrev pub taken_by : Acted → Taker → Cell → Taken
taken_by a taker cell = taken a.notes (nat_lt 0 (free_slots a.controller)) (reassembly_of a.controller taker) cell

pub cell_fair : (a : Acted) (cell : Cell) → ((taker : Taker) → taker_of a.controller cell.header.channel ≡ Some taker → EndsRight taker (taken_by a taker cell).ended) → Has a → Has (cell_comes a cell)
cell_fair a cell ends h = by (taker_of a.controller cell.header.channel) refl
  where
    by : (o : Option Taker) → taker_of a.controller cell.header.channel ≡ o → Has (takes_cell a cell o)
    by None is = note_fair a.notes (Loss cell.mark Unbound) refl h
    by (Some taker) is =
        let t : Taken = taken_by a taker cell in
        ends_fair (with_reassembly (record a { notes = t.notes }) taker t.reassembly) taker t.ended (ends taker is)
        (gathered_fair a taker t.notes t.reassembly (taken_fair a.notes (nat_lt 0 (free_slots a.controller)) (reassembly_of a.controller taker) cell h))
