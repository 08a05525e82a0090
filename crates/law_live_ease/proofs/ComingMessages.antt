-- what is read in a frame of a default channel: nothing that is heard, a packet, or a message

use Rattle.std.proofs.Common.{◌≡◌, ◌⊎◌, inl, inr, ℕ, ◌<◌, ◌^◌, Bool, true, false, List, drop, Option, None, Some, Result, Ok, Err, refl, ◌∙◌, ap, if◌then◌else◌}
use Rattle.std.specs.Prelude.{◌==◌}
use Rattle.std.specs.Option.{option_and_then}
use Rattle.world_model.specs.Words.{PortNo, Mark, Addr, PacketFault, EncapsFault, protocol_of, control_protocol, default_unwrapped, default_payload, ifmp_packet_of, InRange, FitsMessage, ifmp_of, hears, Linked, begins, at_port, forwards_packet, ifmp_holds, counted_at, packet_holds, default_holds}
use Rattle.world_model.specs.Ways.{ifmp_in, ok_of}
use Rattle.world_model.specs.Controller.{Acted}
use Rattle.world_model.specs.ipv4_packet.Packet.{first_fault}
use Rattle.world_model.specs.ifmp_wire.Fields.{decoded as ifmp_decoded}
use Rattle.world_model.specs.ifmp_wire.Message.{octets_of as ifmp_octets}
use Rattle.world_model.specs.ifmp_wire.declared.message.Message.{Message}
use Rattle.world_model.specs.ifmp_wire.declared.reader.Fault.{Fault}
use Rattle.law_live_journeys.specs.law_frame_readings.law_shown_cells.Label.{Told}
use Rattle.law_live_journeys.specs.law_frame_readings.Reading.{IsToldAs, IsHeardAs}
use Rattle.law_live_journeys.proofs.law_frame_readings.Packets.{is_heard}
use Rattle.law_live_journeys.proofs.law_frame_readings.law_wire.Packets.{unwrapped_again}
use Rattle.law_live_journeys.specs.law_live_numbers.Law.{work_told, work_as, work_by, work_at}
use Rattle.law_live_journeys.specs.law_live_bound.Law.{HoldsPacket}
use Rattle.law_live_journeys.specs.law_live_asking.Frames.{HoldsMessage}
use Rattle.law_live_journeys.proofs.law_live_brought.Heard.{Packet}

-- *What is refused* does nothing at its port, and leaves the controller as it is
pub record IsRefused (payload : List ℕ) : Type 0 where
  pub works : (a : Acted) (linked : Linked) → work_at a linked (default_unwrapped payload) ≡ begins a linked
  pub same : (a : Acted) (port : PortNo) (mark : Mark) → (default_holds a port mark (default_unwrapped payload)).controller ≡ a.controller

-- *No message* is in it
module _ (payload : List ℕ) (none : ifmp_of payload ≡ None) where
  some_not : (message : Message) (o : Option Message) → o ≡ None → o ≡ Some message → ⊥
  some_not message o is e = cc

  module _ (packet : List ℕ) (is : default_unwrapped payload ≡ Ok packet) (whole : first_fault packet ≡ None) (control : (protocol_of packet == control_protocol) ≡ true) where
    of_message : (r : Result Message Fault) → ifmp_decoded (drop 20 packet) ≡ r → ifmp_of payload ≡ ok_of r
    of_message r read = ap (λ (x : Result (List ℕ) EncapsFault). option_and_then ifmp_in (ok_of x)) is
        ∙ (ap (λ (t : Bool). if t then ok_of (ifmp_decoded (drop 20 packet)) else None) control ∙ ap ok_of read)

    by_decoded : (r : Result Message Fault) → ifmp_decoded (drop 20 packet) ≡ r → IsRefused payload
    by_decoded (Ok message) read = absurd (some_not message (ifmp_of payload) none (of_message (Ok message) read))
    by_decoded (Err fault) read = record {
      works = λ a linked. ap (work_at a linked) is ∙ (ap (work_by a linked packet) whole ∙ (ap (work_as a linked packet) control ∙ ap (work_told a linked packet) read));
      same = λ a port mark. ap (λ (x : Result (List ℕ) EncapsFault). (default_holds a port mark x).controller) is
          ∙ (ap (λ (o : Option PacketFault). (packet_holds a port mark packet o).controller) whole
          ∙ (ap (λ (t : Bool). (if t then ifmp_holds a port packet (ifmp_decoded (drop 20 packet)) else counted_at (forwards_packet a mark packet) port packet).controller) control
          ∙ ap (λ (x : Result Message Fault). (ifmp_holds a port packet x).controller) read));
    }

  by_kind : (packet : List ℕ) → default_unwrapped payload ≡ Ok packet → first_fault packet ≡ None → (b : Bool) → (protocol_of packet == control_protocol) ≡ b → IsRefused payload ⊎ Packet payload
  by_kind packet is whole true control = inl (by_decoded packet is whole control (ifmp_decoded (drop 20 packet)) refl)
  by_kind packet is whole false other = inr (record { packet = packet; holds = record { is = is; whole = whole; no_message = other } })

  by_fault : (packet : List ℕ) → default_unwrapped payload ≡ Ok packet → (o : Option PacketFault) → first_fault packet ≡ o → IsRefused payload ⊎ Packet payload
  by_fault packet is None whole = by_kind packet is whole (protocol_of packet == control_protocol) refl
  by_fault packet is (Some fault) faulty = inl (record {
    works = λ a linked. ap (work_at a linked) is ∙ ap (work_by a linked packet) faulty;
    same = λ a port mark. ap (λ (x : Result (List ℕ) EncapsFault). (default_holds a port mark x).controller) is
        ∙ ap (λ (o : Option PacketFault). (packet_holds a port mark packet o).controller) faulty;
  })

  by_read : (r : Result (List ℕ) EncapsFault) → default_unwrapped payload ≡ r → IsRefused payload ⊎ Packet payload
  by_read (Ok packet) is = by_fault packet is (first_fault packet) refl
  by_read (Err fault) is = inl (record {
    works = λ a linked. ap (work_at a linked) is;
    same = λ a port mark. ap (λ (x : Result (List ℕ) EncapsFault). (default_holds a port mark x).controller) is;
  })

  pub refused_or_packet : IsRefused payload ⊎ Packet payload
  refused_or_packet = by_read (default_unwrapped payload) refl

-- what a frame that holds a packet is to its port
pub packet_is : (a : Acted) (port : PortNo) (mark : Mark) (payload packet : List ℕ) → HoldsPacket payload packet
    → default_holds a port mark (default_unwrapped payload) ≡ counted_at (forwards_packet a mark packet) port packet
packet_is a port mark payload packet holds = ap (default_holds a port mark) holds.is
    ∙ (ap (packet_holds a port mark packet) holds.whole
    ∙ ap (λ (t : Bool). if t then ifmp_holds a port packet (ifmp_decoded (drop 20 packet)) else counted_at (forwards_packet a mark packet) port packet) holds.no_message)

-- *A message* is in it
pub holds_message : (source : Addr) (message : Message) → source.0 < 2 ^ 32 → InRange message → FitsMessage message
    → HoldsMessage (default_payload (ifmp_packet_of source (ifmp_octets message))) source message
holds_message source message low range fits = record {
  packet = ifmp_packet_of source (ifmp_octets message);
  is = unwrapped_again (ifmp_packet_of source (ifmp_octets message));
  whole = heard.whole;
  of_protocol = heard.control;
  read = heard.message;
  from = heard.source;
}
  where
    item : Told
    item = record { source = source; message = message }

    told : IsToldAs (record { packet = 0; frame = 0 }) (default_payload (ifmp_packet_of source (ifmp_octets message))) item
    told = record { control = refl; source = low; in_range = range; fits = fits; filled = refl }

    heard : IsHeardAs (ifmp_packet_of source (ifmp_octets message)) item
    heard = is_heard (record { packet = 0; frame = 0 }) (default_payload (ifmp_packet_of source (ifmp_octets message))) item told

-- what it is to its port
module _ (payload : List ℕ) (source : Addr) (message : Message) (holds : HoldsMessage payload source message) where
  pub message_work : (a : Acted) (linked : Linked) → work_at a linked (default_unwrapped payload) ≡ hears linked.setup a.controller.desk (begins a linked) source message
  message_work a linked = ap (work_at a linked) holds.is
      ∙ (ap (work_by a linked holds.packet) holds.whole
      ∙ (ap (work_as a linked holds.packet) holds.of_protocol
      ∙ (ap (work_told a linked holds.packet) holds.read
      ∙ ap (λ (from : Addr). hears linked.setup a.controller.desk (begins a linked) from message) holds.from)))

  pub message_is : (a : Acted) (port : PortNo) (mark : Mark) → default_holds a port mark (default_unwrapped payload) ≡ at_port a port (λ setup desk w. hears setup desk w source message)
  message_is a port mark = ap (default_holds a port mark) holds.is
      ∙ (ap (packet_holds a port mark holds.packet) holds.whole
      ∙ (ap (λ (t : Bool). if t then ifmp_holds a port holds.packet (ifmp_decoded (drop 20 holds.packet)) else counted_at (forwards_packet a mark holds.packet) port holds.packet) holds.of_protocol
      ∙ (ap (ifmp_holds a port holds.packet) holds.read
      ∙ ap (λ (from : Addr). at_port a port (λ setup desk w. hears setup desk w from message)) holds.from)))
