-- A frame that passed its test and that a decoder refuses: one record, and nothing else

use Rattle.std.specs.Prelude.{◌≡◌, ℕ, true, ◌==◌, List, drop, None, Some, Ok, Err}
use Rattle.claims_model.specs.world_model.Words.{Mark, protocol_of, PacketFault, EncapsFault, default_unwrapped, unwrapped, Encaps, Packet, Ifmp, Gsmp, Bad, encaps_refusal, packet_refusal, ifmp_refusal, gsmp_refusal, Label, Linked, control_protocol, ForGsmp, ForDefault, ForLabel, frame_holds}
use Rattle.claims_model.specs.world_model.ipv4_packet.Packet.{first_fault}
use Rattle.claims_model.specs.world_model.ifmp_wire.declared.reader.Fault.{Fault as IfmpFault}
use Rattle.claims_model.specs.world_model.ifmp_wire.Fields.{decoded as ifmp_decoded}
use Rattle.claims_model.specs.world_model.gsmp_wire.declared.fault.Fault.{Fault as GsmpFault}
use Rattle.claims_model.specs.world_model.gsmp_wire.Fields.{decoded as gsmp_decoded}
use Rattle.claims_model.specs.world_model.Controller.{Acted, note}

-- on the GSMP channel; on a default channel by its encapsulation, as a packet, or as a message of IFMP; on a label's
-- channel by its encapsulation
pub record RefusedIsRecorded : Type 0 where
  pub gsmp : (a : Acted) (mark : Mark) (payload : List ℕ) (fault : GsmpFault) → gsmp_decoded payload ≡ Err fault
      → frame_holds a ForGsmp mark payload ≡ note a (Bad a.controller.node Gsmp (gsmp_refusal fault))
  pub default : (a : Acted) (linked : Linked) (mark : Mark) (payload : List ℕ) (fault : EncapsFault) → default_unwrapped payload ≡ Err fault
      → frame_holds a (ForDefault linked) mark payload ≡ note a (Bad a.controller.node Encaps (encaps_refusal fault))
  pub packet : (a : Acted) (linked : Linked) (mark : Mark) (payload octets : List ℕ) (fault : PacketFault) → default_unwrapped payload ≡ Ok octets → first_fault octets ≡ Some fault
      → frame_holds a (ForDefault linked) mark payload ≡ note a (Bad a.controller.node Packet (packet_refusal fault))
  pub ifmp : (a : Acted) (linked : Linked) (mark : Mark) (payload octets : List ℕ) (fault : IfmpFault) → default_unwrapped payload ≡ Ok octets → first_fault octets ≡ None
      → (protocol_of octets == control_protocol) ≡ true → ifmp_decoded (drop 20 octets) ≡ Err fault
      → frame_holds a (ForDefault linked) mark payload ≡ note a (Bad a.controller.node Ifmp (ifmp_refusal fault))
  pub label : (a : Acted) (linked : Linked) (label : Label) (mark : Mark) (payload : List ℕ) (fault : EncapsFault) → unwrapped label.flow payload ≡ Err fault
      → frame_holds a (ForLabel linked label) mark payload ≡ note a (Bad a.controller.node Encaps (encaps_refusal fault))
