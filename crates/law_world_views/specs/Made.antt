-- What was made in a network: the frames of packets, on a default channel or under a label, and of messages

use Rattle.std.specs.Prelude.{◌≡◌, ◌≢◌, ℕ, ◌<◌, ◌^◌, List, Some, None}
use Rattle.law_controller_views.specs.world_model.Words.{Mark, Addr, FlowId, default_payload, Carries, InRange, FitsMessage, Fits, Frame, payload_of, inject_refusal, AreOctets}
use Rattle.law_controller_views.specs.world_model.ifmp_wire.declared.message.Message.{Message as IfmpMessage}
use Rattle.law_controller_views.specs.world_model.gsmp_wire.declared.message.Message.{Message as GsmpMessage}
use Rattle.law_controller_views.specs.world_model.gsmp_wire.Layout.{octets_of as gsmp_octets}
use Rattle.law_gsmp_reading.specs.Said.{IsSaid}
use Rattle.law_controller_views.specs.Lifted.{payload_by}

-- *A packet that may be in the network*: one that a node would accept
pub record IsFit (packet : List ℕ) : Type 0 where
  pub accepted : inject_refusal packet ≡ None
  pub octets : AreOctets packet

-- under the mark of a packet such a packet, in the default encapsulation or as a label carries it; under a control mark
-- a message of IFMP or of GSMP whose numbers fit their fields
pub data IsMadeAs (mark : Mark) (payload : List ℕ) : Type 0 where
  plain : mark.packet ≢ 0 → (packet : List ℕ) → IsFit packet → payload ≡ default_payload packet → IsMadeAs mark payload
  labelled : mark.packet ≢ 0 → (flow : FlowId) (packet : List ℕ) → IsFit packet → Carries flow packet payload → IsMadeAs mark payload
  told : mark.packet ≡ 0 → (source : Addr) (message : IfmpMessage) → source.0 < 2 ^ 32 → InRange message → FitsMessage message
      → payload ≡ payload_by source message → IsMadeAs mark payload
  said : mark.packet ≡ 0 → (message : GsmpMessage) → Fits message → IsSaid message → payload ≡ gsmp_octets message → IsMadeAs mark payload

abbrev pub AreMade : List Frame → Type 0
AreMade frames = (mark : Mark) (payload : List ℕ) → payload_of frames mark ≡ Some payload → IsMadeAs mark payload
