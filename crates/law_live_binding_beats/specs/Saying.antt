-- What two ends hear by which they bind on is answered by no message

use Rattle.std.specs.Prelude.{◌≡◌, ◌<◌, ◌^◌, ℕ, List, ◌∷◌}
use Rattle.world_model.specs.Words.{Addr, InRange, FitsMessage, default_payload, ifmp_packet_of, Linked, ForDefault}
use Rattle.world_model.specs.ifmp_wire.declared.message.Message.{Message}
use Rattle.world_model.specs.ifmp_wire.Message.{octets_of as ifmp_octets}
use Rattle.world_model.specs.Controller.{Acted}
use Rattle.law_live_asking.specs.law_live_links.Law.{EndOfLink}
use Rattle.law_live_asking.specs.law_live_worlds.Law.{end_of}
use Rattle.law_live_asking.specs.law_live_unsaid.Law.{IsUnanswered}
use Rattle.law_live_bindings.specs.Law.{TakesInRange, HasRoomFor}
use Rattle.law_live_asking.specs.law_live_bound.Law.{BindsAt, HoldsPacket}

-- *A packet that is counted* is answered by none, though a label may be taken for it
abbrev pub CountedPacketsAreUnanswered : Type 0
CountedPacketsAreUnanswered = (a : Acted) (q : Linked) (payload packet : List ℕ) (said : List Message) (other : EndOfLink) → (bind : BindsAt a q.setup.port said other)
    → HoldsPacket payload packet → TakesInRange (end_of bind.linked said) other.setup → IsUnanswered q.setup.port a (ForDefault q) payload

-- nor is the first message of the other end that is heard, though a grant may be made
abbrev pub HeardMessagesAreUnanswered : Type 0
HeardMessagesAreUnanswered = (a : Acted) (q : Linked) (source : Addr) (message : Message) (rest said : List Message) (other : EndOfLink) → (bind : BindsAt a q.setup.port said other)
    → other.said ≡ message ∷ rest → other.port.adjacency.own.address ≡ source → source.0 < 2 ^ 32 → InRange message → FitsMessage message
    → HasRoomFor a.controller.desk a.numbers.instances (end_of bind.linked said) message
    → IsUnanswered q.setup.port a (ForDefault q) (default_payload (ifmp_packet_of source (ifmp_octets message)))
