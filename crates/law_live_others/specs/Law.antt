-- What a controller hears for others than one of its ports leaves this port as its peer sees it

use Rattle.std.specs.Prelude.{◌≡◌, ◌≢◌, ℕ, ◌≤◌, ◌<◌, ◌==◌, ◌⊎◌, false, true, Bool, List, [], ◌∷◌, drop, Option, None, Some, Result, Ok, Err}
use Rattle.world_model.specs.Words.{PortNo, Mark, is_estab, is_clearing, is_spent, last_number, control_protocol, protocol_of, PacketFault, EncapsFault, default_unwrapped, Label, Offered, label_number, labels_of, Grant, grant_label, is_leaving, counts, Linked, linked_at, port_key, begins, ForGsmp, ForDefault, ForLabel, frame_holds}
use Rattle.world_model.specs.ipv4_packet.Packet.{first_fault}
use Rattle.world_model.specs.ifmp_wire.Fields.{decoded as ifmp_decoded}
use Rattle.world_model.specs.ifmp_wire.declared.message.Message.{Message}
use Rattle.world_model.specs.ifmp_wire.declared.reader.Fault.{Fault}
use Rattle.world_model.specs.port_model.Port.{Port}
use Rattle.world_model.specs.Controller.{Acted}
use Rattle.world_model.specs.Cells.{Taker}
use Rattle.law_port_facts.specs.ordered_lists.Ordered.{Every, InOrder}
use Rattle.law_live_links.specs.Law.{EndOfLink, number_of, AreAgreed}
use Rattle.law_live_unseen.specs.Law.{AreAlike}

-- *A port is left so*: it is there, with the same setup, and alike to the other end of its link
pub record IsAlikeAt (linked : Linked) (now : Option Linked) : Type 0 where
  pub after : Linked
  pub there : now ≡ Some after
  pub setup : after.setup ≡ linked.setup
  pub alike : AreAlike linked.port after.port

-- and the node goes by its address
pub record LeavesAlike (port : PortNo) (a b : Acted) : Type 0 where
  pub left : (linked : Linked) → linked_at a.controller port ≡ Some linked → IsAlikeAt linked (linked_at b.controller port)
  pub address : b.controller.address ≡ a.controller.address

-- *The node is up*: with its switch in Estab. Where it is so behind what came, it wasn't reset by that; a reset of the node begins
-- every port anew
abbrev pub IsUp : Acted → Type 0
IsUp a = is_estab a.controller.adjacency.state ≡ true

-- *A settled port* doesn't wait to be cleared; its numbers aren't spent; each label that it gives is offered; no grant is leaving,
-- and no two are of one label
pub record IsSettled (port : Port) : Type 0 where
  pub clear : is_clearing port.adjacency.state ≡ false
  pub unspent : is_spent port.session ≡ false
  pub labels : Every (λ (label : Label). label.state ≡ Offered) (labels_of port)
  pub grants : Every (λ (grant : Grant). is_leaving grant.state ≡ false) port.grants
  pub apart : InOrder (λ (a b : Grant). grant_label a ≡ grant_label b → ⊥) port.grants

-- so is each of two ends that agree
abbrev pub AgreedEndsAreSettled : Type 0
AgreedEndsAreSettled = (one other : EndOfLink) → AreAgreed one other → number_of one.port ≤ last_number → IsSettled one.port

-- *Not heard by the port* is what comes on its default channel and is refused, or is a packet that is only counted: no label
-- is taken for its flow, for which a branch would be asked
pub record IsOnlyCounted (a : Acted) (packet : List ℕ) (linked : Linked) : Type 0 where
  pub asks_nothing : (counts linked.setup a.controller.desk (begins a linked) packet).actions ≡ []
  pub labels_in_order : InOrder (λ (x y : Label). label_number x < label_number y) (labels_of linked.port)

abbrev pub IsRefused : Result Message Fault → Type 0
IsRefused (Err fault) = Unit {0}
IsRefused (Ok message) = ⊥

abbrev pub IsUnheardAs : Acted → PortNo → (packet : List ℕ) → (is_message : Bool) → Type 0
IsUnheardAs a port packet true = IsRefused (ifmp_decoded (drop 20 packet))
IsUnheardAs a port packet false = (linked : Linked) → linked_at a.controller port ≡ Some linked → IsOnlyCounted a packet linked

abbrev pub IsUnheardPacket : Acted → PortNo → (packet : List ℕ) → Option PacketFault → Type 0
IsUnheardPacket a port packet (Some fault) = Unit {0}
IsUnheardPacket a port packet None = IsUnheardAs a port packet (protocol_of packet == control_protocol)

abbrev pub IsUnheard : Acted → PortNo → Result (List ℕ) EncapsFault → Type 0
IsUnheard a port (Err fault) = Unit {0}
IsUnheard a port (Ok packet) = IsUnheardPacket a port packet (first_fault packet)

-- *A frame for others*: on the default channel of another port, whatever it holds, or of the port itself, not heard by it; on the
-- channel of any label; on the GSMP channel, where the port is settled, and the controller has its ports in order
abbrev pub IsForOthers : PortNo → Acted → Taker → (payload : List ℕ) → Type 0
IsForOthers port a (ForDefault linked) payload = (linked.setup.port.0 ≢ port.0) ⊎ IsUnheard a linked.setup.port (default_unwrapped payload)
IsForOthers port a (ForLabel linked label) payload = Unit {0}
IsForOthers port a ForGsmp payload =
    InOrder (λ (x y : Linked). port_key x < port_key y) a.controller.ports
    × ((linked : Linked) → linked_at a.controller port ≡ Some linked → IsSettled linked.port)

-- *It leaves the port so*, where the node is up behind it
abbrev pub FramesForOthersAreUnseen : Type 0
FramesForOthersAreUnseen = (port : PortNo) (a : Acted) (taker : Taker) (mark : Mark) (payload : List ℕ) → IsForOthers port a taker payload
    → IsUp (frame_holds a taker mark payload) → LeavesAlike port a (frame_holds a taker mark payload)
