-- What a carry brings a controller for others than one of its ports leaves this port as its peer sees it

use Rattle.std.specs.Prelude.{◌≡◌, ◌≢◌, ◌⊎◌, ℕ, true, List, [], ◌∷◌, None, Some, Ok}
use Rattle.world_model.specs.Words.{PortNo, Place, Up, Cell, payload_of, control_protocol, protocol_of, default_unwrapped, default_home, Linked, taker_of, ForGsmp, ForDefault, ForLabel, Topology, World, Site, site_at, queue_at, next, CountsAsItsFrame}
use Rattle.world_model.specs.ipv4_packet.Packet.{first_fault}
use Rattle.world_model.specs.Controller.{Acted}
use Rattle.world_model.specs.Cells.{Taker}
use Rattle.world_model.specs.network_model.declared.link.LinkEnd.{LinkEnd}
use Rattle.world_model.specs.network_model.declared.event.Event.TheVariants.{Carry}
use Rattle.law_live_elsewhere.specs.Law.{IsElsewhere}
use Rattle.law_live_rests.specs.Law.{StaysAlike}
use Rattle.law_live_hearing.specs.Law.{acting}
use Rattle.law_live_orders.specs.Law.{is_last_on}
use Rattle.law_live_orders.specs.Messages.{HoldsNone}
use Rattle.law_live_others.specs.Law.{IsUp, IsOnlyCounted, IsForOthers}
use Rattle.law_live_numbers.specs.Law.{HasNumbersFor}

-- *A carry brings an end no message* on its port's default channel
abbrev pub HoldNone : World → LinkEnd → List Cell → Type 0
HoldNone w end [] = Unit {0}
HoldNone w end (cell ∷ cells) = is_last_on (default_home end.port).channel cell ≡ true → HoldsNone w.notes.frames cell.mark

abbrev pub BringsNone : World → LinkEnd → Place → Type 0
BringsNone w end (Up node) = node.0 ≡ end.node.0 → HoldNone w end (queue_at w (Up end.node))
BringsNone w end place = Unit {0}

-- *Packets are only counted* on the default channel of a port: if this payload is one, no label is taken for its flow
abbrev pub OnlyCounts : Acted → Linked → (payload : List ℕ) → Type 0
OnlyCounts a linked payload =
    (packet : List ℕ) → default_unwrapped payload ≡ Ok packet → first_fault packet ≡ None → protocol_of packet ≢ control_protocol
    → IsOnlyCounted a packet linked

-- *A frame passes a port by*, if it is no message to it: on the default channel of another port, where numbers are left for it; on
-- its own, where packets are only counted; on the channel of a label; on the GSMP channel, where the port is settled, and
-- what the switch says is harmless
abbrev pub PassesBy : PortNo → Acted → Taker → (payload : List ℕ) → Type 0
PassesBy port a (ForDefault linked) payload =
    (linked.setup.port.0 ≢ port.0 → HasNumbersFor a (ForDefault linked) payload) × (linked.setup.port.0 ≡ port.0 → OnlyCounts a linked payload)
PassesBy port a (ForLabel linked label) payload = Unit {0}
PassesBy port a ForGsmp payload = IsForOthers port a ForGsmp payload × HasNumbersFor a ForGsmp payload

-- *The frame of a cell is so*, by what was made under its mark, for who takes it; and the node is up
pub record IsCellForOthers (w : World) (port : PortNo) (site : Site) (cell : Cell) : Type 0 where
  pub up : IsUp (acting w site)
  pub passes : (taker : Taker) (payload : List ℕ) → taker_of site.controller cell.header.channel ≡ Some taker → payload_of w.notes.frames cell.mark ≡ Some payload
      → PassesBy port (acting w site) taker payload

-- *For others* than the port at an end is what a carry brings its node, where that ends a frame
abbrev pub AreForOthers : World → LinkEnd → List Cell → Type 0
AreForOthers w end [] = Unit {0}
AreForOthers w end (cell ∷ cells) = cell.header.last ≡ true → (site : Site) → site_at w end.node ≡ Some site → IsCellForOthers w end.port site cell

abbrev pub IsForOthersAt : World → LinkEnd → Place → Type 0
IsForOthersAt w end (Up node) = node.0 ≡ end.node.0 → AreForOthers w end (queue_at w (Up end.node))
IsForOthersAt w end place = Unit {0}

-- *Then the port is left* as its peer sees it, where no frame passes by chance
abbrev pub CarriesPassBy : Type 0
CarriesPassBy = (topology : Topology) (w : World) (end : LinkEnd) (place : Place) → CountsAsItsFrame w (Carry place) → IsForOthersAt w end place
    → BringsNone w end place → StaysAlike w (next topology w (Carry place)) end

-- and so are both ends of a link
abbrev pub CarriesForOthersAreUnseen : Type 0
CarriesForOthersAreUnseen = (topology : Topology) (w : World) (one far : LinkEnd) (place : Place) → CountsAsItsFrame w (Carry place)
    → IsForOthersAt w one place → IsForOthersAt w far place
    → BringsNone w one place → BringsNone w far place
    → IsElsewhere w one far place ⊎ (StaysAlike w (next topology w (Carry place)) one × StaysAlike w (next topology w (Carry place)) far)
