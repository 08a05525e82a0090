-- A carry that brings a controller nothing to which one of its ports has to answer says no message on the port's default channel

use Rattle.std.specs.Prelude.{◌≡◌, ℕ, ◌<◌, List, [], ◌∷◌, Some}
use Rattle.world_model.specs.Words.{Addr, NodeId, Place, Up, Cell, payload_in, nothing_taken, with_reassembly, taker_of, IsLinkPort, Topology, World, Site, site_at, queue_at, next, OfController}
use Rattle.world_model.specs.Cells.{Taker}
use Rattle.world_model.specs.Stretches.{ended_at}
use Rattle.world_model.specs.frame_model.Frame.{octets_of}
use Rattle.world_model.specs.network_model.declared.link.LinkEnd.{LinkEnd}
use Rattle.world_model.specs.network_model.declared.event.Event.TheVariants.{Carry}
use Rattle.law_live_hearing.specs.Law.{acting}
use Rattle.law_live_orders.specs.Law.{sent_at}
use Rattle.law_live_orders.specs.Messages.{AreSaid}
use Rattle.law_live_unsaid.specs.Law.{IsUnanswered, SendsByLabels}

-- *A cell ends a frame* at its taker: the chain passes its test with this payload
pub record EndsFrame (w : World) (node : NodeId) (site : Site) (cell : Cell) (taker : Taker) (payload : List ℕ) : Type 0 where
  pub takes : taker_of site.controller cell.header.channel ≡ Some taker
  pub whole : payload_in (octets_of (ended_at w (Carry (Up node)) (OfController node cell.header.channel))) ≡ Some payload

-- *The first cell that waits* is under the mark of a packet or a control mark, and the port has nothing to say to a frame that it ends
abbrev pub BringsNothing : World → (one : LinkEnd) → Site → List Cell → Type 0
BringsNothing w one site [] = Unit {0}
BringsNothing w one site (cell ∷ cells) =
    (cell.mark.packet ≡ 0 → 0 < cell.mark.frame)
    × ((taker : Taker) (payload : List ℕ) → EndsFrame w one.node site cell taker payload
    → IsUnanswered one.port (with_reassembly (acting w site) taker nothing_taken) taker payload)

-- *A carry is unanswered* by the end of a link: it is to a switch, or to another controller, or brings its own no more than that
pub record HearsNothing (w : World) (one : LinkEnd) (site : Site) : Type 0 where
  pub labels : SendsByLabels site.controller
  pub brings : BringsNothing w one site (queue_at w (Up one.node))

abbrev pub IsUnansweredCarry : World → (one : LinkEnd) → Place → Type 0
IsUnansweredCarry w one (Up node) = node.0 ≡ one.node.0 → (site : Site) → site_at w one.node ≡ Some site → HearsNothing w one site
IsUnansweredCarry w one place = Unit {0}

-- *None is said* by it
abbrev pub UnansweredCarriesSayNone : Type 0
UnansweredCarriesSayNone = (topology : Topology) (w : World) (one : LinkEnd) (place : Place) (address : Addr) → IsLinkPort one.port
    → IsUnansweredCarry w one place → AreSaid address (next topology w (Carry place)).notes.frames (sent_at topology w (Carry place) one) []
