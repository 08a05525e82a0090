-- The carries of a beat make each end of a link hear what the other said, in order

use Rattle.std.specs.Prelude.{◌≡◌, ◌⊎◌, ◌<◌, ◌^◌, false, List, [], ◌∷◌, ◌++◌, map, Some}
use Rattle.world_model.specs.Words.{Addr, Place, Cell, InRange, FitsMessage, has_entry, Linked, linked_at, Topology, World, Site, site_at, IsTopology, queue_at, next, world_after, CountsAsItsFrame}
use Rattle.world_model.specs.ifmp_wire.declared.message.Message.{Message}
use Rattle.world_model.specs.network_model.declared.link.LinkEnd.{LinkEnd}
use Rattle.world_model.specs.network_model.declared.event.Event.TheVariants.{Carry}
use Rattle.law_passing.specs.ordered_lists.Ordered.{Every}
use Rattle.law_live_elsewhere.specs.Law.{IsElsewhere}
use Rattle.law_live_rests.specs.Law.{address_at, StaysAlike, Go}
use Rattle.law_live_orders.specs.Law.{coming, sent_at, IsOpenWay, LosesNone}
use Rattle.law_live_orders.specs.Messages.{AreSaid, AreComing, StayMade}
use Rattle.law_live_passed_by.specs.Law.{BringsNone}

-- *A way* from one end of a link to the other, at a carry: it is open, the carry loses none of what is on it, what was made
-- of that stays, and none of it is said anew
pub record IsCalmWay (topology : Topology) (w : World) (one far : LinkEnd) (place : Place) : Type 0 where
  pub is_open : IsOpenWay topology w one far
  pub unlost : LosesNone topology w one far (Carry place)
  pub stays : StayMade w.notes.frames (next topology w (Carry place)).notes.frames (coming w one far)
  pub quiet : AreSaid (address_at w one.node) (next topology w (Carry place)).notes.frames (sent_at topology w (Carry place) one) []

-- *Its end* has a port there; where the carry brings the last cell of a frame to that, the frame passes by no chance, and
-- the ledger has no entry of it
pub record IsCalmEnd (topology : Topology) (w : World) (far : LinkEnd) (place : Place) : Type 0 where
  pub site : Site
  pub there : site_at w far.node ≡ Some site
  pub linked : Linked
  pub of_port : linked_at site.controller far.port ≡ Some linked
  pub counts : CountsAsItsFrame w (Carry place)
  pub unlost : (cell : Cell) (cells : List Cell) → queue_at w place ≡ cell ∷ cells → has_entry (next topology w (Carry place)).notes.entries cell.mark ≡ false

-- *A calm carry*: both ways and both ends are so, and each node goes by its address; where it isn't a message of the other end
-- that is heard, the carry is elsewhere, or leaves both ports as their peers see them
pub record IsCalmCarry (topology : Topology) (w : World) (one far : LinkEnd) (address far_address : Addr) (place : Place) : Type 0 where
  pub there : IsCalmWay topology w one far place
  pub back : IsCalmWay topology w far one place
  pub near : IsCalmEnd topology w one place
  pub far_end : IsCalmEnd topology w far place
  pub goes_by : address_at w one.node ≡ address
  pub far_goes_by : address_at w far.node ≡ far_address
  pub alike : BringsNone w one place → BringsNone w far place
      → IsElsewhere w one far place ⊎ (StaysAlike w (next topology w (Carry place)) one × StaysAlike w (next topology w (Carry place)) far)

-- *A message that can be written*
pub record IsWritten (message : Message) : Type 0 where
  pub range : InRange message
  pub fits : FitsMessage message

-- *So the carries go*, where each is calm, and nothing is on its way in the end
abbrev pub CarriesGo : Type 0
CarriesGo = (topology : Topology) (w : World) (one far : LinkEnd) (places : List Place) (address far_address : Addr) (said far_said : List Message)
    → IsTopology topology → address.0 < 2 ^ 32 → far_address.0 < 2 ^ 32 → Every IsWritten said → Every IsWritten far_said
    → ((front rest : List Place) (place : Place) → places ≡ front ++ place ∷ rest
    → IsCalmCarry topology (world_after topology w (map Carry front)) one far address far_address place)
    → AreComing address w one far said → AreComing far_address w far one far_said
    → coming (world_after topology w (map Carry places)) one far ≡ [] → coming (world_after topology w (map Carry places)) far one ≡ []
    → Go topology one far w (map Carry places) said far_said
