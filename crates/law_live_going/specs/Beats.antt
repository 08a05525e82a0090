-- A beat whose ticks and carries are calm leaves two ends that agree at rest so

use Rattle.std.specs.Prelude.{◌≡◌, ◌≢◌, ◌<◌, ◌^◌, List, [], ◌∷◌, ◌++◌, map, Some}
use Rattle.world_model.specs.Words.{Place, Linked, linked_at, Topology, World, Site, site_at, IsTopology, IsShaped, next, tick_of_all, world_after}
use Rattle.world_model.specs.network_model.declared.link.LinkEnd.{LinkEnd}
use Rattle.world_model.specs.network_model.declared.event.Event.{Event}
use Rattle.world_model.specs.network_model.declared.event.Event.TheVariants.{Carry}
use Rattle.live_model.specs.Beats.{Beat, settled}
use Rattle.law_passing.specs.ordered_lists.Ordered.{Every}
use Rattle.law_live_nodes.specs.Law.{IsNodeAtPeace, messages_of}
use Rattle.law_live_saying.specs.Law.{ticking}
use Rattle.law_live_worlds.specs.Law.{AgreeIn, IsCalm}
use Rattle.law_live_orders.specs.Law.{coming, IsOpenWay}
use Rattle.law_live_orders.specs.Messages.{AreComing, StayMade}
use Rattle.law_live_going.specs.Law.{IsWritten, IsCalmCarry}

-- *A calm tick*, for what is on its way from one end to the other: the way is open, no loss is entered, and what was made stays
pub record IsCalmTick (topology : Topology) (w : World) (one far : LinkEnd) (event : Event) : Type 0 where
  pub is_open : IsOpenWay topology w one far
  pub unlost : (next topology w event).notes.entries ≡ w.notes.entries
  pub stays : StayMade w.notes.frames (next topology w event).notes.frames (coming w one far)

abbrev pub AreCalmTicks : Topology → World → (one far : LinkEnd) → List Event → Type 0
AreCalmTicks topology w one far events = (front rest : List Event) (event : Event) → events ≡ front ++ event ∷ rest
    → IsCalmTick topology (world_after topology w front) one far event

-- *Behind the ticks* what one port said in its own is on its way, and nothing else, where nothing was before
abbrev pub TicksSayAll : Type 0
TicksSayAll = (topology : Topology) (w : World) (one far : LinkEnd) (site : Site) (linked : Linked) → IsTopology topology → IsShaped w
    → site_at w one.node ≡ Some site → IsNodeAtPeace (ticking w site) → linked_at site.controller one.port ≡ Some linked
    → coming w one far ≡ [] → AreCalmTicks topology w one far (tick_of_all w)
    → AreComing site.controller.address (world_after topology w (tick_of_all w)) one far (messages_of linked)

-- *A calm beat* of two ends that agree at rest: both nodes are at peace as it begins, what their ports say can be written, each tick
-- and each carry is calm, and in the end nothing is on its way
pub record IsCalmBeat (topology : Topology) (w : World) (one far : LinkEnd) (agree : AgreeIn w one far [] []) (beat : Beat) : Type 0 where
  pub near : IsCalm w one.node
  pub far_end : IsCalm w far.node
  pub low : agree.shows.site.controller.address.0 < 2 ^ 32
  pub far_low : agree.far_shows.site.controller.address.0 < 2 ^ 32
  pub written : Every IsWritten (messages_of agree.linked)
  pub far_written : Every IsWritten (messages_of agree.far_linked)
  pub ticks : AreCalmTicks topology w one far (tick_of_all w)
  pub far_ticks : AreCalmTicks topology w far one (tick_of_all w)
  pub carries : (front rest : List Place) (place : Place) → beat.carries ≡ front ++ place ∷ rest
      → IsCalmCarry topology (world_after topology (world_after topology w (tick_of_all w)) (map Carry front)) one far
      agree.shows.site.controller.address agree.far_shows.site.controller.address place
  pub empties : coming (settled topology w beat) one far ≡ []
  pub far_empties : coming (settled topology w beat) far one ≡ []

-- *Then they agree at rest* again, where nothing was on its way
abbrev pub BeatsSettle : Type 0
BeatsSettle = (topology : Topology) (w : World) (one far : LinkEnd) (beat : Beat) (agree : AgreeIn w one far [] []) → one.node.0 ≢ far.node.0
    → IsTopology topology → IsShaped w → coming w one far ≡ [] → coming w far one ≡ [] → IsCalmBeat topology w one far agree beat
    → AgreeIn (settled topology w beat) one far [] []
