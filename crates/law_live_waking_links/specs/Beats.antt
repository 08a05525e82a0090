-- A beat of a network in peace is an exchange of the two ports of a link, so that behind four of them the link has woken: its
-- ports have met

use Rattle.std.specs.Prelude.{◌≡◌, ◌≢◌, ◌≤◌, List, [], ◌∷◌, ◌++◌, fold, length}
use Rattle.world_model.specs.Words.{Peer, Clearing, Side, IsSide, Linked, Topology, World, IsTopology, IsShaped, world_after}
use Rattle.world_model.specs.network_model.declared.link.LinkEnd.{LinkEnd}
use Rattle.world_model.specs.network_model.declared.event.Event.{Event}
use Rattle.live_model.specs.Beats.{Beat, events_in, behind, IsBeat}
use Rattle.live_model.specs.Met.{HaveMet}
use Rattle.law_live_waking.specs.law_live_meetings.Exchange.{ifmp, Ends, Exchange}
use Rattle.law_live_waking.specs.law_live_meetings.Exchange as exchanges
use Rattle.law_live_worlds.specs.Law.{Shows}
use Rattle.law_live_waking.specs.law_live_orders.Law.{coming}
use Rattle.law_live_waking_links.specs.Hellos.{ShowsEnds}
use Rattle.law_live_waking_links.specs.Law.{IsPeaceful}

-- *Each event of a stretch* is in peace
abbrev pub ArePeaceful : Topology → World → (one far : LinkEnd) → List Event → Type 0
ArePeaceful topology w one far events = (front rest : List Event) (event : Event) → events ≡ front ++ event ∷ rest
    → IsPeaceful topology (world_after topology w front) one far event

pub record IsPeacefulBeat (topology : Topology) (w : World) (one far : LinkEnd) (beat : Beat) : Type 0 where
  pub is_beat : IsBeat topology w beat
  pub shaped : IsShaped w
  pub peaceful : ArePeaceful topology w one far (events_in w beat)

-- *A beat is an exchange*
pub record ShowsExchange (v : World) (one far : LinkEnd) (ends : Ends Peer) : Type 0 where
  pub exchange : Exchange Peer
  pub shows : ShowsEnds v one far (exchanges.behind ifmp ends exchange)

abbrev pub BeatsAreExchanges : Type 0
BeatsAreExchanges = (topology : Topology) (w : World) (one far : LinkEnd) (beat : Beat) (ends : Ends Peer) → IsTopology topology → one.node.0 ≢ far.node.0
    → IsPeacefulBeat topology w one far beat → ShowsEnds w one far ends → ShowsExchange (behind topology w beat) one far ends

-- *No port waits to be cleared*, of the two of a link
abbrev pub IsClearAt : World → LinkEnd → Type 0
IsClearAt w end = (linked : Linked) → Shows w end linked → linked.port.adjacency.state ≢ Clearing

-- *Beats one behind another*, as each of which ends nothing is on its way between the two, and neither waits to be cleared
pub record ComesToRest (topology : Topology) (w : World) (one far : LinkEnd) (beat : Beat) : Type 0 where
  pub peaceful : IsPeacefulBeat topology w one far beat
  pub empties : coming (behind topology w beat) one far ≡ []
  pub empties_back : coming (behind topology w beat) far one ≡ []
  pub clear : IsClearAt (behind topology w beat) one
  pub far_clear : IsClearAt (behind topology w beat) far

abbrev pub ArePeacefulBeats : Topology → World → (one far : LinkEnd) → List Beat → Type 0
ArePeacefulBeats topology w one far [] = Unit {0}
ArePeacefulBeats topology w one far (beat ∷ beats) = ComesToRest topology w one far beat × ArePeacefulBeats topology (behind topology w beat) one far beats

-- *A link at rest*, whatever its ports know of each other: nothing is on its way between the two, and neither waits to be cleared
pub record IsSuchSide (side : Side Peer) : Type 0 where
  pub is_side : IsSide side
  pub clear : side.state ≢ Clearing

pub record RestsAt (w : World) (one far : LinkEnd) : Type 0 where
  pub linked : Linked
  pub far_linked : Linked
  pub shows : Shows w one linked
  pub far_shows : Shows w far far_linked
  pub side : IsSuchSide linked.port.adjacency
  pub far_side : IsSuchSide far_linked.port.adjacency
  pub there : coming w one far ≡ []
  pub back : coming w far one ≡ []

-- *Behind four beats* both have met, and so it stays
pub record HasWoken (w : World) (one far : LinkEnd) : Type 0 where
  pub linked : Linked
  pub far_linked : Linked
  pub shows : Shows w one linked
  pub far_shows : Shows w far far_linked
  pub met : HaveMet linked.port.adjacency far_linked.port.adjacency

abbrev pub LinksWake : Type 0
LinksWake = (topology : Topology) (w : World) (one far : LinkEnd) (beats : List Beat) → IsTopology topology → one.node.0 ≢ far.node.0 → RestsAt w one far
    → ArePeacefulBeats topology w one far beats → 4 ≤ length beats → HasWoken (fold (behind topology) w beats) one far
