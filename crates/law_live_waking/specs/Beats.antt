-- A beat of a network in peace is an exchange of the two ends of a node's control link, so that behind four of them a node has
-- woken: its controller and its switch have met

use Rattle.std.specs.Prelude.{◌≡◌, ◌≢◌, ◌≤◌, List, [], ◌∷◌, ◌++◌, fold, length, Some}
use Rattle.world_model.specs.Words.{NodeId, Down, Up, Party, Clearing, Side, IsSide, Topology, World, Site, site_at, queue_at, IsShaped, world_after}
use Rattle.world_model.specs.network_model.declared.event.Event.{Event}
use Rattle.live_model.specs.Beats.{Beat, events_in, behind, IsBeat}
pub use Rattle.live_model.specs.Waking.{HasWoken}
use Rattle.law_live_meetings.specs.Exchange.{gsmp, Ends, Exchange}
use Rattle.law_live_meetings.specs.Exchange as exchanges
use Rattle.law_live_waking.specs.Greetings.{ShowsEnds}
use Rattle.law_live_waking.specs.Law.{IsGoing, IsPeaceful}

-- *Each event of a stretch* is in peace, and comes as in a run
abbrev pub ArePeaceful : Topology → World → NodeId → List Event → Type 0
ArePeaceful topology w node events = (front rest : List Event) (event : Event) → events ≡ front ++ event ∷ rest
    → IsGoing topology (world_after topology w front) node event × IsPeaceful topology (world_after topology w front) node event

pub record IsPeacefulBeat (topology : Topology) (w : World) (node : NodeId) (beat : Beat) : Type 0 where
  pub is_beat : IsBeat topology w beat
  pub shaped : IsShaped w
  pub peaceful : ArePeaceful topology w node (events_in w beat)

-- *A beat is an exchange*
pub record ShowsExchange (v : World) (node : NodeId) (ends : Ends Party) : Type 0 where
  pub exchange : Exchange Party
  pub shows : ShowsEnds v node (exchanges.behind gsmp ends exchange)

abbrev pub BeatsAreExchanges : Type 0
BeatsAreExchanges = (topology : Topology) (w : World) (node : NodeId) (beat : Beat) (ends : Ends Party) → IsPeacefulBeat topology w node beat
    → ShowsEnds w node ends → ShowsExchange (behind topology w beat) node ends

-- *Beats one behind another*
abbrev pub ArePeacefulBeats : Topology → World → NodeId → List Beat → Type 0
ArePeacefulBeats topology w node [] = Unit {0}
ArePeacefulBeats topology w node (beat ∷ beats) = IsPeacefulBeat topology w node beat × ArePeacefulBeats topology (behind topology w beat) node beats

-- *A node at rest*, whatever its controller and its switch know of each other: nothing is on its way between the two. Neither side
-- is one that waits to be cleared, as ports do
pub record IsSuchSide (side : Side Party) : Type 0 where
  pub is_side : IsSide side
  pub clear : side.state ≢ Clearing

pub record RestsAt (w : World) (node : NodeId) : Type 0 where
  pub site : Site
  pub found : site_at w node ≡ Some site
  pub controller : IsSuchSide site.controller.adjacency
  pub switch : IsSuchSide site.switch.adjacency
  pub down : queue_at w (Down node) ≡ []
  pub up : queue_at w (Up node) ≡ []

-- *Behind four beats* both have met, and so it stays
abbrev pub NodesWake : Type 0
NodesWake = (topology : Topology) (w : World) (node : NodeId) (beats : List Beat) → RestsAt w node → ArePeacefulBeats topology w node beats
    → 4 ≤ length beats → HasWoken (fold (behind topology) w beats) node
