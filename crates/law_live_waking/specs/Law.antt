-- An event of a network is a turn of the two ends of a node's control link, or leaves them as they are

use Rattle.std.specs.Prelude.{◌≡◌, ◌≢◌, ℕ, List, fold, length, Some}
use Rattle.world_model.specs.Words.{Policy, past_of, NodeId, Place, Party, Topology, World, Site, site_at, next}
use Rattle.world_model.specs.network_model.declared.event.Event.{Event}
use Rattle.world_model.specs.network_model.declared.event.Event.TheVariants.{Inject, Carry, Tick, TickSwitch}
use Rattle.law_running_worlds.specs.law_world_views.Between.{IsWorld}
use Rattle.law_running_worlds.specs.law_world_views.Kept.{Comes}
use Rattle.law_running_worlds.specs.law_world_views.Made.{AreMade}
use Rattle.law_running_worlds.specs.law_world_views.Ready.{FitsSide}
use Rattle.law_live_meetings.specs.Exchange.{gsmp, Ends, swapped, ticks, Turn, turns}
pub use Rattle.live_model.specs.Peace.{EndsUnlost, FailsNone, IsPeaceful, LosesNone}
use Rattle.law_live_control_links.specs.Law.{IsSteady, IsTrueEvent}
use Rattle.law_live_waking.specs.Greetings.{ShowsEnds}

-- *What holds of a node in a run* as an event comes: it is a steady one and the event a true one; the parties that both sides
-- name can be written; its switch has nine queues; and what was made of frames is messages and packets
pub record IsGoing (topology : Topology) (w : World) (node : NodeId) (event : Event) : Type 0 where
  pub steady : IsSteady topology w node
  pub is_true : IsTrueEvent topology w event
  pub fits : (site : Site) → site_at w node ≡ Some site → FitsSide site.controller.adjacency × FitsSide site.switch.adjacency
  pub queues : (site : Site) → site_at w node ≡ Some site → length site.switch.crossbar.queues ≡ 9
  pub made : AreMade w.notes.frames

-- each event that comes in a run before the first frame that was forged or passes its test by chance is such a one, at each node
abbrev pub RunsGo : Type 0
RunsGo = (policy : Policy) (topology : Topology) (before : List Event) (event : Event) → Comes policy topology before event
    → IsWorld (past_of policy topology before) → (node : NodeId) → IsGoing topology (past_of policy topology before).now node event

-- *Turns are taken*: what the network shows behind them
pub record TakesTurns (v : World) (node : NodeId) (ends : Ends Party) : Type 0 where
  pub come : List (Turn Party)
  pub shows : ShowsEnds v node (fold (turns gsmp) ends come)

-- *A carry*, wherever it is, is a turn, or none; a packet that is sent is none
abbrev pub CarriesAreTurns : Type 0
CarriesAreTurns = (topology : Topology) (w : World) (node : NodeId) (place : Place) (ends : Ends Party) → IsGoing topology w node (Carry place)
    → IsPeaceful topology w node (Carry place) → ShowsEnds w node ends → TakesTurns (next topology w (Carry place)) node ends

abbrev pub PacketsAreNone : Type 0
PacketsAreNone = (topology : Topology) (w : World) (node here : NodeId) (octets : List ℕ) (ends : Ends Party) → IsGoing topology w node (Inject here octets)
    → IsPeaceful topology w node (Inject here octets) → ShowsEnds w node ends → ShowsEnds (next topology w (Inject here octets)) node ends

-- *A tick* of the node's controller, and of its switch, is one of its end; every other tick is nothing
pub record ShowsTick (v : World) (node : NodeId) (ends : Ends Party) : Type 0 where
  pub drawn : Party
  pub shows : ShowsEnds v node (ticks gsmp ends drawn)

pub record ShowsSwitchTick (v : World) (node : NodeId) (ends : Ends Party) : Type 0 where
  pub drawn : Party
  pub shows : ShowsEnds v node (swapped (ticks gsmp (swapped ends) drawn))

pub record TicksAreTurns : Type 0 where
  pub controller : (topology : Topology) (w : World) (node here : NodeId) (ends : Ends Party) → here.0 ≡ node.0 → IsGoing topology w node (Tick here)
      → IsPeaceful topology w node (Tick here) → ShowsEnds w node ends → ShowsTick (next topology w (Tick here)) node ends
  pub switch : (topology : Topology) (w : World) (node here : NodeId) (ends : Ends Party) → here.0 ≡ node.0 → IsGoing topology w node (TickSwitch here)
      → IsPeaceful topology w node (TickSwitch here) → ShowsEnds w node ends → ShowsSwitchTick (next topology w (TickSwitch here)) node ends
  pub another : (topology : Topology) (w : World) (node here : NodeId) (ends : Ends Party) → here.0 ≢ node.0 → IsGoing topology w node (Tick here)
      → ShowsEnds w node ends → ShowsEnds (next topology w (Tick here)) node ends
  pub another_switch : (topology : Topology) (w : World) (node here : NodeId) (ends : Ends Party) → here.0 ≢ node.0 → IsGoing topology w node (TickSwitch here)
      → ShowsEnds w node ends → ShowsEnds (next topology w (TickSwitch here)) node ends
