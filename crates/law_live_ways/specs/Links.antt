-- No Delete All comes to a switch in peace, so what it reads keeps ways open

use Rattle.std.specs.Prelude.{◌≡◌, ◌≢◌, true, false, Some}
use Rattle.world_model.specs.Words.{NodeId, Place, Down, is_clearing, last_transaction, has_emptied, Controller, Linked, Topology, IsTopology, World, Site, site_at, queue_at, next, CountsAsItsFrame}
use Rattle.world_model.specs.gsmp_wire.declared.message.Message.{Message}
use Rattle.world_model.specs.network_model.declared.link.LinkEnd.{LinkEnd}
use Rattle.world_model.specs.network_model.declared.event.Event.TheVariants.{Carry, Tick, TickSwitch}
use Rattle.law_run_facts.specs.ordered_lists.Ordered.{Every}
use Rattle.law_run_facts.specs.law_controller.Order.{IsOrderly}
use Rattle.law_run_facts.specs.law_world_views.Between.{HasShapes}
use Rattle.law_live_orders.specs.Law.{IsOpenWay}
use Rattle.law_live_control.specs.Calm.{IsCalmCell}
use Rattle.law_live_control_links.specs.Law.{IsCalmLink, IsSteady, IsTrueEvent, ControllerListens}
use Rattle.law_live_ways.specs.Requests.{AsksKeeping}
use Rattle.law_live_ways.specs.Deleting.{DeletesNone}
use Rattle.law_live_ways.specs.Law.{IsRead}

-- *No Delete All is on its way* from a controller to its switch: each cell that waits on the GSMP channel is of another message
abbrev pub ComesNone : World → NodeId → Type 0
ComesNone w node = Every (IsCalmCell DeletesNone w.notes.frames) (queue_at w (Down node))

-- *None stands* at a node's desk, and its transaction numbers aren't spent
pub record StandsNoneIn (c : Controller) : Type 0 where
  pub unspent : c.desk.next ≢ last_transaction
  pub none : has_emptied c ≡ true

abbrev pub StandsNoneAt : World → NodeId → Type 0
StandsNoneAt w node = (site : Site) → site_at w node ≡ Some site → StandsNoneIn site.controller

-- as it is of every controller in a run that has met its switch, where no port waits to be cleared
abbrev pub MetStandNone : Type 0
MetStandNone = (c : Controller) → IsOrderly c → c.has_met ≡ true → Every (λ (linked : Linked). is_clearing linked.port.adjacency.state ≡ false) c.ports
    → has_emptied c ≡ true

-- *So it stays* in a network where the control link of the node is calm: behind a carry, wherever it is, and behind each tick, where none
-- stands behind it
pub record NoneComesStill : Type 0 where
  pub carries : (topology : Topology) (w : World) (node : NodeId) (place : Place) → IsCalmLink w node → IsSteady topology w node
      → IsTrueEvent topology w (Carry place) → StandsNoneAt (next topology w (Carry place)) node
      → ComesNone w node → ComesNone (next topology w (Carry place)) node
  pub ticks : (topology : Topology) (w : World) (node here : NodeId) → IsCalmLink w node → IsSteady topology w node
      → IsTrueEvent topology w (Tick here) → ControllerListens w here → StandsNoneAt (next topology w (Tick here)) node
      → ComesNone w node → ComesNone (next topology w (Tick here)) node
  pub switch_ticks : (topology : Topology) (w : World) (node here : NodeId) → IsTrueEvent topology w (TickSwitch here)
      → ComesNone w node → ComesNone (next topology w (TickSwitch here)) node

-- *What the switch reads* then keeps ways open, by the shapes of what is asked in a run, where no frame passes by chance
abbrev pub ReadsKeepWays : Type 0
ReadsKeepWays = (w : World) (node : NodeId) (site : Site) (message : Message) → site_at w node ≡ Some site → HasShapes w node site
    → CountsAsItsFrame w (Carry (Down node)) → ComesNone w node → IsRead w node message → AsksKeeping message

-- *So a way stays open* behind each carry in peace: at both ends what is asked has the shapes of what controllers ask in a run, and no
-- Delete All is on its way
pub record IsPeaceful (w : World) (node : NodeId) : Type 0 where
  pub site : Site
  pub found : site_at w node ≡ Some site
  pub shapes : HasShapes w node site
  pub none : ComesNone w node

abbrev pub CarriesKeepWays : Type 0
CarriesKeepWays = (topology : Topology) (w : World) (one far : LinkEnd) (place : Place) → IsTopology topology → IsOpenWay topology w one far
    → IsPeaceful w one.node → IsPeaceful w far.node → CountsAsItsFrame w (Carry place) → IsOpenWay topology (next topology w (Carry place)) one far
