-- Along a stretch of a run each request that comes to a node's switch next is carried out

use Rattle.std.specs.Prelude.{◌≡◌, List, ◌∷◌, ◌++◌, Some}
use Rattle.world_model.specs.Words.{Policy, NodeId, Down, Up, Out, Topology, World, Site, site_at, next, world_after, past_of, IsRun, IsTame}
use Rattle.world_model.specs.network_model.declared.event.Event.{Event}
use Rattle.world_model.specs.network_model.declared.event.Event.TheVariants.{Carry, Tick, TickSwitch}
use Rattle.law_live_lasting.specs.law_run_facts.law_world_views.Fronts.{HasAddresses}
use Rattle.law_live_lasting.specs.law_live_hearing.Law.{world_at}
use Rattle.law_live_lasting.specs.law_live_orders.Slots.{IsUnlost}
use Rattle.law_live_lasting.specs.law_live_control_links.Law.{IsUnspentAt, ControllerListens, SwitchListens}
use Rattle.law_live_lasting.specs.law_live_mirrored_worlds.Law.{IsCalmlyMirrored, CarriesOut}
use Rattle.law_live_lasting.specs.law_live_mirrored_worlds.Ticks.{IsPeacefulTick}
use Rattle.law_live_asking.specs.Carries.{IsCalmArrival}

-- *An event goes on so* for a node: of a carry to its switch the ledger has no entry of the cell behind it, what a carry brings its
-- controller may come, its controller ticks in peace, and who ticks has heard its peer lately. Of others nothing else is asked
abbrev pub GoesOn : Topology → World → NodeId → Event → Type 0
GoesOn topology w node (Carry (Down here)) = here.0 ≡ node.0 → IsUnlost topology w (Down here)
GoesOn topology w node (Carry (Up here)) = here.0 ≡ node.0 → (site : Site) → site_at w here ≡ Some site → IsCalmArrival topology w here site
GoesOn topology w node (Carry (Out here port)) = Unit {0}
GoesOn topology w node (Tick here) = ControllerListens w here × (here.0 ≡ node.0 → (site : Site) → site_at w here ≡ Some site → IsPeacefulTick topology w here site)
GoesOn topology w node (TickSwitch here) = SwitchListens w here
GoesOn topology w node event = ⊥

-- *A calm stretch* of carries and ticks, in a run before the first frame that was forged or passes by chance; the node's transaction numbers
-- aren't spent behind any of them
pub record IsCalmStretch (policy : Policy) (topology : Topology) (before : List Event) (node : NodeId) (events : List Event) : Type 0 where
  pub run : IsRun policy topology (before ++ events)
  pub addresses : HasAddresses topology
  pub tame : IsTame (past_of policy topology (before ++ events)).records
  pub goes_on : (front rest : List Event) (event : Event) → events ≡ front ++ event ∷ rest
      → GoesOn topology (world_after topology (world_at policy topology before) front) node event
  pub unspent : (front rest : List Event) (event : Event) → events ≡ front ++ event ∷ rest
      → IsUnspentAt (next topology (world_after topology (world_at policy topology before) front) event) node

-- *Behind each front of it* the node is mirrored, its control link is calm, and the request that comes next is carried out, where it was so
-- as the stretch began
abbrev pub RunsCarryOut : Type 0
RunsCarryOut = (policy : Policy) (topology : Topology) (before : List Event) (node : NodeId) (events : List Event) → IsCalmlyMirrored (world_at policy topology before) node
    → IsCalmStretch policy topology before node events → (front rest : List Event) → events ≡ front ++ rest
    → CarriesOut (world_after topology (world_at policy topology before) front) node
