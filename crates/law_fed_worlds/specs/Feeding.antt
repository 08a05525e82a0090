-- What the law of broken frames asks of a network: of the requests on their way to the switches their shapes, and of each
-- switch that one list of cells leads to a label at most

use Rattle.std.specs.Prelude.{◌≡◌, ◌<◌, true, List, [], ◌++◌, Contains, Some}
use Rattle.law_branch_shapes.specs.world_model.Words.{NodeId, Down, End, Standing, Policy, home_of, Topology, World, Site, queue_at, run, world_after, records_of, on_channel, output_at, HasCauses, IsTame, IsRun, leads}
use Rattle.law_branch_shapes.specs.world_model.network_model.declared.event.Event.{Event}
use Rattle.law_branch_shapes.specs.world_model.World.{opened}
use Rattle.law_branch_shapes.specs.law_world_views.Pairs.{IsJoin}
use Rattle.law_branch_shapes.specs.law_world_views.Between.{EachSite, HasShapes}
use Rattle.law_branch_shapes.specs.law_world_views.Tied.{HasJoins}
use Rattle.law_branch_shapes.specs.Events.{CopiesAreShaped}
use Rattle.law_branch_shapes.specs.law_causes.Feeding.{IsFedOnce}

-- *One feeder*: no two inputs of links lead to one label; and where one leads to a label, no cell that the controller sent
-- to that label waits for the switch
abbrev pub LeadOnce : World → NodeId → Type 0
LeadOnce w node = (one other output : End) → 0 < one.port.0 → 0 < other.port.0 → 0 < output.port.0
    → output_at w node one ≡ Some output → output_at w node other ≡ Some output → one ≡ other

pub record HasOneFeeder (w : World) (node : NodeId) : Type 0 where
  pub once : LeadOnce w node
  pub passed : (input output : End) → 0 < input.port.0 → 0 < output.port.0 → output_at w node input ≡ Some output
      → on_channel (home_of output).channel (queue_at w (Down node)) ≡ []

-- once a switch is met, the first is so where each two labels that are joined are a join of its controller
abbrev pub JoinsLeadOnce : Type 0
JoinsLeadOnce = (w : World) (node : NodeId) (site : Site) → HasJoins w node site → site.controller.has_met ≡ true → LeadOnce w node

-- *Each list of cells is fed by one other at most* in a world of a run where that is so, and branches have their shapes
abbrev pub FedInRuns : Type 0
FedInRuns = (policy : Policy) (topology : Topology) (events : List Event)
    → EachSite (world_after topology (opened policy topology) events) (HasShapes (world_after topology (opened policy topology) events))
    → ((node : NodeId) → HasOneFeeder (world_after topology (opened policy topology) events) node)
    → IsFedOnce (world_after topology (opened policy topology) events)

-- *So broken frames stand beside a cause* in every run before the first forged frame and the first chance, in each of whose
-- worlds it is so and requests on their way have their shapes
pub record IsFedWorld (w : World) : Type 0 where
  pub copies : CopiesAreShaped w
  pub feeders : (node : NodeId) → HasOneFeeder w node

abbrev pub CausesInRuns : Type 0
CausesInRuns = (policy : Policy) (topology : Topology) (events : List Event) → IsRun policy topology events
    → IsTame (records_of (run policy topology events))
    → ((before after : List Event) → events ≡ before ++ after → IsFedWorld (world_after topology (opened policy topology) before))
    → HasCauses policy topology events

-- *What stands at a controller's desk* and leads one label to another is of a join, in every run, forged frames or not: so
-- of what is joined, or may be, branches and requests on their way alone are left to be told of
abbrev pub AskedAreJoined : Type 0
AskedAreJoined = (policy : Policy) (topology : Topology) (events : List Event)
    → EachSite (world_after topology (opened policy topology) events) (λ node site. (s : Standing) (input output : End)
    → Contains site.controller.desk.standing s → leads s.request ≡ Some (input, output) → 0 < input.port.0 → 0 < output.port.0
    → IsJoin site.controller input output)
