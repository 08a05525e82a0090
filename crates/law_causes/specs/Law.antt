-- What is so of every run

use Rattle.std.specs.Prelude.{◌≡◌, List, ◌++◌, Some}
use Rattle.law_cell_lists.specs.world_model.Words.{NodeId, Policy, Controller, Linked, Topology, controller_at, run, world_after, records_of, HasCauses, IsTame, IsRun}
use Rattle.law_controller_bindings.specs.ordered_lists.Ordered.{Every}
use Rattle.law_cell_lists.specs.world_model.network_model.declared.event.Event.{Event}
use Rattle.law_cell_lists.specs.world_model.World.{opened}
use Rattle.law_controller_bindings.specs.Bindings.{IsOfBound}
use Rattle.law_causes.specs.Feeding.{IsFedOnce}

-- *Cells are gathered for bound labels alone*, at each node in each world, forged frames and chances or not
abbrev pub GathersBound : Controller → Type 0
GathersBound c = Every (λ (linked : Linked). Every (IsOfBound linked) linked.chains) c.ports

abbrev pub GathersInRuns : Type 0
GathersInRuns = (policy : Policy) (topology : Topology) (events : List Event) (node : NodeId) (c : Controller)
    → controller_at (world_after topology (opened policy topology) events) node ≡ Some c → GathersBound c

-- *Broken frames stand beside a cause* in every run that has no forged frame and no chance, where each list is fed by
-- one other at most in each of its worlds
abbrev pub BreaksHaveCauses : Type 0
BreaksHaveCauses = (policy : Policy) (topology : Topology) (events : List Event) → IsRun policy topology events
    → IsTame (records_of (run policy topology events))
    → ((before after : List Event) → events ≡ before ++ after → IsFedOnce (world_after topology (opened policy topology) before))
    → HasCauses policy topology events
