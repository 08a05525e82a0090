-- What is true of every run of a network, whatever its policy: the headline, and what stands beside it

use Rattle.std.specs.Prelude.{List}
use Rattle.world_model.specs.Words.{Policy, Topology, IsRun}
use Rattle.world_model.specs.network_model.declared.event.Event.{Event}
use Rattle.law_run_facts.specs.law_world_views.Fronts.{HasAddresses}
use Rattle.law_true_losses.specs.truth_model.Run.{IsTrueRun}

-- *Every run* whose nodes' addresses have 32 bits
abbrev pub RunsAreTrue : Type 0
RunsAreTrue = (policy : Policy) (topology : Topology) (events : List Event) → IsRun policy topology events → HasAddresses topology
    → IsTrueRun policy topology events
