-- What becomes of soft state in every run, whatever its policy

use Rattle.std.specs.Prelude.{List}
use Rattle.world_model.specs.Words.{Policy, Topology, IsRun}
use Rattle.world_model.specs.network_model.declared.event.Event.{Event}
use Rattle.live_model.specs.Run.{IsLiveRun}
use Rattle.calm_model.specs.Run.{IsCalmRun}
use Rattle.law_link_parties.specs.law_run_facts.law_world_views.Fronts.{HasAddresses}

-- *Every run* whose nodes' addresses have 32 bits
abbrev pub RunsAreLive : Type 0
RunsAreLive = (policy : Policy) (topology : Topology) (events : List Event) → IsRun policy topology events → HasAddresses topology
    → IsLiveRun policy topology events × IsCalmRun policy topology events
