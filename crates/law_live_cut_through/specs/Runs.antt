-- In every run new flows of which enough packets are sent are cut through, in calm beats that follow, from an unlabelled network on

use Rattle.std.specs.Prelude.{List}
use Rattle.world_model.specs.Words.{Policy, Topology, IsRun}
use Rattle.world_model.specs.network_model.declared.event.Event.{Event}
use Rattle.calm_model.specs.CutThrough.{FlowsAreCutThrough}
use Rattle.law_live_ease.specs.law_run_facts.law_world_views.Fronts.{HasAddresses}

-- *Every run* whose nodes' addresses have 32 bits
abbrev pub RunsCutThrough : Type 0
RunsCutThrough = (policy : Policy) (topology : Topology) (events : List Event) → IsRun policy topology events → HasAddresses topology
    → FlowsAreCutThrough policy topology events
