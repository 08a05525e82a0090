-- In every run both ends of each link agree behind calm beats that begin at an unlabelled network

use Rattle.std.specs.Prelude.{List}
use Rattle.world_model.specs.Words.{Policy, Topology, IsRun}
use Rattle.world_model.specs.network_model.declared.event.Event.{Event}
use Rattle.calm_model.specs.Agreeing.{CalmBeatsAgree}
use Rattle.law_live_journeys.specs.law_run_facts.law_world_views.Fronts.{HasAddresses}

-- *Every run* whose nodes' addresses have 32 bits
abbrev pub RunsAgree : Type 0
RunsAgree = (policy : Policy) (topology : Topology) (events : List Event) → IsRun policy topology events → HasAddresses topology
    → CalmBeatsAgree policy topology events
