-- In every run a network that begins is unlabelled behind eleven quiet calm beats

use Rattle.std.specs.Prelude.{List}
use Rattle.world_model.specs.Words.{Policy, Topology, IsRun}
use Rattle.world_model.specs.network_model.declared.event.Event.{Event}
use Rattle.law_live_begun.specs.Begun.{NetworksBegin}
use Rattle.law_link_parties.specs.law_run_facts.law_world_views.Fronts.{HasAddresses}

abbrev pub RunsBegin : Type 0
RunsBegin = (policy : Policy) (topology : Topology) (events : List Event) → IsRun policy topology events → HasAddresses topology
    → NetworksBegin policy topology events
