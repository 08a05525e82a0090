-- An unlabelled network, in which all have met and no label is held, is at ease

use Rattle.std.specs.Prelude.{List}
use Rattle.world_model.specs.Words.{Policy, Topology, IsRun, past_of, IsTame}
use Rattle.world_model.specs.network_model.declared.event.Event.{Event}
use Rattle.calm_model.specs.Unlabelled.{IsUnlabelled}
use Rattle.law_live_journeys.specs.law_run_facts.law_world_views.Fronts.{HasAddresses}
use Rattle.law_live_journeys.specs.law_live_hearing.Law.{world_at}
use Rattle.law_live_ease.specs.Law.{IsAtEase}

-- *An unlabelled network is at ease*, in a run before the first frame that was forged or passes by chance
abbrev pub UnlabelledNetworksAreAtEase : Type 0
UnlabelledNetworksAreAtEase = (policy : Policy) (topology : Topology) (events : List Event) → IsRun policy topology events → HasAddresses topology
    → IsTame (past_of policy topology events).records → IsUnlabelled topology (world_at policy topology events) → IsAtEase topology (world_at policy topology events)
