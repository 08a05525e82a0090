-- A network at ease binds, and is at ease behind a calm stretch

use Rattle.std.specs.Prelude.{◌≡◌, true, List, ◌++◌}
use Rattle.world_model.specs.Words.{Policy, is_empty, Topology, past_of, IsRun, IsTame}
use Rattle.world_model.specs.network_model.declared.event.Event.{Event}
use Rattle.law_live_ease.specs.law_run_facts.law_world_views.Fronts.{HasAddresses}
use Rattle.law_live_ease.specs.law_live_hearing.Law.{world_at}
use Rattle.law_live_ease.specs.Law.{IsAtEase, Binds}
use Rattle.law_live_ease.specs.Binding.{IsCalmStretch}

-- *At ease it binds*, in a run before the first frame that was forged or passes by chance
abbrev pub EaseBinds : Type 0
EaseBinds = (policy : Policy) (topology : Topology) (events : List Event) → IsRun policy topology events → HasAddresses topology
    → IsTame (past_of policy topology events).records → IsAtEase topology (world_at policy topology events) → Binds topology (world_at policy topology events)

-- *It is at ease again* behind a calm stretch, in which packets are sent and cells carried until no queue has one
abbrev pub StretchesKeepEase : Type 0
StretchesKeepEase = (policy : Policy) (topology : Topology) (before events : List Event) → IsCalmStretch policy topology before events
    → is_empty (world_at policy topology (before ++ events)) ≡ true → IsAtEase topology (world_at policy topology before)
    → IsAtEase topology (world_at policy topology (before ++ events))
