-- Before each event that binds a label nobody uses it, over a run

use Rattle.std.specs.Prelude.{◌≡◌, List, ◌∷◌, ◌++◌}
use Rattle.law_frame_readings.specs.world_model.Words.{Policy, Topology, past_of, BindsUnused}
use Rattle.law_frame_readings.specs.world_model.network_model.declared.event.Event.{Event}
use Rattle.law_frame_readings.specs.law_world_views.Kept.{BindsUnusedAt}

-- at each event of a run
abbrev pub EachBindIsUnused : Type 0
EachBindIsUnused = (policy : Policy) (topology : Topology) (events : List Event)
    → ((before after : List Event) (event : Event) → events ≡ before ++ event ∷ after → BindsUnusedAt policy topology before event)
    → BindsUnused (past_of policy topology events)
