-- That the flow bound last to an output is one hop further than that of its input, behind each event of a run

use Rattle.std.specs.Prelude.{List}
use Rattle.world_model.specs.Words.{Policy, Topology, past_of}
use Rattle.world_model.specs.network_model.declared.event.Event.{Event}
use Rattle.law_frame_readings.specs.law_world_views.Between.{IsWorld, HasAllHops}
use Rattle.law_frame_readings.specs.law_world_views.Kept.{Comes, behind, BindsUnusedAt}

abbrev pub RunsLeadOn : Type 0
RunsLeadOn = (policy : Policy) (topology : Topology) (before : List Event) (event : Event) → Comes policy topology before event
    → IsWorld (past_of policy topology before) → BindsUnusedAt policy topology before event → HasAllHops (behind policy topology before event)
