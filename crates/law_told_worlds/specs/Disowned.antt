-- No message that was made says of a label that it is taken, or that it is of another flow

use Rattle.std.specs.Prelude.{◌≡◌, false, List}
use Rattle.std.specs.List.{list_any}
use Rattle.world_model.specs.Words.{Frame, Policy, Topology, ifmp_of, Past, past_of, is_disowning}
use Rattle.world_model.specs.network_model.declared.event.Event.{Event}
use Rattle.law_frame_readings.specs.law_world_views.Between.{IsWorld}
use Rattle.law_frame_readings.specs.law_world_views.Kept.{Comes, Begins, behind}

-- *Nothing disowns* a label, of all that was made so far
abbrev pub DisownsNothing : Past → Type 0
DisownsNothing past = list_any (λ (frame : Frame). is_disowning (ifmp_of frame.payload)) past.now.notes.frames ≡ false

abbrev pub EventsDisownNothing : Type 0
EventsDisownNothing = (policy : Policy) (topology : Topology) (before : List Event) (event : Event) → Comes policy topology before event
    → IsWorld (past_of policy topology before) → DisownsNothing (past_of policy topology before) → DisownsNothing (behind policy topology before event)

abbrev pub OpeningsDisownNothing : Type 0
OpeningsDisownNothing = Begins DisownsNothing
