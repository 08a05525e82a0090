-- Control frames between a controller and its switch stay on GSMP's channel, or on channels of ports of links

use Rattle.std.specs.Prelude.{List}
use Rattle.world_model.specs.Words.{Policy, Topology, past_of}
use Rattle.world_model.specs.network_model.declared.event.Event.{Event}
use Rattle.law_frame_readings.specs.law_world_views.Between.{IsWorld}
use Rattle.law_frame_readings.specs.law_world_views.Kept.{Comes, Begins, behind}
use Rattle.law_ownership.specs.Places.{HasPlaces}

abbrev pub PlacesAreKept : Type 0
PlacesAreKept = (policy : Policy) (topology : Topology) (before : List Event) (event : Event) → Comes policy topology before event
    → IsWorld (past_of policy topology before) → HasPlaces (past_of policy topology before) → HasPlaces (behind policy topology before event)

abbrev pub PlacesBegin : Type 0
PlacesBegin = Begins HasPlaces
