-- Nothing that comes is refused, before the first frame that was forged or passed its test by chance

use Rattle.std.specs.Prelude.{◌≡◌, false, List}
use Rattle.std.specs.List.{list_any}
use Rattle.world_model.specs.Words.{Policy, Topology, past_of, is_bad}
use Rattle.world_model.specs.network_model.declared.event.Event.{Event}
use Rattle.law_frame_readings.specs.law_world_views.Between.{IsWorld}
use Rattle.law_frame_readings.specs.law_world_views.Kept.{Comes, behind}
use Rattle.law_ownership.specs.Places.{HasPlaces}

-- the records of the event that comes have no `Bad`
abbrev pub NothingIsRefused : Type 0
NothingIsRefused = (policy : Policy) (topology : Topology) (before : List Event) (event : Event) → Comes policy topology before event
    → IsWorld (past_of policy topology before) → HasPlaces (past_of policy topology before)
    → list_any is_bad (behind policy topology before event).now.notes.records ≡ false
