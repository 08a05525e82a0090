-- as a run opens nothing is joined

use Rattle.law_frame_readings.specs.law_world_views.Between.{HasAllJoins, HasAllLedOnce}
use Rattle.law_frame_readings.specs.law_world_views.Kept.{Begins}
use Rattle.law_pairs.proofs.Opening.{none_joined}

pub joins_begin : Begins HasAllJoins
joins_begin policy topology is addresses node site found met input output above on pair = absurd (none_joined policy topology node input output pair)

pub once_begins : Begins HasAllLedOnce
once_begins policy topology is addresses node one other output above below on first second = absurd (none_joined policy topology node one output first)
