-- as a run opens nothing is joined

use Rattle.law_frame_readings.specs.law_world_views.Between.{HasAllHops}
use Rattle.law_frame_readings.specs.law_world_views.Kept.{Begins}
use Rattle.law_pairs.proofs.Opening.{none_joined}

pub hops_begin : Begins HasAllHops
hops_begin policy topology is addresses link of input above pair = absurd (none_joined policy topology _ input _ pair)
