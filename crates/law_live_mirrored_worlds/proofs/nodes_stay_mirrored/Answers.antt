-- the laws are proved over definitions alone

use Rattle.law_live_mirrored_worlds.proofs.Carries.{rests_mirror, mirrors_carry_out, carries_down_mirror}
use Rattle.law_live_mirrored_worlds.proofs.Events.{all_else_mirrors, steps_keep, controllers_mirror}
use Rattle.law_live_mirrored_worlds.proofs.Stretches.{stretches_carry_out}
use Rattle.law_live_mirrored_worlds.proofs.nodes_stay_mirrored.Goals as goal

pub returns : goal.returns
returns c = record {
  rests = rests_mirror;
  carried = mirrors_carry_out;
  down = carries_down_mirror;
  others = all_else_mirrors;
  steps = steps_keep;
  controllers = controllers_mirror;
  stretches = stretches_carry_out;
}
