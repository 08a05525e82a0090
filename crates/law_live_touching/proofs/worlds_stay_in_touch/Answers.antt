-- the laws are proved over definitions alone

use Rattle.law_live_touching.proofs.Worlds.{touch_goes_both_ways, agreeing_worlds_touch, touching_worlds_agree, like_worlds_touch, carries_elsewhere_keep_touch, countings_keep_touch, hearings_keep_touch, offers_keep_worlds_touching, starts_keep_worlds_touching, frees_keep_worlds_touching}
use Rattle.law_live_touching.proofs.worlds_stay_in_touch.Goals as goal

pub returns : goal.returns
returns c = record {
  both = touch_goes_both_ways;
  agreed = agreeing_worlds_touch;
  rest = touching_worlds_agree;
  alike = like_worlds_touch;
  elsewhere = carries_elsewhere_keep_touch;
  countings = countings_keep_touch;
  hearings = hearings_keep_touch;
  offers = offers_keep_worlds_touching;
  starts = starts_keep_worlds_touching;
  frees = frees_keep_worlds_touching;
}
