-- the laws are proved over definitions alone

use Rattle.law_live_touch.proofs.Resting.{agreed_ends_touch, at_rest_they_agree, touching_ends_rest}
use Rattle.law_live_touch.proofs.Steps.{hearing_keeps_touch, counting_keeps_touch, offers_keep_touch, starts_keep_touch, ticks_keep_touch, returns_keep_touch, frees_keep_touch, nudges_keep_touch, greetings_keep_touch}
use Rattle.law_live_touch.proofs.Unseen.{lending_keeps_touch, joins_keep_touch, windows_keep_touch, silence_keeps_touch}
use Rattle.law_live_touch.proofs.ends_stay_in_touch.Goals as goal

pub returns : goal.returns
returns c = record {
  agreed = agreed_ends_touch;
  rest = at_rest_they_agree;
  rests = touching_ends_rest;
  hearing = hearing_keeps_touch;
  counting = counting_keeps_touch;
  offers = offers_keep_touch;
  starts = starts_keep_touch;
  ticks = ticks_keep_touch;
  returns = returns_keep_touch;
  frees = frees_keep_touch;
  nudges = nudges_keep_touch;
  greets = greetings_keep_touch;
  lends = lending_keeps_touch;
  joins = joins_keep_touch;
  windows = windows_keep_touch;
  silence = silence_keeps_touch;
}
