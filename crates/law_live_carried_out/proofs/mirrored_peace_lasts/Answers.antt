-- the laws that are called, put together

use Rattle.law_live_carried_out.proofs.Going.{ticks_go_on}
use Rattle.law_live_carried_out.proofs.Beats.{beats_carry_out}
use Rattle.law_live_carried_out.proofs.Lasts as lasts
use Rattle.law_live_carried_out.proofs.mirrored_peace_lasts.Goals as goal

pub returns : goal.returns
returns c = (let whole = c.runs_are_whole.ensures.whole in record {
  ticks = ticks_go_on whole;
  carried_out = beats_carry_out whole;
  beats = lasts.mirrored_beats_are_lasting whole;
  lasts = lasts.mirrored_peace_lasts whole;
})
