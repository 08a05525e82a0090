-- the law that is called, put together

use Rattle.law_live_cut_through.proofs.Ticks.{ticks_keep_joined, ticks_keep_last, ticks_keep_lent, ticks_keep_first, ticks_serve_alone}
use Rattle.law_live_cut_through.proofs.ticks_keep_labels.Goals as goal

pub returns : goal.returns
returns c =
    let whole = c.runs_are_whole.ensures.whole in
    record {
      joined = ticks_keep_joined whole;
      last = ticks_keep_last whole;
      lent = ticks_keep_lent whole;
      first = ticks_keep_first whole;
      alone = ticks_serve_alone whole;
    }
