-- the laws that are called, put together

use Rattle.law_live_peace.proofs.Beats.{beats_are_calm, peace_is_kept}
use Rattle.law_live_peace.proofs.peace_is_kept.Goals as goal

pub returns : goal.returns
returns c = (let whole = c.runs_are_whole.ensures.whole in record { calm = beats_are_calm whole; kept = peace_is_kept whole })
