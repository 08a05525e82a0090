-- the law, as it is

use Rattle.law_live_begun.proofs.Awaited.{nothing_is_awaited}
use Rattle.law_live_begun.proofs.nothing_is_awaited.Goals as goal

pub returns : goal.returns
returns c = record { awaited = nothing_is_awaited }
