-- the law is proved over definitions alone

use Rattle.law_live_brought.proofs.Successes.{successes_are_for_others}
use Rattle.law_live_brought.proofs.Telling.{calm_messages_are_told}
use Rattle.law_live_brought.proofs.Offers.{offers_are_said}
use Rattle.law_live_brought.proofs.successes_are_told.Goals as goal

pub returns : goal.returns
returns c = record { others = successes_are_for_others; calm = calm_messages_are_told; offers = offers_are_said }
