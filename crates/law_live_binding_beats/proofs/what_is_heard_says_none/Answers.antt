-- the laws are proved over definitions alone

use Rattle.law_live_binding_beats.proofs.Saying.{counted_are_unanswered, heard_are_unanswered}
use Rattle.law_live_binding_beats.proofs.what_is_heard_says_none.Goals as goal

pub returns : goal.returns
returns c = record { counted = counted_are_unanswered; heard = heard_are_unanswered }
