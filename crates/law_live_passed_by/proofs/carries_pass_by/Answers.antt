-- the laws are proved over definitions alone

use Rattle.law_live_passed_by.proofs.Carries.{carries_pass_by, carries_for_others_are_unseen}
use Rattle.law_live_passed_by.proofs.carries_pass_by.Goals as goal

pub returns : goal.returns
returns c = record { one = carries_pass_by; both = carries_for_others_are_unseen }
