-- the laws are proved over definitions alone

use Rattle.law_live_others.proofs.Settling.{agreed_ends_are_settled}
use Rattle.law_live_others.proofs.Framing.{frames_for_others}
use Rattle.law_live_others.proofs.frames_for_others_are_unseen.Goals as goal

pub returns : goal.returns
returns c = record { settled = agreed_ends_are_settled; frames = frames_for_others }
