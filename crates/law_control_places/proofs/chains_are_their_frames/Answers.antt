-- the law is proved over definitions alone

use Rattle.law_control_places.proofs.Chains.{chains_are_their_frames}
use Rattle.law_control_places.proofs.chains_are_their_frames.Goals as goal

pub returns : goal.returns
returns c = record { events = chains_are_their_frames }
