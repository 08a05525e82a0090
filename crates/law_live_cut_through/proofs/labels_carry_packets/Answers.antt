-- the laws are proved over definitions alone

use Rattle.law_live_cut_through.proofs.UnderWrapping.{labelled_frames_carry, carries_go_on}
use Rattle.law_live_cut_through.proofs.labels_carry_packets.Goals as goal

pub returns : goal.returns
returns c = record { carry = labelled_frames_carry; go_on = carries_go_on }
