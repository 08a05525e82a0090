-- the laws are proved over definitions alone

use Rattle.law_live_cut_through.proofs.UnderLabelled.{labelled_are_delivered, labelled_forward, labelled_go_under}
use Rattle.law_live_cut_through.proofs.labelled_packets_go_on.Goals as goal

pub returns : goal.returns
returns c = record { delivered = labelled_are_delivered; forward = labelled_forward; under = labelled_go_under }
