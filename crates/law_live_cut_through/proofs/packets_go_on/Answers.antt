-- the laws are proved over definitions alone

use Rattle.law_live_cut_through.proofs.UnderEntering.{entries_go_on, entries_go_under}
use Rattle.law_live_cut_through.proofs.UnderBrought.{brought_go_on, brought_go_under}
use Rattle.law_live_cut_through.proofs.packets_go_on.Goals as goal

pub returns : goal.returns
returns c = record { entries = entries_go_on; entries_under = entries_go_under; brought = brought_go_on; brought_under = brought_go_under }
