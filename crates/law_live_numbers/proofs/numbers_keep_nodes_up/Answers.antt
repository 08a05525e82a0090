-- the laws are proved over definitions alone

use Rattle.law_live_numbers.proofs.Standing.{nodes_stay_up, packets_take_one}
use Rattle.law_live_numbers.proofs.numbers_keep_nodes_up.Goals as goal

pub returns : goal.returns
returns c = record { up = nodes_stay_up; packets = packets_take_one }
