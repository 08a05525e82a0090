-- the laws are proved over definitions alone

use Rattle.law_quiet_links.proofs.Laws.{carries_weigh_less, carries_find, rounds_make_lighter, rounds_empty_queues, packets_end}
use Rattle.law_quiet_links.proofs.carries_empty_queues.Goals as goal

pub returns : goal.returns
returns c = record { carries = carries_weigh_less; finds = carries_find; lighter = rounds_make_lighter; rounds = rounds_empty_queues; packets = packets_end }
