-- the laws, put together

use Rattle.law_link_numbers.proofs.Ticking.{ticks_keep_parties}
use Rattle.law_link_numbers.proofs.Holding.{frames_keep_parties, entries_keep_parties}
use Rattle.law_link_numbers.proofs.numbers_keep_parties.Goals as goal

pub returns : goal.returns
returns c = record { ticks = ticks_keep_parties; frames = frames_keep_parties; entries = entries_keep_parties }
