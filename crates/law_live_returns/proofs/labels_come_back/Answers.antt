-- the laws are proved over definitions alone

use Rattle.law_live_returns.proofs.Back.{ranges_are_told, labels_are_recalled, reclaims_are_acknowledged, acks_are_kept, labels_are_quit, labels_are_freed}
use Rattle.law_live_returns.proofs.labels_come_back.Goals as goal

pub returns : goal.returns
returns c = record {
  told = ranges_are_told;
  recalled = labels_are_recalled;
  acknowledged = reclaims_are_acknowledged;
  kept = acks_are_kept;
  quit = labels_are_quit;
  freed = labels_are_freed;
}
