-- the laws are proved over definitions alone

use Rattle.law_live_recalls.proofs.Steps.{unused_are_recalled, recalled_are_answered, recalled_are_owed, owed_are_answered, owed_are_told_again, leaving_stay_owed, owed_are_greeted, answered_are_kept, answered_are_quit, acknowledged_are_nudged, nudged_are_acknowledged, acknowledged_are_quit, quit_are_freed}
use Rattle.law_live_recalls.proofs.Whole.{labels_return}
use Rattle.law_live_recalls.proofs.labels_return.Goals as goal

pub returns : goal.returns
returns c = record {
  recalled = unused_are_recalled;
  answered = recalled_are_answered;
  owed = recalled_are_owed;
  released = owed_are_answered;
  again = owed_are_told_again;
  leaving = leaving_stay_owed;
  greeted = owed_are_greeted;
  kept = answered_are_kept;
  passed = answered_are_quit;
  nudged = acknowledged_are_nudged;
  ranged = nudged_are_acknowledged;
  quit = acknowledged_are_quit;
  freed = quit_are_freed;
  returned = labels_return;
}
