-- the laws are proved over definitions alone

use Rattle.law_live_labels.proofs.Agreed.{labels_are_offered, grants_are_made, grants_are_started, grants_are_refreshed}
use Rattle.law_live_labels.proofs.labels_are_agreed.Goals as goal

pub returns : goal.returns
returns c = record { offered = labels_are_offered; made = grants_are_made; started = grants_are_started; refreshed = grants_are_refreshed }
