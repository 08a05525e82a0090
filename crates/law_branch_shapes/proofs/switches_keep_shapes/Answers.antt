-- the laws are proved over definitions alone

use Rattle.law_branch_shapes.proofs.Kept.{cells_keep, ticks_keep, restarts_keep}
use Rattle.law_branch_shapes.proofs.Sites.{events_keep}
use Rattle.law_branch_shapes.proofs.Runs.{runs_keep}
use Rattle.law_branch_shapes.proofs.switches_keep_shapes.Goals as goal

pub returns : goal.returns
returns c = record { cells = cells_keep; ticks = ticks_keep; restarts = restarts_keep; events = events_keep; runs = runs_keep }
