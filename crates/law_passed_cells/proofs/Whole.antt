-- so it is in every run before the first frame that was forged or passed by chance

use Rattle.law_running_worlds.proofs.law_run_facts.Nodes.{runs_have_nodes}
use Rattle.law_running_worlds.proofs.law_run_facts.Steps.{events_are_steps, runs_have_fronts}
use Rattle.law_running_worlds.proofs.Made.{up, down, frames_kept}
use Rattle.law_fed_worlds.specs.law_world_views.Between.{HasAllShapes}
use Rattle.law_fed_worlds.specs.law_world_views.Kept.{Keeps}
use Rattle.law_pairs.specs.Past.{RunsMakeNoPairs}
use Rattle.law_passed_cells.specs.Passed.{PassedIsKept}
use Rattle.law_passed_cells.proofs.Kept.{passed_kept}

pub cells_pass : Keeps HasAllShapes → RunsMakeNoPairs → PassedIsKept
cells_pass shapes pairs = passed_kept runs_have_nodes runs_have_fronts events_are_steps up down shapes frames_kept pairs
