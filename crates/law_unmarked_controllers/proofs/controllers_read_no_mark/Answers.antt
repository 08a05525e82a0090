-- the law is proved over definitions alone

use Rattle.world_model.specs.Words.{change_comes, node_restarts}
use Rattle.world_model.specs.Ticks.{ticks}
use Rattle.law_unmarked_controllers.proofs.Controllers.{sends_same}
use Rattle.law_unmarked_controllers.proofs.Rules.{behind, node_restarts_blind}
use Rattle.law_unmarked_controllers.proofs.Meeting.{ticks_blind, change_comes_blind}
use Rattle.law_unmarked_controllers.proofs.Frames.{cell_same, injected_same}
use Rattle.law_unmarked_controllers.proofs.controllers_read_no_mark.Goals as goal

pub returns : goal.returns
returns c = record {
  cells = cell_same;
  packets = injected_same;
  frames = sends_same;
  ticks = behind ticks ticks_blind;
  restarts = behind node_restarts node_restarts_blind;
  changes = λ a b e change. behind (λ c. change_comes c change) (change_comes_blind change) a b e;
}
