use Rattle.std.proofs.Common.{◌≡◌, List, ◌∷◌, sym, subst}
use Rattle.law_input_views.specs.world_model.Words.{Cell}
use Rattle.law_input_views.proofs.ordered_lists.Parts.{IsPart, left, part_whole}
use Rattle.law_input_steps.proofs.Queues.{queue_loses, back_loses}
use Rattle.law_input_steps.proofs.SwitchCells.{gsmp_cell_comes}
use Rattle.law_input_steps.proofs.ControllerCells.{cell_comes_back}
use Rattle.law_input_steps.proofs.Switched.{switched_leads}
use Rattle.law_input_steps.proofs.cells_are_moves.Goals as goal

behind : (cell : Cell) (cells all : List Cell) → all ≡ cell ∷ cells → IsPart cells all
behind cell cells all is = subst (IsPart cells) (sym is) (left (part_whole cells))

pub returns : goal.returns
returns c = record {
  lost_to_switch = λ node input p cell cells is. queue_loses node input p cells (behind cell cells p.queue is);
  lost_to_controller = λ node input p cell cells is. back_loses node input p cells (behind cell cells p.back is);
  comes_to_switch = gsmp_cell_comes;
  goes_out = switched_leads;
  comes_to_controller = cell_comes_back;
}
