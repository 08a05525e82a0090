-- the laws are proved over definitions alone

use Rattle.law_controller_conditions.proofs.Opening.{opens_kept}
use Rattle.law_controller_conditions.proofs.Kept.{inputs_keep, kept_held, inputs_draw, numbers_suffice}
use Rattle.law_controller_conditions.proofs.Calls.{can_be_asked, can_be_reset, ports_can_work, switch_can_be_met}
use Rattle.law_controller_conditions.proofs.Cells.{cells_can_come}
use Rattle.law_controller_conditions.proofs.Leading.{routes_lead_to_links}
use Rattle.law_controller_conditions.proofs.calls_can_be_made.Goals as goal

pub returns : goal.returns
returns c = record {
  opens = opens_kept;
  keeps = inputs_keep;
  held = kept_held;
  draws = inputs_draw;
  suffices = numbers_suffice;
  asks = can_be_asked;
  resets = can_be_reset;
  ports = ports_can_work;
  meets = switch_can_be_met;
  cells = cells_can_come;
  routes = routes_lead_to_links;
}
