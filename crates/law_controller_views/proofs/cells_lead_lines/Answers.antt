use Rattle.law_controller_views.proofs.Carried.{carried_net, crossed_net, lost_net}
use Rattle.law_controller_views.proofs.cells_lead_lines.Goals as goal

pub returns : goal.returns
returns g c = record {
  from_controller = λ link role pieces line cell cs os front n outcome. carried_net link _ role pieces line cell cs os front n outcome;
  over_the_link = λ link role pieces line cell os ws front n passage. crossed_net link _ role pieces line cell os ws front n passage;
  lost = λ link role pieces line cell ws front n. lost_net link _ role pieces line cell ws front n;
}
