use Rattle.law_arrival_views.proofs.Others.{cell_net}
use Rattle.law_arrival_views.proofs.cells_lead_lines.Goals as goal

pub returns : goal.returns
returns g c = λ link role pieces a cell cells line proper front net can. cell_net link proper _ role pieces a cell cells line front net can
