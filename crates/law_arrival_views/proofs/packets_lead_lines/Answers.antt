use Rattle.law_arrival_views.proofs.Routes.{routes_lead}
use Rattle.law_arrival_views.proofs.packets_lead_lines.Goals as goal

pub returns : goal.returns
returns g c = λ link role a came packet proper free numbered plain. routes_lead link proper _ role a came packet free numbered plain
