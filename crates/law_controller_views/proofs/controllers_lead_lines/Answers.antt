use Rattle.law_controller_views.proofs.Parts.{net_goes, quiet_leads}
use Rattle.law_controller_views.proofs.Works.{asks_leads, resets_port_leads, node_resets_leads}
use Rattle.law_controller_views.proofs.AtPort.{at_port_leads}
use Rattle.law_controller_views.proofs.Growing.{at_port_grow}
use Rattle.law_controller_views.proofs.controllers_lead_lines.Goals as goal

pub returns : goal.returns
returns g c = record {
  rules = λ link role a port rule proper lifted. at_port_leads link proper _ role a port rule lifted;
  requests = λ link role a request out proper. asks_leads link proper _ role a request out;
  port_resets = λ link role a port out proper. resets_port_leads link proper _ role a port out;
  node_resets = λ link role a out proper. node_resets_leads link proper _ role a out;
  quiet = λ link role a b out q. quiet_leads link _ role a b out q;
  links = λ link role pieces a b before after line leads n. net_goes link _ role pieces a b before after line leads n;
  elsewhere = λ a port rule drawn. at_port_grow a port rule drawn;
}
