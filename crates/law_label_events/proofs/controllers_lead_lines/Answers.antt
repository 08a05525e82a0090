use Rattle.law_label_events.proofs.Next.{comes_up, packet_enters, restarts, controller_ticks, route_comes}
use Rattle.law_label_events.proofs.controllers_lead_lines.Goals as goal

pub returns : goal.returns
returns g c = record {
  cells = λ topology link w line node proper apart nine arrives s. comes_up _ topology link w line proper apart s node nine arrives;
  packets = λ topology link w line node octets proper apart free grants s. packet_enters _ topology link w line proper apart s node octets free grants;
  restarts = λ topology link w line node proper apart s. restarts _ topology link w line proper apart s node;
  ticks = λ topology link w line node proper fit apart can s. controller_ticks _ topology link w line proper apart s node fit can;
  routes = λ topology link w line node change proper apart s. route_comes _ topology link w line proper apart s node change;
}
