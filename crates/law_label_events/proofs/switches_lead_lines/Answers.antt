use Rattle.law_label_events.proofs.Next.{goes_down, ticks_switch, restarts_switch}
use Rattle.law_label_events.proofs.switches_lead_lines.Goals as goal

pub returns : goal.returns
returns g c = record {
  cells = λ topology link w line node proper low apart nine leads s. goes_down _ topology link w line proper apart s node low nine leads;
  ticks = λ topology link w line node proper apart nine s. ticks_switch _ topology link w line proper apart s node nine;
  restarts = λ topology link w line node proper apart nine s. restarts_switch _ topology link w line proper apart s node nine;
}
