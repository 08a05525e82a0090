use Rattle.law_label_events.proofs.Next.{loses}
use Rattle.law_label_events.proofs.losses_lead_lines.Goals as goal

pub returns : goal.returns
returns g c = λ topology link w line place proper low apart nine placed s. loses _ topology link w line proper apart s place low nine placed
