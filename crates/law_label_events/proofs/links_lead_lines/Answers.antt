use Rattle.law_label_events.proofs.Next.{goes_over}
use Rattle.law_label_events.proofs.links_lead_lines.Goals as goal

pub returns : goal.returns
returns g c = λ topology link w line from proper low apart above across nine leads may s. goes_over _ topology link w line proper apart s from low above across nine leads may
