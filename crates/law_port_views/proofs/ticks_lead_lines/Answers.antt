use Rattle.law_port_views.proofs.Refreshing.{ticks_lead}
use Rattle.law_port_views.proofs.ticks_lead_lines.Goals as goal

pub returns : goal.returns
returns g c = λ role link queued setup desk w room in_range. ticks_lead link _ queued role setup desk w room in_range
