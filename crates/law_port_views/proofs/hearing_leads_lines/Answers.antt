use Rattle.law_port_views.proofs.Messages.{message_comes}
use Rattle.law_port_views.proofs.hearing_leads_lines.Goals as goal

pub returns : goal.returns
returns g c = λ role link queued setup desk w source message line live room in_range from mine h.
    message_comes link _ queued role setup desk w source message line live room in_range from mine h
