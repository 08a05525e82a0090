use Rattle.law_port_views.proofs.Resets.{resets_reach, restarts_reach, clears_reach}
use Rattle.law_port_views.proofs.resets_lead_lines.Goals as goal

pub returns : goal.returns
returns g c = record {
  reset = λ role link queued setup w line address h. resets_reach link _ queued role setup w line address h;
  restart = λ role link queued setup w line address h. restarts_reach link _ queued role setup w line address h;
  clearing = λ role link queued w line unlike none clearing h. clears_reach link _ queued role w line unlike none clearing h;
}
