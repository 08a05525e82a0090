use Rattle.law_port_views.proofs.Answering.{used_leads, joined_leads, parted_leads, done_leads, lent_leads}
use Rattle.law_port_views.proofs.answers_lead_lines.Goals as goal

pub returns : goal.returns
returns g c = record {
  done = λ role link queued setup w request room in_range. done_leads link _ queued role setup w request room in_range;
  used = λ role link queued w n. used_leads link _ queued role w n;
  joined = λ role link queued w n output. joined_leads link _ queued role w n output;
  parted = λ role link queued w n. parted_leads link _ queued role w n;
  lent = λ role link queued w grant input found by. lent_leads link _ queued role w grant input found by;
}
