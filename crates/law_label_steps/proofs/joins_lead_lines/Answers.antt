use Rattle.law_label_steps.proofs.Follow.{unspent_closes}
use Rattle.law_label_steps.proofs.Joins.{lent_more, given_back_leads, closes_lead, joined_unspent, parted_unspent, lent_unspent}
use Rattle.law_label_steps.proofs.joins_lead_lines.Goals as goal

pub returns : goal.returns
returns g c = record {
  lent_on = λ link queued w grant input line live found is same h. lent_more link _ queued _ w grant input live found is same line h;
  giving = λ role link queued w grant proper found unlike. given_back_leads link _ queued proper role w grant found unlike;
  closing = λ role link queued w. (unspent_closes w, closes_lead link _ queued role w);
  unspent = λ w number output grant input n. (joined_unspent w number output n, parted_unspent w number n, lent_unspent w grant input n);
}
