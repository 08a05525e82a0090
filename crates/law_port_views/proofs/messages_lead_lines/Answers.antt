use Rattle.law_port_views.proofs.Tells.{says_down, says_other, says_unheard}
use Rattle.law_port_views.proofs.messages_lead_lines.Goals as goal

pub returns : goal.returns
returns g c = record {
  numbered = λ link queued w s message said line live opened room e own h. says_down link _ queued w s message said line live opened room e own h;
  others = λ link queued w s message line live opened room e own h. says_other link _ queued w s message line live opened room e own h;
  unheard = λ link queued w message line e own h. says_unheard link _ queued w message line e own h;
}
