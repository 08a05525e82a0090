use Rattle.law_port_views.proofs.Refreshing.{room_ticks}
use Rattle.law_label_steps.proofs.Unspent.{hears_unspent, used_unspent, done_unspent, resets_unspent, restarts_unspent}
use Rattle.law_label_steps.proofs.numbers_stay_unspent.Goals as goal

pub returns : goal.returns
returns c = record {
  hearing = λ setup desk w source message n. hears_unspent setup desk w source message n;
  in_use = λ w number n. used_unspent w number n;
  answers = λ setup w request n. done_unspent setup w request n;
  tick = λ setup desk w n. room_ticks setup desk w n;
  reset = resets_unspent;
  restart = restarts_unspent;
}
