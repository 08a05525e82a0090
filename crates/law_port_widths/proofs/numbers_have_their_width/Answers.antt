use Rattle.law_port_widths.proofs.Keeping.{closes_fit}
use Rattle.law_port_widths.proofs.Rules.{hears_fit, counts_fit, used_fit, done_fit, ticks_fit, joined_fit, parted_fit, lent_fit, given_back_fit, resets_fit, restarts_fit, cleared_fit}
use Rattle.law_port_widths.proofs.numbers_have_their_width.Goals as goal

pub returns : goal.returns
returns c = record {
  hearing = λ setup desk w source message fixed small fits h. hears_fit setup desk fixed w source message small fits h;
  counting = λ setup desk w packet fixed fits h. counts_fit setup desk fixed w packet fits h;
  in_use = λ w number h. used_fit w number h;
  answers = λ setup w request fixed h. done_fit setup fixed w request h;
  tick = λ setup desk w fixed h. ticks_fit setup desk fixed w h;
  joining = λ w number output h. joined_fit w number output h;
  parting = λ w number h. parted_fit w number h;
  lending = λ w grant input fits h. lent_fit w grant input fits h;
  giving = λ w grant fits h. given_back_fit w grant fits h;
  closing = λ w h. closes_fit w h;
  reset = λ setup w fixed small h. resets_fit setup w fixed small h;
  restart = λ setup w fixed small h. restarts_fit setup w fixed small h;
  clearing = λ port h. cleared_fit port h;
}
