use Rattle.law_controller_lifts.proofs.Lifts.{can_hear, ticks_lifted, counts_lifted, used_lifted, done_lifted, parted_lifted, given_back_lifted}
use Rattle.law_controller_lifts.proofs.rules_lead_lines.Goals as goal

pub returns : goal.returns
returns g c = record {
  hearing = λ setups a link role port linked source message ready proper fit found small range fits. can_hear setups a ready link proper fit (Unit {0}) role port linked source message found small range fits;
  tick = λ setups a link role port ready proper fit. ticks_lifted setups a ready link proper fit _ role port;
  counting = λ setups a link role port packet ready proper fit fits. counts_lifted setups a ready link proper fit _ role port packet fits;
  in_use = λ setups a link role port number ready proper fit. used_lifted setups a ready link proper fit _ role port number;
  answers = λ setups a link role port request ready proper fit. done_lifted setups a ready link proper fit _ role port request;
  parting = λ setups a link role port number ready proper fit. parted_lifted setups a ready link proper fit _ role port number;
  giving = λ setups a link role port grant ready proper fit granted unlike. given_back_lifted setups a ready link proper fit _ role port grant granted unlike;
}
