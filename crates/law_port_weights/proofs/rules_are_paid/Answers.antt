-- the laws are proved over definitions alone

use Rattle.law_port_weights.proofs.Paid.{hearing_is_paid, counting_is_paid, use_is_free, answers_are_free, parting_is_free, giving_back_is_free}
use Rattle.law_port_weights.proofs.rules_are_paid.Goals as goal

pub returns : goal.returns
returns c = record {
  hears = hearing_is_paid;
  counts = counting_is_paid;
  used = use_is_free;
  done = answers_are_free;
  parted = parting_is_free;
  given_back = giving_back_is_free;
}
