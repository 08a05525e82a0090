-- the laws are proved over definitions alone

use Rattle.law_live_bindings.proofs.Resting.{agreed_ends_bind, bindings_are_agreed}
use Rattle.law_live_bindings.proofs.Alike.{like_ports_bind}
use Rattle.law_live_bindings.proofs.Counting.{counting_keeps_binding}
use Rattle.law_live_bindings.proofs.Offering.{offers_keep_binding}
use Rattle.law_live_bindings.proofs.Hearing.{hearing_keeps_binding}
use Rattle.law_live_bindings.proofs.Flows.{flows_are_bound}
use Rattle.law_live_bindings.proofs.bindings_are_agreed.Goals as goal

pub returns : goal.returns
returns c = record {
  agreed = agreed_ends_bind;
  rest = bindings_are_agreed;
  alike = like_ports_bind;
  counting = counting_keeps_binding;
  offers = offers_keep_binding;
  hearing = hearing_keeps_binding;
  flows = flows_are_bound;
}
