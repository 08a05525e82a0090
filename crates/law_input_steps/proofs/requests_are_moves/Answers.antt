use Rattle.law_input_steps.proofs.Acts.{asks_acted, withdraws_leads, at_port_leads}
use Rattle.law_input_steps.proofs.Again.{sends_again_leads}
use Rattle.law_input_steps.proofs.requests_are_moves.Goals as goal

pub returns : goal.returns
returns c = record {
  asks = asks_acted;
  withdraws = λ node input other switch a away. withdraws_leads node input switch a other away;
  again = sends_again_leads;
  port = at_port_leads;
}
