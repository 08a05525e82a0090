use Rattle.law_arrival_views.proofs.law_controller_facts.Laws.{has_ports}
use Rattle.law_controller_lifts.proofs.Ticking.{ticks_lead, ticks_grow, ticks_node}
use Rattle.law_controller_lifts.proofs.ticks_lead_lines.Goals as goal

pub returns : goal.returns
returns g c = record {
  at_ends = λ setups link role a proper fit ready f. ticks_lead setups link proper fit _ role a ready f;
  elsewhere = λ setups a sound. ticks_grow setups a (has_ports setups a sound);
  node = λ setups a sound. ticks_node setups a (has_ports setups a sound);
}
