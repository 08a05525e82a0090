use Rattle.law_port_views.proofs.Flows.{same_numbers}
use Rattle.law_port_views.proofs.flows_are_told.Goals as goal

pub returns : goal.returns
returns c = same_numbers
