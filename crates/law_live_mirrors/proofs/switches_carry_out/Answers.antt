-- the laws are proved over definitions alone

use Rattle.law_live_mirrors.proofs.Fitting.{requests_are_fit}
use Rattle.law_live_mirrors.proofs.Switches.{switches_carry_out, switches_lead_same}
use Rattle.law_live_mirrors.proofs.switches_carry_out.Goals as goal

pub returns : goal.returns
returns c = record { fit = requests_are_fit; carried = switches_carry_out; same = switches_lead_same }
