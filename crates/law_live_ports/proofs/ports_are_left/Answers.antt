-- the laws are proved over definitions alone

use Rattle.law_live_ports.proofs.Ticking.{ports_left, addresses_stay}
use Rattle.law_live_ports.proofs.ports_are_left.Goals as goal

pub returns : goal.returns
returns c = record { left = ports_left; addresses = addresses_stay }
