-- the law is proved over definitions alone

use Rattle.law_live_calm_nodes.proofs.Ports.{agreed_ports_are_up, ticks_keep_up, up_nodes_stand_none}
use Rattle.law_live_calm_nodes.proofs.ports_stay_up.Goals as goal

pub returns : goal.returns
returns c = record { agreed = agreed_ports_are_up; ticks = ticks_keep_up; desks = up_nodes_stand_none }
