-- the laws are proved over definitions alone

use Rattle.law_live_greetings.proofs.Heard.{neighbours_are_heard, switches_are_heard, ports_hear_acks}
use Rattle.law_live_greetings.proofs.greetings_are_heard.Goals as goal

pub returns : goal.returns
returns c = record { neighbours = neighbours_are_heard; switches = switches_are_heard; ports = ports_hear_acks }
