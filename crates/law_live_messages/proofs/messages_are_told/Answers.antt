-- the laws are proved over definitions alone

use Rattle.law_live_messages.proofs.Told.{ports_hear, controllers_are_told, switches_are_told}
use Rattle.law_live_messages.proofs.messages_are_told.Goals as goal

pub returns : goal.returns
returns c = record { ports = ports_hear; controllers = controllers_are_told; switches = switches_are_told }
