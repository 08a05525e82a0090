-- the law is proved over definitions alone

use Rattle.law_console.proofs.Handling.{switches_plain}
use Rattle.law_console.proofs.switches_are_plain.Goals as goal

pub returns : goal.returns
returns c = switches_plain
