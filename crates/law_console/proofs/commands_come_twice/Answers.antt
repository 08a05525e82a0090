-- the law is proved over definitions alone

use Rattle.law_console.proofs.Again.{come_twice}
use Rattle.law_console.proofs.commands_come_twice.Goals as goal

pub returns : goal.returns
returns c = come_twice
