-- the law is proved over definitions alone

use Rattle.law_console.proofs.Runs.{every_run}
use Rattle.law_console.proofs.every_run_is_right.Goals as goal

pub returns : goal.returns
returns c = every_run
