-- the laws are proved over definitions alone

use Rattle.law_causes.proofs.Gathered.{gathers_in_runs}
use Rattle.law_causes.proofs.Runs as runs
use Rattle.law_causes.proofs.breaks_have_causes.Goals as goal

pub returns : goal.returns
returns c = record {
  gathered = gathers_in_runs;
  causes = λ policy topology events is tame fed. runs.breaks_have_causes policy topology events is fed tame;
}
