-- the laws are proved over definitions alone

use Rattle.law_branch_shapes.proofs.law_causes.Runs.{breaks_have_causes}
use Rattle.law_fed_worlds.proofs.Asked.{asked_are_joined}
use Rattle.law_fed_worlds.proofs.Led.{joins_lead_once}
use Rattle.law_fed_worlds.proofs.Laws.{fed_in_runs, causes_in_runs}
use Rattle.law_fed_worlds.proofs.worlds_are_fed.Goals as goal

pub returns : goal.returns
returns c = record {
  fed = fed_in_runs;
  causes = causes_in_runs (λ policy topology events is tame fed. breaks_have_causes policy topology events is fed tame);
  joins = joins_lead_once;
  asked = asked_are_joined;
}
