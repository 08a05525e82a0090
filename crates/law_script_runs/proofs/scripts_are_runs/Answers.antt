use Rattle.law_script_runs.proofs.Scripts.{scripts, documents, drills}
use Rattle.law_script_runs.proofs.scripts_are_runs.Goals as goal

pub returns : goal.returns
returns c = record { scripts = scripts; documents = documents; drills = drills }
