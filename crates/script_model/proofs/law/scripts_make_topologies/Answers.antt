use Rattle.script_model.proofs.Described.{script_makes, document_makes}
use Rattle.script_model.proofs.law.scripts_make_topologies.Goals as goal

pub returns : goal.returns
returns c = record { script = script_makes; document = document_makes }
