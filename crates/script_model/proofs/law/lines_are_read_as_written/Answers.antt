use Rattle.script_model.proofs.ReadLines.{text_is}
use Rattle.script_model.proofs.Spelled.{read_back}
use Rattle.script_model.proofs.law.lines_are_read_as_written.Goals as goal

pub returns : goal.returns
returns c = record { written = read_back; read = text_is }
