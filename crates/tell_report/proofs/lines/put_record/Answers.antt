use Rattle.lab_io.proofs.Stops.{none_of, passes_on}
use Rattle.tell_report.proofs.lines.put_record.Goals as goal

pub returns-in_err-write_record-clause-put : goal.returns-in_err-write_record-clause-put
returns-in_err-write_record-clause-put g c =
    passes_on c.from_residual.result _ _ _ _ _ _ c.from_residual.ensures.1 (none_of _ _ _)
