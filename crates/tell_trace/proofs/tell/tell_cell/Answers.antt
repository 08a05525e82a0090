use Rattle.lab_io.proofs.Stops.{none_of, passes_on}
use Rattle.tell_trace.proofs.tell.tell_cell.Goals as goal

pub returns-in_err-write_cell-clause-put : goal.returns-in_err-write_cell-clause-put
returns-in_err-write_cell-clause-put g c =
    passes_on c.from_residual.result _ _ _ _ _ _ c.from_residual.ensures.1 (none_of _ _ _)
