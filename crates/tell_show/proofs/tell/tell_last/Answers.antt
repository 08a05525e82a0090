use Rattle.lab_io.proofs.Stops.{none_of, passes_on}
use Rattle.tell_show.proofs.tell.tell_last.Goals as goal

pub returns-in_err-write_last-clause-put : goal.returns-in_err-write_last-clause-put
returns-in_err-write_last-clause-put g c =
    passes_on c.from_residual.result _ _ _ _ _ _ c.from_residual.ensures.1 (none_of _ _ _)
