use Rattle.std.proofs.Common.{◌≡◌, ◌∙◌, ap, refl, Result, Ok, Err, is_none}
use Rattle.std.specs.Result.{is_ok, result_err}
use Rattle.trace_audit.proofs.auditor.fits.Goals as goal

no_fault : {A E : Type 0} (answer : Result A E) → is_ok answer ≡ is_none (result_err answer)
no_fault (Ok value) = refl
no_fault (Err fault) = refl

pub returns : goal.returns
returns c = c.is_ok.ensures.value ∙ no_fault c.unwrap_flow.result ∙ ap is_none c.unwrap_flow.ensures.fault
