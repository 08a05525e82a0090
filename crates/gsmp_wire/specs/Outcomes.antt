-- The Result and the Code of a request and of its answers (RFC 1987, Message Format)

use Rattle.std.specs.Prelude.{ℕ}
use Rattle.gsmp_wire.specs.Failures.{failure_code}
use Rattle.gsmp_wire.specs.declared.outcome.Outcome.{Outcome}
use Rattle.gsmp_wire.specs.declared.outcome.Outcome.TheVariants.{Request, Success, Failure}

abbrev pub result_in : Outcome → ℕ
result_in Request = 2
result_in Success = 3
result_in (Failure failure) = 4

abbrev pub code_in : Outcome → ℕ
code_in Request = 0
code_in Success = 0
code_in (Failure failure) = failure_code failure
