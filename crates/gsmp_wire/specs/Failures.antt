-- The Code of a failure answer (RFC 1987)

use Rattle.std.specs.Prelude.{ℕ}
use Rattle.gsmp_wire.specs.declared.failure.Failure.{Failure}
use Rattle.gsmp_wire.specs.declared.failure.Failure.TheVariants.{NoPort, BadSession, PortDown, OutOfRange, Busy, NoConnection, SessionsSpent}

abbrev pub failure_code : Failure → ℕ
failure_code NoPort = 1
failure_code BadSession = 2
failure_code PortDown = 3
failure_code OutOfRange = 4
failure_code Busy = 5
failure_code NoConnection = 6
failure_code SessionsSpent = 7
