use Rattle.console_run.specs.Session.{session_of}
use Rattle.console_run.proofs.Told.{session_told}
use Rattle.console_run.proofs.law.answers_are_told.Goals as goal

pub returns : goal.returns
returns c = λ input ports is none. session_told (session_of input) ports is none
