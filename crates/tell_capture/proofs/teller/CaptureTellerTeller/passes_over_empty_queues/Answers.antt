use Rattle.std.proofs.Common.{◌+◌, ap}
use Rattle.network_run.proofs.Empty.{taken_none}
use Rattle.tell_capture.specs.Capture.{carried_told}
use Rattle.tell_capture.proofs.teller.CaptureTellerTeller.passes_over_empty_queues.Goals as goal

pub returns : goal.returns
returns g c = λ known t w line place e. ap (carried_told known (w.events + 1)) (taken_none w place e)
