use Rattle.std.proofs.Common.{ap}
use Rattle.std.specs.FinMap.{get-empty}
use Rattle.crossbar_model.specs.Channels.{end_cmp}
use Rattle.crossbar_model.specs.Crossbar.{Crossbar}
use Rattle.switch_tests.proofs.fabric_tests.a_queue_grows_to_the_region.Goals as goal

pub connect-requires-clause-absent : goal.connect-requires-clause-absent
connect-requires-clause-absent g c = rw (ap (λ (x : Crossbar). x.branches) c.in_ok-fabric.ensures.empty) (get-empty end_cmp _)
