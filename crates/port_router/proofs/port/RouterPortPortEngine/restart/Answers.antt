use Rattle.std.proofs.Common.{◌+◌}
use Rattle.std.proofs.lemmas.Result.{on_ok_weaker}
use Rattle.port_router.proofs.Done.{done_is}
use Rattle.port_router.proofs.port.RouterPortPortEngine.restart.Goals as goal

pub returns-clause-work : goal.returns-clause-work
returns-clause-work g c = λ n own. on_ok_weaker c.restart.result (done_is g.P.Policy.meaning c.args.self.now.link c.restart.new.self c.restart.new.out (n + 1) _) (c.restart.ensures.work n own)
