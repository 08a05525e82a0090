use Rattle.std.proofs.lemmas.Result.{on_ok_weaker}
use Rattle.port_router.proofs.Done.{done_is}
use Rattle.port_router.proofs.port.RouterPortPortEngine.on_done.Goals as goal

pub returns-clause-work : goal.returns-clause-work
returns-clause-work g c = λ n. on_ok_weaker c.on_done.result (done_is g.P.Policy.meaning c.args.self.now.link c.on_done.new.self c.on_done.new.out n _) (c.on_done.ensures.work n)
