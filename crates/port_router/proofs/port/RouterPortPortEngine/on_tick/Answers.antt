use Rattle.std.proofs.lemmas.Result.{on_ok_weaker}
use Rattle.port_router.proofs.Done.{done_is}
use Rattle.port_router.proofs.port.RouterPortPortEngine.on_tick.Goals as goal

pub returns-clause-work : goal.returns-clause-work
returns-clause-work g c = λ n. on_ok_weaker c.on_tick.result (done_is g.P.Policy.meaning c.args.self.now.link c.on_tick.new.self c.on_tick.new.out n _) (c.on_tick.ensures.work n)
