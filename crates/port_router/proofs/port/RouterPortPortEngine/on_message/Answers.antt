use Rattle.std.proofs.lemmas.Result.{on_ok_weaker}
use Rattle.port_router.proofs.Done.{done_is}
use Rattle.port_router.proofs.port.RouterPortPortEngine.on_message.Goals as goal

pub returns-clause-work : goal.returns-clause-work
returns-clause-work g c = λ n. on_ok_weaker c.on_message.result (done_is g.P.Policy.meaning c.args.self.now.link c.on_message.new.self c.on_message.new.out n _) (c.on_message.ensures.work n)
