use Rattle.std.proofs.lemmas.Result.{on_ok_weaker}
use Rattle.port_router.proofs.Done.{done_is}
use Rattle.port_router.proofs.port.RouterPortPortEngine.on_packet.Goals as goal

pub returns-clause-work : goal.returns-clause-work
returns-clause-work g c = λ n. on_ok_weaker c.on_packet.result (done_is g.P.Policy.meaning c.args.self.now.link c.on_packet.new.self c.on_packet.new.out n _) (c.on_packet.ensures.work n)
