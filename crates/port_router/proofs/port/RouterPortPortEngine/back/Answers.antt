use Rattle.std.proofs.lemmas.Result.{on_ok_weaker}
use Rattle.port_router.proofs.Done.{done_is}
use Rattle.port_router.proofs.port.RouterPortPortEngine.back.Goals as goal

pub returns-clause-work : goal.returns-clause-work
returns-clause-work g c = λ n grant granted. on_ok_weaker c.back.result (done_is g.P.Policy.meaning c.args.self.now.link c.back.new.self c.back.new.out n _) (c.back.ensures.work n grant granted)

pub back-requires : goal.back-requires
back-requires g c = (c.requires.grant, c.requires.granted, c.requires.released)
