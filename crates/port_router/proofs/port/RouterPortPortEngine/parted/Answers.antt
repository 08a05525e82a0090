use Rattle.std.proofs.Common.{sym, ◌∙◌}
use Rattle.port_router.proofs.Parted.{unjoined_stays}
use Rattle.port_router.proofs.port.RouterPortPortEngine.parted.Goals as goal

pub returns-else-is_joined-clause-port : goal.returns-else-is_joined-clause-port
returns-else-is_joined-clause-port g c = λ n. unjoined_stays c.args.self.now.link.port n c.args.label (sym c.is_joined.ensures ∙ c.if-is_joined.false)
