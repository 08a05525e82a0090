use Rattle.port_router.proofs.port.RouterPortPortEngine.joined.Goals as goal

pub joined-requires : goal.joined-requires
joined-requires g c = (c.requires.label, c.requires.held, c.requires.offered, c.requires.unjoined)
