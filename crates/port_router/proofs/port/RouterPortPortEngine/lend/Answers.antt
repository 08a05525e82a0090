use Rattle.port_router.proofs.port.RouterPortPortEngine.lend.Goals as goal

pub lend-requires : goal.lend-requires
lend-requires g c = (c.requires.grant, c.requires.granted, c.requires.sent)
