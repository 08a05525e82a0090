use Rattle.world.proofs.world.World.act.Given as goal

abbrev pub ghost-carry : goal.ghost-carry
ghost-carry g a = g.topology
