use Rattle.world.proofs.world.World.step.Given as goal

abbrev pub ghost-act : goal.ghost-act
ghost-act g a = g.topology
