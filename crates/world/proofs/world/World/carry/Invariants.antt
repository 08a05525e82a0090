use Rattle.world.proofs.world.World.carry.Given as goal

abbrev pub ghost-arrive : goal.ghost-arrive
ghost-arrive g a = g.topology
