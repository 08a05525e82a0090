use Rattle.tell_passing.proofs.Coming.{carried_queue, lost_queue}
use Rattle.tell_passing.proofs.reach.taken.Goals as goal

pub first-requires : goal.first-requires
first-requires g c = record { queue = carried_queue g.C.NodeController.seen c.args.world.now c.args.event.now c.in-Carry.place c.in-Carry.is c.requires.coming }

pub first-requires-in-Lose : goal.first-requires-in-Lose
first-requires-in-Lose g c = record { queue = lost_queue g.C.NodeController.seen c.args.world.now c.args.event.now c.in-Lose.place c.in-Lose.is c.requires.coming }
