use Rattle.tell_passing.proofs.Coming.{queue_node, queue_within}
use Rattle.tell_passing.proofs.reach.first.Goals as goal

pub cell-requires-clause-node : goal.cell-requires-clause-node
cell-requires-clause-node g c = queue_node g.C.NodeController.seen c.args.world.now c.args.place c.requires.queue

pub cell-requires-clause-port : goal.cell-requires-clause-port
cell-requires-clause-port g c = queue_within g.C.NodeController.seen c.args.world.now c.args.place c.requires.queue

pub queued-requires-clause-node : goal.queued-requires-clause-node
queued-requires-clause-node g c = queue_node g.C.NodeController.seen c.args.world.now c.args.place c.requires.queue

pub queued-requires-clause-port : goal.queued-requires-clause-port
queued-requires-clause-port g c = queue_within g.C.NodeController.seen c.args.world.now c.args.place c.requires.queue
