use Rattle.std.proofs.Common.{arith}
use Rattle.world.proofs.Opens.{at_end, at_next, at_start, runs_at_end}
use Rattle.world.proofs.world.World.open_nodes.Goals as goal

pub loop-place-init : goal.loop-place-init
loop-place-init g c = record {
  at = at_start g.C.NodeController.seen (g.C.NodeController.meaning c.args.policy) c.args.topology.now c.args.self.now c.nodes-nodes.ensures.topology c.requires;
  nodes = c.nodes-nodes.ensures.len;
}

pub loop-place-preserved : goal.loop-place-preserved
loop-place-preserved g c = record {
  at = at_next g.C.NodeController.seen (g.C.NodeController.meaning c.args.policy) c.args.topology.now c.loop-place._place c.loop-place.self c.open_node.new.self c.loop-place.invariant.at c.in_ok-open_node.ensures;
  nodes = c.loop-place.invariant.nodes;
}

pub returns-clause-world : goal.returns-clause-world
returns-clause-world g c = at_end g.C.NodeController.seen (g.C.NodeController.meaning c.args.policy) c.args.topology.now c.loop-place._place c.loop-place.self
    (omega (arith, c.loop-place-test.false, c.loop-place.auto._place-end, c.loop-place.invariant.nodes)) c.loop-place.invariant.at

pub returns-clause-runs : goal.returns-clause-runs
returns-clause-runs g c = runs_at_end g.C.NodeController.seen (g.C.NodeController.meaning c.args.policy) c.args.topology.now c.loop-place._place c.loop-place.self
    (omega (arith, c.loop-place-test.false, c.loop-place.auto._place-end, c.loop-place.invariant.nodes)) c.loop-place.invariant.at
