use Rattle.topology.proofs.Making.{made_topology}
use Rattle.topology.proofs.topology.Topology.nodes.Goals as goal

pub returns-clause-topology : goal.returns-clause-topology
returns-clause-topology c = made_topology c.args.self.now (rw (← c.self.view_is) c.self.invariant)
