use Rattle.topology.proofs.Making.{made_after}
use Rattle.topology.proofs.topology.Topology.line.Goals as goal

pub invariant_of-self : goal.invariant_of-self
invariant_of-self c = made_after c.self.inside.plan c.line.new.self c.args.line.now c.line.result c.self.invariant c.requires c.line.ensures
