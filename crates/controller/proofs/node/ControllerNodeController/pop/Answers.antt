use Rattle.controller.proofs.Rights.{right_popped}
use Rattle.controller.proofs.node.ControllerNodeController.pop.Goals as goal

pub invariant_of-self : goal.invariant_of-self
invariant_of-self g c =
    right_popped g.E.PortEngine.seen c.self.inside.router c.pop.new.self c.self.inside.failure c.pop.ensures.popped c.pop.ensures.joined c.self.invariant
