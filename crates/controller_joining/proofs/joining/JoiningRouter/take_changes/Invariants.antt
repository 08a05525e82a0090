use Rattle.std.proofs.Common.{◌≡◌, length}
use Rattle.controller_joins.specs.world_model.Changes.{takes_changes}
use Rattle.controller_joining.specs.Conditions.{CanTakeChanges}
use Rattle.controller_joining.specs.Joining.{AreJoined, acted}
use Rattle.controller_joining.proofs.joining.JoiningRouter.take_changes.Given as goal

abbrev pub invariant-loop-self : goal.invariant-loop-self
invariant-loop-self g l = record {
  joined : AreJoined g.E.PortEngine.seen l.self;
  can : CanTakeChanges (acted g.E.PortEngine.seen l.self l.notes l.numbers);
  acted : takes_changes (acted g.E.PortEngine.seen l.self l.notes l.numbers) ≡ takes_changes (acted g.E.PortEngine.seen l.fn.self l.fn.notes l.fn.numbers);
}

abbrev pub decreases-loop-self : goal.decreases-loop-self
decreases-loop-self g l = length l.self.router.routes.waiting
