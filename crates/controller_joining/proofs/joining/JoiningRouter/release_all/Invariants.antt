use Rattle.std.proofs.Common.{◌≡◌, fold, length}
use Rattle.controller_joins.specs.world_model.Joins.{released_inputs, releases_input}
use Rattle.controller_joining.specs.Conditions.{EachCanBeReleased}
use Rattle.controller_joining.specs.Joining.{AreJoined, acted, controller_of}
use Rattle.controller_joining.proofs.joining.JoiningRouter.release_all.Given as goal

abbrev pub invariant-loop-joined : goal.invariant-loop-joined
invariant-loop-joined g l = record {
  joined : AreJoined g.E.PortEngine.seen l.self;
  can : EachCanBeReleased (acted g.E.PortEngine.seen l.self l.notes l.numbers) (released_inputs (controller_of g.E.PortEngine.seen l.self) l.done.request);
  acted : fold releases_input (acted g.E.PortEngine.seen l.self l.notes l.numbers) (released_inputs (controller_of g.E.PortEngine.seen l.self) l.done.request) ≡ fold releases_input (acted g.E.PortEngine.seen l.fn.self l.fn.notes l.fn.numbers) (released_inputs (controller_of g.E.PortEngine.seen l.fn.self) l.fn.done.request);
}

abbrev pub decreases-loop-joined : goal.decreases-loop-joined
decreases-loop-joined g l = length l.self.joins
