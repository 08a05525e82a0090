use Rattle.std.proofs.Common.{◌≡◌, drop, length}
use Rattle.controller_joins.specs.world_model.Joins.{joins_of}
use Rattle.controller_joining.specs.Joining.{acted, controller_of}
use Rattle.controller_joining.proofs.Changes.{Taking}
use Rattle.controller_joining.proofs.joining.JoiningRouter.take_joins_back.Given as goal

abbrev pub invariant-loop-place : goal.invariant-loop-place
invariant-loop-place g l = record {
  end : l.place-end ≡ length l.fn.self.joins;
  joins : l.self.joins ≡ l.fn.self.joins;
  taking : Taking (acted g.E.PortEngine.seen l.fn.self l.fn.notes l.fn.numbers) (acted g.E.PortEngine.seen l.self l.notes l.numbers) l.fn.change (drop l.place (joins_of (controller_of g.E.PortEngine.seen l.fn.self)));
}
