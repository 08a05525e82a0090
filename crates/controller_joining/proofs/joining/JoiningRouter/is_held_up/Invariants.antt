use Rattle.std.proofs.Common.{◌≡◌, drop, length}
use Rattle.std.specs.List.{list_any}
use Rattle.controller_joins.specs.world_model.Changes.{is_changed}
use Rattle.controller_joins.specs.world_model.Joins.{joins_of}
use Rattle.controller_joining.specs.Joining.{controller_of}
use Rattle.controller_joining.proofs.joining.JoiningRouter.is_held_up.Given as goal

abbrev pub invariant-loop-place : goal.invariant-loop-place
invariant-loop-place g l = record {
  end : l.place-end ≡ length l.fn.self.joins;
  left : list_any (is_changed l.fn.self.router.routes.table l.fn.change) (drop l.place (joins_of (controller_of g.E.PortEngine.seen l.fn.self))) ≡ list_any (is_changed l.fn.self.router.routes.table l.fn.change) (joins_of (controller_of g.E.PortEngine.seen l.fn.self));
}
