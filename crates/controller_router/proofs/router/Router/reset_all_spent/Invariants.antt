use Rattle.std.proofs.Common.{◌≡◌, drop, fold, length}
use Rattle.world_model.specs.Joins.{resets_spent}
use Rattle.controller_router.specs.Meeting.{EachCanResetSpent}
use Rattle.controller_router.specs.Node.{acted, ports_in}
use Rattle.controller_router.proofs.router.Router.reset_all_spent.Given as goal

abbrev pub invariant-loop-place : goal.invariant-loop-place
invariant-loop-place g l = record {
  end : l.place-end ≡ length (ports_in g.E.PortEngine.seen l.fn.self);
  ports : ports_in g.E.PortEngine.seen l.self ≡ ports_in g.E.PortEngine.seen l.fn.self;
  can : EachCanResetSpent (acted g.E.PortEngine.seen l.self l.notes l.numbers) (drop l.place (ports_in g.E.PortEngine.seen l.fn.self));
  acted : fold resets_spent (acted g.E.PortEngine.seen l.self l.notes l.numbers) (drop l.place (ports_in g.E.PortEngine.seen l.fn.self)) ≡ fold resets_spent (acted g.E.PortEngine.seen l.fn.self l.fn.notes l.fn.numbers) (ports_in g.E.PortEngine.seen l.fn.self);
}
