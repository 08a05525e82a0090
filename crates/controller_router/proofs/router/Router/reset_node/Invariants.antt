use Rattle.std.proofs.Common.{◌≡◌, drop, fold, length}
use Rattle.world_model.specs.Resets.{node_resets, port_restarts}
use Rattle.controller_router.specs.Conditions.{EachCanRestart}
use Rattle.controller_router.specs.Node.{acted, ports_in}
use Rattle.controller_router.proofs.router.Router.reset_node.Given as goal

abbrev pub invariant-loop-place : goal.invariant-loop-place
invariant-loop-place g l = record {
  end : l.place-end ≡ length (ports_in g.E.PortEngine.seen l.fn.self);
  ports : ports_in g.E.PortEngine.seen l.self ≡ ports_in g.E.PortEngine.seen l.fn.self;
  can : EachCanRestart (acted g.E.PortEngine.seen l.self l.notes l.numbers) (drop l.place (ports_in g.E.PortEngine.seen l.fn.self));
  acted : fold port_restarts (acted g.E.PortEngine.seen l.self l.notes l.numbers) (drop l.place (ports_in g.E.PortEngine.seen l.fn.self)) ≡ node_resets (acted g.E.PortEngine.seen l.fn.self l.fn.notes l.fn.numbers);
}
