use Rattle.std.proofs.Common.{◌≡◌, fold, length}
use Rattle.world_model.specs.Performing.{performs_in_estab}
use Rattle.controller_router.specs.Conditions.{EachCanBePerformed}
use Rattle.controller_router.specs.Node.{acted, ports_in}
use Rattle.controller_router.proofs.router.Router.perform_all.Given as goal

abbrev pub invariant-loop-action : goal.invariant-loop-action
invariant-loop-action g l = record {
  can : EachCanBePerformed l.port (acted g.E.PortEngine.seen l.self l.notes l.numbers) l.actions;
  ports : ports_in g.E.PortEngine.seen l.self ≡ ports_in g.E.PortEngine.seen l.fn.self;
  acted : fold (performs_in_estab l.port) (acted g.E.PortEngine.seen l.self l.notes l.numbers) l.actions ≡ fold (performs_in_estab l.port) (acted g.E.PortEngine.seen l.fn.self l.fn.notes l.fn.numbers) l.fn.actions;
}

abbrev pub decreases-loop-action : goal.decreases-loop-action
decreases-loop-action g l = length l.actions
