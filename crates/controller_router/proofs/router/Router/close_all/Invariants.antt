use Rattle.std.proofs.Common.{◌≡◌, fold, length}
use Rattle.net_types.specs.Number.{GivenOut}
use Rattle.world_model.specs.Resets.{closes_by}
use Rattle.controller_router.specs.Conditions.{AllCanClose}
use Rattle.controller_router.specs.Node.{acted, ranges_in}
use Rattle.controller_router.proofs.router.Router.close_all.Given as goal

abbrev pub invariant-loop-action : goal.invariant-loop-action
invariant-loop-action g l = record {
  can : AllCanClose (ranges_in g.E.PortEngine.seen l.fn.self) l.port l.actions;
  links : l.self.links ≡ l.fn.self.links;
  ranges : ranges_in g.E.PortEngine.seen l.self ≡ ranges_in g.E.PortEngine.seen l.fn.self;
  acted : (numbers : GivenOut) → fold (closes_by l.port) (acted g.E.PortEngine.seen l.self l.notes numbers) l.actions ≡ fold (closes_by l.port) (acted g.E.PortEngine.seen l.fn.self l.fn.notes numbers) l.fn.actions;
}

abbrev pub decreases-loop-action : goal.decreases-loop-action
decreases-loop-action g l = length l.actions
