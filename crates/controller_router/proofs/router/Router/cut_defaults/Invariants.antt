use Rattle.std.proofs.Common.{◌≡◌, drop, fold, length}
use Rattle.net_types.specs.Number.{GivenOut}
use Rattle.world_model.specs.Resets.{cuts_default}
use Rattle.controller_router.specs.Node.{acted, ports_in}
use Rattle.controller_router.proofs.router.Router.cut_defaults.Given as goal

abbrev pub invariant-loop-place : goal.invariant-loop-place
invariant-loop-place g l = record {
  end : l.place-end ≡ length l.fn.self.links;
  links : l.self.links ≡ l.fn.self.links;
  acted : (numbers : GivenOut) → fold cuts_default (acted g.E.PortEngine.seen l.self l.notes numbers) (drop l.place (ports_in g.E.PortEngine.seen l.fn.self)) ≡ fold cuts_default (acted g.E.PortEngine.seen l.fn.self l.fn.notes numbers) (ports_in g.E.PortEngine.seen l.fn.self);
}
