use Rattle.std.proofs.Common.{◌≡◌, drop, fold, length}
use Rattle.net_types.specs.Number.{GivenOut}
use Rattle.link_model.specs.Notes.{Journal}
use Rattle.world_model.specs.Meeting.{clears_port}
use Rattle.controller_router.specs.Node.{acted, ports_in}
use Rattle.controller_router.proofs.router.Router.clear_ports.Given as goal

abbrev pub invariant-loop-place : goal.invariant-loop-place
invariant-loop-place g l = record {
  end : l.place-end ≡ length (ports_in g.E.PortEngine.seen l.fn.self);
  ports : ports_in g.E.PortEngine.seen l.self ≡ ports_in g.E.PortEngine.seen l.fn.self;
  acted : (notes : Journal) (numbers : GivenOut) → fold clears_port (acted g.E.PortEngine.seen l.self notes numbers) (drop l.place (ports_in g.E.PortEngine.seen l.fn.self)) ≡ fold clears_port (acted g.E.PortEngine.seen l.fn.self notes numbers) (ports_in g.E.PortEngine.seen l.fn.self);
}
