use Rattle.std.proofs.Common.{◌≡◌, drop, flat_map, fold, length}
use Rattle.world_model.specs.Asking.{asks}
use Rattle.world_model.specs.Meeting.{ends_meeting}
use Rattle.controller_router.specs.Conditions.{EachCanBeAsked}
use Rattle.controller_router.specs.Meeting.{opening}
use Rattle.controller_router.specs.Node.{acted, ports_in}
use Rattle.controller_router.proofs.router.Router.end_meeting.Given as goal

abbrev pub invariant-loop-place : goal.invariant-loop-place
invariant-loop-place g l = record {
  end : l.ports ≡ length (ports_in g.E.PortEngine.seen l.fn.self);
  ports : ports_in g.E.PortEngine.seen l.self ≡ ports_in g.E.PortEngine.seen l.fn.self;
  rows : l.self.client.desk.rows ≡ l.fn.self.client.desk.rows;
  can : EachCanBeAsked (acted g.E.PortEngine.seen l.self l.notes l.numbers) (flat_map (opening l.fn.self.client.desk.rows) (drop l.place (ports_in g.E.PortEngine.seen l.fn.self)));
  acted : fold asks (acted g.E.PortEngine.seen l.self l.notes l.numbers) (flat_map (opening l.fn.self.client.desk.rows) (drop l.place (ports_in g.E.PortEngine.seen l.fn.self))) ≡ ends_meeting (acted g.E.PortEngine.seen l.fn.self l.fn.notes l.fn.numbers);
}
