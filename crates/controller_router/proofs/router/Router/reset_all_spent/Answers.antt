use Rattle.std.proofs.Common.{◌+◌, ◌<◌, drop, fold, length, ap, sym, subst, ◌∙◌, arith}
use Rattle.world_model.specs.Controller.{Acted}
use Rattle.world_model.specs.Joins.{resets_spent}
use Rattle.controller_router.specs.Meeting.{EachCanResetSpent}
use Rattle.controller_router.specs.Node.{acted, ports_in}
use Rattle.controller_router.proofs.Turns.{later, nothing_left}
use Rattle.controller_router.proofs.router.Router.reset_all_spent.Goals as goal

pub port_at-port-requires : goal.port_at-port-requires
port_at-port-requires g c = omega (arith, c.loop-place-test.true, c.loop-place.invariant.end, ap length c.loop-place.invariant.ports)

pub reset_spent-requires : goal.reset_spent-requires
reset_spent-requires g c =
    let seen = g.E.PortEngine.seen in
    let within : c.loop-place.place < length (ports_in seen c.args.self.now) = omega (arith, c.loop-place-test.true, c.loop-place.invariant.end) in
    let port = later (ports_in seen c.loop-place.self) (ports_in seen c.args.self.now) c.loop-place.place c.port_at-port.result within c.loop-place.invariant.ports c.port_at-port.ensures.at in
    (subst (λ ports. EachCanResetSpent (acted seen c.loop-place.self c.loop-place.notes c.loop-place.numbers) ports) port c.loop-place.invariant.can).0

pub loop-place-preserved : goal.loop-place-preserved
loop-place-preserved g c =
    let seen = g.E.PortEngine.seen in
    let within : c.loop-place.place < length (ports_in seen c.args.self.now) = omega (arith, c.loop-place-test.true, c.loop-place.invariant.end) in
    let port = later (ports_in seen c.loop-place.self) (ports_in seen c.args.self.now) c.loop-place.place c.port_at-port.result within c.loop-place.invariant.ports c.port_at-port.ensures.at in
    let can = (subst (λ ports. EachCanResetSpent (acted seen c.loop-place.self c.loop-place.notes c.loop-place.numbers) ports) port c.loop-place.invariant.can).1 in
    let is = c.in_ok-reset_spent.ensures.acted in
    record {
      end = c.loop-place.invariant.end;
      ports = c.reset_spent.ensures.ports ∙ c.loop-place.invariant.ports;
      can = subst (λ (a : Acted). EachCanResetSpent a (drop (c.loop-place.place + 1) (ports_in seen c.args.self.now))) (sym is) can;
      acted = ap (λ (a : Acted). fold resets_spent a (drop (c.loop-place.place + 1) (ports_in seen c.args.self.now))) is
          ∙ sym (ap (fold resets_spent (acted seen c.loop-place.self c.loop-place.notes c.loop-place.numbers)) port) ∙ c.loop-place.invariant.acted;
    }

pub returns-clause-acted : goal.returns-clause-acted
returns-clause-acted g c =
    let seen = g.E.PortEngine.seen in
    let none = nothing_left (ports_in seen c.args.self.now) c.loop-place.place (omega (arith, c.loop-place-test.false, c.loop-place.invariant.end)) in
    ap (fold resets_spent (acted seen c.loop-place.self c.loop-place.notes c.loop-place.numbers)) (sym none) ∙ c.loop-place.invariant.acted
    ∙ ap (fold resets_spent (acted seen c.args.self.now c.args.notes.now c.args.numbers.now)) (sym c.ports-place-end.ensures.linked)
