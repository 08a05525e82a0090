use Rattle.std.proofs.Common.{◌+◌, ◌<◌, drop, fold, length, ap, sym, ◌∙◌, arith}
use Rattle.world_model.specs.Controller.{Acted}
use Rattle.world_model.specs.Meeting.{clears_port}
use Rattle.controller_router.specs.Node.{acted, ports_in}
use Rattle.controller_router.proofs.Turns.{later, nothing_left}
use Rattle.controller_router.proofs.router.Router.clear_ports.Goals as goal

pub port_at-port-requires : goal.port_at-port-requires
port_at-port-requires g c = omega (arith, c.loop-place-test.true, c.loop-place.invariant.end, ap length c.loop-place.invariant.ports)

pub loop-place-preserved : goal.loop-place-preserved
loop-place-preserved g c =
    let seen = g.E.PortEngine.seen in
    let within : c.loop-place.place < length (ports_in seen c.args.self.now) = omega (arith, c.loop-place-test.true, c.loop-place.invariant.end) in
    let port = later (ports_in seen c.loop-place.self) (ports_in seen c.args.self.now) c.loop-place.place c.port_at-port.result within c.loop-place.invariant.ports c.port_at-port.ensures.at in
    record {
      end = c.loop-place.invariant.end;
      ports = c.clear_port.ensures.ports ∙ c.loop-place.invariant.ports;
      acted = λ notes numbers. ap (λ (a : Acted). fold clears_port a (drop (c.loop-place.place + 1) (ports_in seen c.args.self.now))) (c.clear_port.ensures.acted notes numbers)
          ∙ sym (ap (fold clears_port (acted seen c.loop-place.self notes numbers)) port) ∙ c.loop-place.invariant.acted notes numbers;
    }

pub returns-clause-acted : goal.returns-clause-acted
returns-clause-acted g c = λ notes numbers.
    let seen = g.E.PortEngine.seen in
    let none = nothing_left (ports_in seen c.args.self.now) c.loop-place.place (omega (arith, c.loop-place-test.false, c.loop-place.invariant.end)) in
    ap (fold clears_port (acted seen c.loop-place.self notes numbers)) (sym none) ∙ c.loop-place.invariant.acted notes numbers
    ∙ ap (fold clears_port (acted seen c.args.self.now notes numbers)) (sym c.ports-place-end.ensures.linked)
