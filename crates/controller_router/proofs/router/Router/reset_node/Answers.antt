use Rattle.std.proofs.Common.{◌≡◌, ◌+◌, ◌<◌, ◌∷◌, drop, fold, get_or, length, map, ap, sym, subst, ◌∙◌, arith}
use Rattle.world_model.specs.Controller as model
use Rattle.world_model.specs.Controller.{Acted}
use Rattle.world_model.specs.Resets.{port_restarts}
use Rattle.controller_router.specs.Conditions.{EachCanRestart}
use Rattle.controller_router.specs.Node.{AreLinked, acted, ports_in, ports_of}
use Rattle.controller_router.proofs.AtWork.{length-ports_in, port_behind, ports_before}
use Rattle.controller_router.proofs.router.Router.reset_node.Goals as goal

pub loop-place-init : goal.loop-place-init
loop-place-init g c =
    let seen = g.E.PortEngine.seen in
    let linked = subst (λ n. AreLinked (map seen n.links) n.client.control) c.self.view_is c.self.invariant.linked in
    let same = ap (λ links. ports_of (map seen links)) c.reset_gsmp.ensures.links in
    let is = c.reset_gsmp.ensures.acted c.args.notes.now in
    let ports = ports_before seen c.args.self.now c.reset_gsmp.new.self c.args.notes.now c.args.numbers.now c.reset_gsmp.new.numbers linked c.reset_gsmp.ensures.links is in
    record {
      end = ap length c.as_slice-place-end.ensures.value ∙ ap (λ n. length n.links) c.self.view_is ∙ sym (length-ports_in seen c.reset_gsmp.new.self) ∙ ap length same;
      ports = same;
      can = subst (λ all. EachCanRestart (acted seen c.reset_gsmp.new.self c.args.notes.now c.reset_gsmp.new.numbers) all) ports
          (subst (λ (a : Acted). EachCanRestart a (model.ports_of (acted seen c.args.self.now c.args.notes.now c.args.numbers.now).controller)) (sym is) c.requires.ports);
      acted = λ i. fold port_restarts (is i) (sym ports i);
    }

pub restart_port-requires : goal.restart_port-requires
restart_port-requires g c =
    let seen = g.E.PortEngine.seen in
    let n = c.loop-place.self in
    let here = subst (λ m. c.index.result.now ≡ get_or m.links c.loop-place.place c.index.result.now) c.self-in-loop-place.view_is c.index.ensures in
    let within : c.loop-place.place < length n.links = omega (arith, c.loop-place-test.true, c.loop-place.invariant.end, length-ports_in seen n, ap length c.loop-place.invariant.ports) in
    let behind = ap (λ ports. drop c.loop-place.place ports) (sym c.loop-place.invariant.ports) ∙ port_behind seen n c.loop-place.place c.index.result.now within here in
    let can = subst (λ ports. EachCanRestart (acted seen n c.loop-place.notes c.loop-place.numbers) ports) behind c.loop-place.invariant.can in
    rw c.port-port.ensures can.0

pub loop-place-preserved : goal.loop-place-preserved
loop-place-preserved g c =
    let seen = g.E.PortEngine.seen in
    let n = c.loop-place.self in
    let here = subst (λ m. c.index.result.now ≡ get_or m.links c.loop-place.place c.index.result.now) c.self-in-loop-place.view_is c.index.ensures in
    let within : c.loop-place.place < length n.links = omega (arith, c.loop-place-test.true, c.loop-place.invariant.end, length-ports_in seen n, ap length c.loop-place.invariant.ports) in
    let later = ap (λ ports. drop (c.loop-place.place + 1) ports) c.loop-place.invariant.ports in
    let behind = ap (λ ports. drop c.loop-place.place ports) (sym c.loop-place.invariant.ports) ∙ port_behind seen n c.loop-place.place c.index.result.now within here
    ∙ (λ i. sym c.port-port.ensures i ∷ later i) in
    let can = subst (λ ports. EachCanRestart (acted seen n c.loop-place.notes c.loop-place.numbers) ports) behind c.loop-place.invariant.can in
    let is = c.in_ok-restart_port.ensures.acted in
    record {
      end = c.loop-place.invariant.end;
      ports = c.restart_port.ensures.ports ∙ c.loop-place.invariant.ports;
      can = subst (λ (a : Acted). EachCanRestart a (drop (c.loop-place.place + 1) (ports_in seen c.args.self.now))) (sym is) can.1;
      acted = ap (λ (a : Acted). fold port_restarts a (drop (c.loop-place.place + 1) (ports_in seen c.args.self.now))) is ∙ sym (ap (fold port_restarts (acted seen n c.loop-place.notes c.loop-place.numbers)) behind) ∙ c.loop-place.invariant.acted;
    }

pub returns-in_err-restart_port-clause-linked : goal.returns-in_err-restart_port-clause-linked
returns-in_err-restart_port-clause-linked g c =
    let seen = g.E.PortEngine.seen in
    let linked = subst (λ n. AreLinked (map seen n.links) n.client.control) c.self.view_is c.self.invariant.linked in
    ports_before seen c.args.self.now c.reset_gsmp.new.self c.args.notes.now c.args.numbers.now c.reset_gsmp.new.numbers linked c.reset_gsmp.ensures.links (c.reset_gsmp.ensures.acted c.args.notes.now)

pub returns-clause-linked : goal.returns-clause-linked
returns-clause-linked g c =
    let seen = g.E.PortEngine.seen in
    let linked = subst (λ n. AreLinked (map seen n.links) n.client.control) c.self.view_is c.self.invariant.linked in
    ports_before seen c.args.self.now c.reset_gsmp.new.self c.args.notes.now c.args.numbers.now c.reset_gsmp.new.numbers linked c.reset_gsmp.ensures.links (c.reset_gsmp.ensures.acted c.args.notes.now)
