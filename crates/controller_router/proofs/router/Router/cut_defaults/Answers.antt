use Rattle.std.proofs.Common.{◌≡◌, ◌+◌, ◌<◌, ◌∷◌, drop, fold, get_or, length, map, ap, sym, subst, ◌∙◌, arith}
use Rattle.world_model.specs.Controller.{Acted}
use Rattle.world_model.specs.Resets.{cuts_default}
use Rattle.controller_router.specs.Node.{AreLinked, acted, ports_in, ports_of}
use Rattle.controller_router.proofs.AtWork.{default_at, port_behind}
use Rattle.controller_router.proofs.router.Router.cut_defaults.Goals as goal

pub cut_default-requires : goal.cut_default-requires
cut_default-requires g c =
    let seen = g.E.PortEngine.seen in
    let n = c.loop-place.self in
    let linked = subst (λ m. AreLinked (map seen m.links) m.client.control) c.self-in-loop-place.view_is c.self-in-loop-place.invariant.linked in
    let here = subst (λ m. c.index.result.now ≡ get_or m.links c.loop-place.place c.index.result.now) c.self-in-loop-place.view_is c.index.ensures in
    let within : c.loop-place.place < length n.links = omega (arith, c.loop-place-test.true, c.loop-place.invariant.end, ap length c.loop-place.invariant.links) in
    rw c.port-port.ensures (default_at seen n c.loop-place.place c.index.result.now linked within here)

pub loop-place-preserved : goal.loop-place-preserved
loop-place-preserved g c =
    let seen = g.E.PortEngine.seen in
    let n = c.loop-place.self in
    let here = subst (λ m. c.index.result.now ≡ get_or m.links c.loop-place.place c.index.result.now) c.self-in-loop-place.view_is c.index.ensures in
    let within : c.loop-place.place < length n.links = omega (arith, c.loop-place-test.true, c.loop-place.invariant.end, ap length c.loop-place.invariant.links) in
    let same = ap (λ links. ports_of (map seen links)) c.loop-place.invariant.links in
    let later = ap (λ ports. drop (c.loop-place.place + 1) ports) same in
    let behind = ap (λ ports. drop c.loop-place.place ports) (sym same) ∙ port_behind seen n c.loop-place.place c.index.result.now within here ∙ (λ i. sym c.port-port.ensures i ∷ later i) in
    record {
      end = c.loop-place.invariant.end;
      links = c.cut_default.ensures.links ∙ c.loop-place.invariant.links;
      acted = λ numbers.
          ap (λ (a : Acted). fold cuts_default a (drop (c.loop-place.place + 1) (ports_in seen c.args.self.now))) (c.in_ok-cut_default.ensures.acted numbers)
          ∙ sym (ap (fold cuts_default (acted seen n c.loop-place.notes numbers)) behind)
          ∙ c.loop-place.invariant.acted numbers;
    }
