use Rattle.std.proofs.Common.{◌≡◌, ◌≤◌, get_or, map, sym, subst, arith, length-set}
use Rattle.net_types.specs.declared.node.PortNo.{PortNo}
use Rattle.controller_router.specs.Node.{ports_of}
use Rattle.controller_router.proofs.AtWork.{length-ports_of, port_is_low, port_of_link}
use Rattle.controller_router.proofs.Placing.{next_place}
use Rattle.controller_router.proofs.opening.places_of.Goals as goal

pub bounds-places-port : goal.bounds-places-port
bounds-places-port g c =
    let seen = g.E.PortEngine.seen in
    let low = subst (λ (p : PortNo). p.0 ≤ 8) (sym c.port.ensures) (port_is_low seen c.args.links.now c.loop-place.place c.index-links-place.result c.requires (omega arith) c.index-links-place.is) in
    omega (arith, low)

pub loop-place-preserved : goal.loop-place-preserved
loop-place-preserved g c =
    let seen = g.E.PortEngine.seen in
    let ports = ports_of (map seen c.args.links.now) in
    let low = subst (λ (p : PortNo). p.0 ≤ 8) (sym c.port.ensures) (port_is_low seen c.args.links.now c.loop-place.place c.index-links-place.result c.requires (omega arith) c.index-links-place.is) in
    let here = subst (λ (p : PortNo). p ≡ get_or ports c.loop-place.place p) (sym c.port.ensures) (port_of_link seen c.args.links.now c.loop-place.place c.index-links-place.result (omega arith) c.index-links-place.is) in
    record { nine = simp length-set c.loop-place.invariant.nine; kept = next_place ports c.loop-place.places c.port.result c.loop-place.place (rw (length-ports_of seen c.args.links.now) (omega arith)) here (omega (arith, low, c.loop-place.invariant.nine)) c.loop-place.invariant.kept }
