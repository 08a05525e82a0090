use Rattle.std.proofs.Common.{◌+◌, ◌<◌, drop, length, refl, ap, subst, ◌∙◌, arith, ◌≡◌}
use Rattle.std.specs.Prelude.{flat_map}
use Rattle.crossbar_model.specs.Channels.{ArePorts}
use Rattle.controller_joins.specs.world_model.Controller.{ports_of}
use Rattle.controller_joins.specs.world_model.Joins.{tries_joins}
use Rattle.law_join_facts.specs.Joins.{inputs_on}
use Rattle.controller_router.specs.Node.{ports_in}
use Rattle.controller_router.proofs.Turns.{later}
use Rattle.controller_joining.specs.Joining.{Joining, acted, controller_of}
use Rattle.controller_joining.proofs.Kept.{have_numbers}
use Rattle.controller_joining.proofs.Tries.{joins_begin, port_can, port_tried, trying_on}
use Rattle.controller_joining.proofs.joining.JoiningRouter.try_joins.Goals as goal

pub loop-place-init : goal.loop-place-init
loop-place-init g c =
    let seen = g.E.PortEngine.seen in
    let a = acted seen c.args.self.now c.args.notes.now c.args.numbers.now in
    let ports = ports_in seen c.args.self.now.router in
    let linked = subst (λ (j : Joining _). ports_of (controller_of seen j) ≡ ports_in seen j.router) c.self.view_is c.ports-place-end.ensures.linked in
    let are = subst (λ (j : Joining _). ArePorts (ports_in seen j.router)) c.self.view_is c.ports-place-end.ensures.are in
    record {
      end = c.ports-place-end.ensures.len ∙ ap (λ (j : Joining _). length (ports_in seen j.router)) c.self.view_is;
      joined = c.requires.joined;
      ports = refl;
      trying = joins_begin a ports (have_numbers a.controller ports linked are) linked c.requires.can;
    }

pub try_port-requires-clause-can : goal.try_port-requires-clause-can
try_port-requires-clause-can g c =
    let seen = g.E.PortEngine.seen in
    let a = acted seen c.args.self.now c.args.notes.now c.args.numbers.now in
    let b = acted seen c.loop-place.self c.loop-place.notes c.loop-place.numbers in
    let all = ports_in seen c.args.self.now.router in
    let port = c.port_at-port.result in
    let within : c.loop-place.place < length all = omega (arith, c.loop-place-test.true, c.loop-place.invariant.end) in
    let same = ap (λ (j : Joining _). ports_in seen j.router) c.self-in-loop-place.view_is ∙ c.loop-place.invariant.ports in
    let first = later (ports_in seen c.self-in-loop-place.inside.router) all c.loop-place.place port within same c.port_at-port.ensures.at in
    let rest = flat_map (inputs_on a.controller) (drop (c.loop-place.place + 1) all) in
    port_can a b (tries_joins a) port rest (trying_on a b (tries_joins a) _ _ (ap (flat_map (inputs_on a.controller)) first) c.loop-place.invariant.trying)

pub loop-place-preserved : goal.loop-place-preserved
loop-place-preserved g c =
    let seen = g.E.PortEngine.seen in
    let a = acted seen c.args.self.now c.args.notes.now c.args.numbers.now in
    let b = acted seen c.loop-place.self c.loop-place.notes c.loop-place.numbers in
    let d = acted seen c.try_port.new.self c.try_port.new.notes c.try_port.new.numbers in
    let all = ports_in seen c.args.self.now.router in
    let port = c.port_at-port.result in
    let within : c.loop-place.place < length all = omega (arith, c.loop-place-test.true, c.loop-place.invariant.end) in
    let same = ap (λ (j : Joining _). ports_in seen j.router) c.self-in-loop-place.view_is ∙ c.loop-place.invariant.ports in
    let first = later (ports_in seen c.self-in-loop-place.inside.router) all c.loop-place.place port within same c.port_at-port.ensures.at in
    let rest = flat_map (inputs_on a.controller) (drop (c.loop-place.place + 1) all) in
    record {
      end = c.loop-place.invariant.end;
      joined = c.in_ok-try_port.ensures.joined;
      ports = c.try_port.ensures.ports ∙ c.loop-place.invariant.ports;
      trying = port_tried a b d (tries_joins a) port rest (trying_on a b (tries_joins a) _ _ (ap (flat_map (inputs_on a.controller)) first) c.loop-place.invariant.trying) c.in_ok-try_port.ensures.acted;
    }
