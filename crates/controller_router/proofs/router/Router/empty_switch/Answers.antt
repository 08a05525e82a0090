use Rattle.std.proofs.Common.{◌+◌, ◌<◌, drop, filter, flat_map, fold, length, map, ap, sym, subst, ◌∙◌, arith}
use Rattle.net_types.specs.declared.node.PortNo.{PortNo}
use Rattle.gsmp_wire.specs.declared.request.Request.TheVariants.{DeleteAll}
use Rattle.port_model.specs.Messages.{is_up}
use Rattle.world_model.specs.Controller.{Acted}
use Rattle.world_model.specs.Asking.{asks}
use Rattle.controller_router.specs.Conditions.{EachCanBeAsked}
use Rattle.controller_router.specs.Meeting.{emptying}
use Rattle.controller_router.specs.Node.{acted, ports_in}
use Rattle.controller_router.proofs.Asked.{all_asked_rows, asked_rows, each_split, emptying_is, fold_split, rows_in}
use Rattle.controller_router.proofs.Turns.{later, nothing_left}
use Rattle.controller_router.proofs.router.Router.empty_switch.Goals as goal

pub loop-place-init : goal.loop-place-init
loop-place-init g c =
    let seen = g.E.PortEngine.seen in
    let rows = c.args.self.now.client.desk.rows in
    let a = acted seen c.args.self.now c.args.notes.now c.args.numbers.now in
    let first : PortNo = record { 0 = 0 } in
    let is = c.in_ok-ask.ensures.acted in
    let lists = emptying_is rows (ports_in seen c.args.self.now) ∙ ap (λ ports. map DeleteAll (filter (is_up rows) ports)) (sym c.ports-ports.ensures.linked) in
    record {
      end = c.ports-ports.ensures.len;
      ports = c.ask.ensures.ports;
      rows = ap rows_in is ∙ asked_rows a (DeleteAll first);
      can = subst (λ (b : Acted). EachCanBeAsked b (flat_map (emptying rows) (ports_in seen c.args.self.now))) (sym is)
          (subst (λ requests. EachCanBeAsked (asks a (DeleteAll first)) requests) (sym lists) c.requires.1);
      acted = λ i. fold asks (is i) (lists i);
    }

pub port_at-port-requires : goal.port_at-port-requires
port_at-port-requires g c = omega (arith, c.loop-place-test.true, c.loop-place.invariant.end, ap length c.loop-place.invariant.ports)

pub empty_port-requires : goal.empty_port-requires
empty_port-requires g c =
    let seen = g.E.PortEngine.seen in
    let rows = c.args.self.now.client.desk.rows in
    let a = acted seen c.loop-place.self c.loop-place.notes c.loop-place.numbers in
    let within : c.loop-place.place < length (ports_in seen c.args.self.now) = omega (arith, c.loop-place-test.true, c.loop-place.invariant.end) in
    let port = later (ports_in seen c.loop-place.self) (ports_in seen c.args.self.now) c.loop-place.place c.port_at-port.result within c.loop-place.invariant.ports c.port_at-port.ensures.at in
    let can = subst (λ ports. EachCanBeAsked a (flat_map (emptying rows) ports)) port c.loop-place.invariant.can in
    subst (λ r. EachCanBeAsked a (emptying r c.port_at-port.result)) (sym c.loop-place.invariant.rows)
    (each_split (emptying rows c.port_at-port.result) (flat_map (emptying rows) (drop (c.loop-place.place + 1) (ports_in seen c.args.self.now))) a can).0

pub loop-place-preserved : goal.loop-place-preserved
loop-place-preserved g c =
    let seen = g.E.PortEngine.seen in
    let rows = c.args.self.now.client.desk.rows in
    let a = acted seen c.loop-place.self c.loop-place.notes c.loop-place.numbers in
    let rest = flat_map (emptying rows) (drop (c.loop-place.place + 1) (ports_in seen c.args.self.now)) in
    let within : c.loop-place.place < length (ports_in seen c.args.self.now) = omega (arith, c.loop-place-test.true, c.loop-place.invariant.end) in
    let port = later (ports_in seen c.loop-place.self) (ports_in seen c.args.self.now) c.loop-place.place c.port_at-port.result within c.loop-place.invariant.ports c.port_at-port.ensures.at in
    let can = subst (λ ports. EachCanBeAsked a (flat_map (emptying rows) ports)) port c.loop-place.invariant.can in
    let is = c.in_ok-empty_port.ensures.acted ∙ ap (λ r. fold asks a (emptying r c.port_at-port.result)) c.loop-place.invariant.rows in
    record {
      end = c.loop-place.invariant.end;
      ports = c.empty_port.ensures.ports ∙ c.loop-place.invariant.ports;
      rows = ap rows_in is ∙ all_asked_rows (emptying rows c.port_at-port.result) a ∙ c.loop-place.invariant.rows;
      can = subst (λ (b : Acted). EachCanBeAsked b rest) (sym is) (each_split (emptying rows c.port_at-port.result) rest a can).1;
      acted = ap (λ (b : Acted). fold asks b rest) is ∙ sym (fold_split (emptying rows c.port_at-port.result) rest a)
          ∙ sym (ap (λ ports. fold asks a (flat_map (emptying rows) ports)) port) ∙ c.loop-place.invariant.acted;
    }

pub returns-clause-acted : goal.returns-clause-acted
returns-clause-acted g c =
    let seen = g.E.PortEngine.seen in
    let a = acted seen c.loop-place.self c.loop-place.notes c.loop-place.numbers in
    let none = nothing_left (ports_in seen c.args.self.now) c.loop-place.place (omega (arith, c.loop-place-test.false, c.loop-place.invariant.end)) in
    ap (λ ports. fold asks a (flat_map (emptying c.args.self.now.client.desk.rows) ports)) (sym none) ∙ c.loop-place.invariant.acted
