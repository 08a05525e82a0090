use Rattle.std.proofs.Common.{fold, refl, ap, sym, ◌∙◌, arith}
use Rattle.port_labels.specs.Read.{label_of}
use Rattle.std.specs.Option.{option_map}
use Rattle.controller_joins.specs.world_model.Joins.{tries_join}
use Rattle.law_join_facts.specs.Joins.{inputs_on}
use Rattle.law_join_facts.proofs.Tries.{held_at}
use Rattle.controller_joining.specs.Joining.{Joining, acted, controller_of}
use Rattle.controller_joining.proofs.Tries.{all_held, label_can, label_tried, none_held, port_begins}
use Rattle.controller_joining.proofs.joining.JoiningRouter.try_port.Goals as goal

pub loop-place-init : goal.loop-place-init
loop-place-init g c =
    let a = acted g.E.PortEngine.seen c.args.self.now c.args.notes.now c.args.numbers.now in
    record { joined = c.requires.joined; ports = refl; trying = port_begins a c.args.port c.requires.numbers c.requires.can }

pub returns-in_default-clause-acted : goal.returns-in_default-clause-acted
returns-in_default-clause-acted g c =
    let seen = g.E.PortEngine.seen in
    let a = acted seen c.args.self.now c.args.notes.now c.args.numbers.now in
    let b = acted seen c.loop-place.self c.loop-place.notes c.loop-place.numbers in
    let none = ap (λ (j : Joining _). held_at (controller_of seen j) c.args.port c.loop-place.place) (sym c.self.view_is) ∙ sym c.label_at.ensures.label ∙ ap (option_map label_of) c.in_default.is in
    none_held a b (fold tries_join a (inputs_on a.controller c.args.port)) c.args.port c.loop-place.place c.loop-place.invariant.trying none

pub try_label-requires-clause-can : goal.try_label-requires-clause-can
try_label-requires-clause-can g c =
    let seen = g.E.PortEngine.seen in
    let a = acted seen c.args.self.now c.args.notes.now c.args.numbers.now in
    let b = acted seen c.loop-place.self c.loop-place.notes c.loop-place.numbers in
    let held = ap (λ (j : Joining _). held_at (controller_of seen j) c.args.port c.loop-place.place) (sym c.self.view_is) ∙ sym c.label_at.ensures.label ∙ ap (option_map label_of) c.in-Some.is in
    label_can a b (fold tries_join a (inputs_on a.controller c.args.port)) c.args.port c.loop-place.place (label_of c.in-Some.label) c.loop-place.invariant.trying held

pub loop-place-preserved : goal.loop-place-preserved
loop-place-preserved g c =
    let seen = g.E.PortEngine.seen in
    let a = acted seen c.args.self.now c.args.notes.now c.args.numbers.now in
    let b = acted seen c.loop-place.self c.loop-place.notes c.loop-place.numbers in
    let d = acted seen c.try_label.new.self c.try_label.new.notes c.try_label.new.numbers in
    let held = ap (λ (j : Joining _). held_at (controller_of seen j) c.args.port c.loop-place.place) (sym c.self.view_is) ∙ sym c.label_at.ensures.label ∙ ap (option_map label_of) c.in-Some.is in
    record {
      joined = c.in_ok-try_label.ensures.joined;
      ports = c.try_label.ensures.ports ∙ c.loop-place.invariant.ports;
      trying = label_tried a b d (fold tries_join a (inputs_on a.controller c.args.port)) c.args.port c.loop-place.place (label_of c.in-Some.label) c.loop-place.invariant.trying held c.in_ok-try_label.ensures.acted;
    }

pub returns-clause-acted : goal.returns-clause-acted
returns-clause-acted g c =
    let seen = g.E.PortEngine.seen in
    let a = acted seen c.args.self.now c.args.notes.now c.args.numbers.now in
    let b = acted seen c.loop-place.self c.loop-place.notes c.loop-place.numbers in
    all_held a b (fold tries_join a (inputs_on a.controller c.args.port)) c.args.port c.loop-place.place c.loop-place.invariant.trying (omega (arith, c.requires.few, c.loop-place-test.false))
