use Rattle.std.proofs.Common.{◌≡◌, true, false, List, ℕ, Option, None, Ok, refl, subst}
use Rattle.script_model.specs.declared.refusal.Refused.{Refused}
use Rattle.script_model.specs.Reading.{line_says}
use Rattle.script_model.specs.Drill.{drill_script}
use Rattle.network_replay.specs.Along.{GoesOn}
use Rattle.network_replay.proofs.Metered.{all_metered, as_before}
use Rattle.script_replay.specs.Silence.{silent_tale}
use Rattle.script_replay.proofs.DrillTakings.{IsTaking, begins, ends, ends_refused, first_given, goes_on, has_room, is_going, kept_early, known, metered, none_left}
use Rattle.script_replay.proofs.drill_lines.take_lines.Goals as goal

pub loop-line-init : goal.loop-line-init
loop-line-init g c =
    begins g.C.NodeController.seen (g.N.PolicyChoice.chosen c.args.choice.now) c.args.drill c.args.meter.now c.new-lines.result c.new-lines.ensures c.args.replay.now c.requires.begun _

pub returns-then-not-branch-clause-whole : goal.returns-then-not-branch-clause-whole
returns-then-not-branch-clause-whole g c =
    let none : c.in_ok-next.field-0 ≡ false = cc in
    let ended = ends g.C.NodeController.seen (g.N.PolicyChoice.chosen c.args.choice.now) c.args.drill c.args.meter.now c.loop-line.lines
    (none_left c.loop-line.lines c.next.new.self c.new-line.result c.next.new.line c.in_ok-next.field-0 c.in_ok-next.ensures none)
    c.loop-line.replay c.loop-line.told c.loop-line.meter c.loop-line.invariant in
    (ended.placed, ended.whole)

pub returns-then-not-branch-clause-meter : goal.returns-then-not-branch-clause-meter
returns-then-not-branch-clause-meter g c =
    let none : c.in_ok-next.field-0 ≡ false = cc in
    (ends g.C.NodeController.seen (g.N.PolicyChoice.chosen c.args.choice.now) c.args.drill c.args.meter.now c.loop-line.lines
    (none_left c.loop-line.lines c.next.new.self c.new-line.result c.next.new.line c.in_ok-next.field-0 c.in_ok-next.ensures none)
    c.loop-line.replay c.loop-line.told c.loop-line.meter c.loop-line.invariant).meter_is

pub returns-in-Some-clause-whole : goal.returns-in-Some-clause-whole
returns-in-Some-clause-whole g c =
    let some : c.in_ok-next.field-0 ≡ true = cc in
    let split = first_given c.loop-line.lines c.next.new.self c.new-line.result c.next.new.line c.as_slice-text.result.now c.in_ok-next.field-0 c.in_ok-next.ensures some c.new-line.ensures c.as_slice-text.ensures in
    let t = subst (λ (x : List (List ℕ)). IsTaking g.C.NodeController.seen (g.N.PolicyChoice.chosen c.args.choice.now) c.args.drill c.args.meter.now x c.loop-line.replay c.loop-line.told c.loop-line.meter) split c.loop-line.invariant in
    let ended = ends_refused g.C.NodeController.seen (g.N.PolicyChoice.chosen c.args.choice.now) c.args.drill c.args.meter.now c.as_slice-text.result.now c.next.new.self c.loop-line.replay c.line-in-loop-line.new.self
    c.loop-line.told c.line-in-loop-line.new.told c.loop-line.meter c.line-in-loop-line.new.meter c.in-Some.refused t
    (subst (λ (o : Option Refused). GoesOn g.C.NodeController.seen known silent_tale (g.N.PolicyChoice.chosen c.args.choice.now) line_says t.first None c.args.meter.now t.taken c.as_slice-text.result.now (Ok o) c.line-in-loop-line.new.self c.line-in-loop-line.new.told None c.line-in-loop-line.new.meter) c.in-Some.is
    (c.in_ok-refused.ensures.along t.first None c.args.meter.now t.taken t.along)) in
    (ended.placed, ended.whole)

pub returns-in-Some-clause-meter : goal.returns-in-Some-clause-meter
returns-in-Some-clause-meter g c =
    let some : c.in_ok-next.field-0 ≡ true = cc in
    let split = first_given c.loop-line.lines c.next.new.self c.new-line.result c.next.new.line c.as_slice-text.result.now c.in_ok-next.field-0 c.in_ok-next.ensures some c.new-line.ensures c.as_slice-text.ensures in
    let t = subst (λ (x : List (List ℕ)). IsTaking g.C.NodeController.seen (g.N.PolicyChoice.chosen c.args.choice.now) c.args.drill c.args.meter.now x c.loop-line.replay c.loop-line.told c.loop-line.meter) split c.loop-line.invariant in
    (ends_refused g.C.NodeController.seen (g.N.PolicyChoice.chosen c.args.choice.now) c.args.drill c.args.meter.now c.as_slice-text.result.now c.next.new.self c.loop-line.replay c.line-in-loop-line.new.self
    c.loop-line.told c.line-in-loop-line.new.told c.loop-line.meter c.line-in-loop-line.new.meter c.in-Some.refused t
    (subst (λ (o : Option Refused). GoesOn g.C.NodeController.seen known silent_tale (g.N.PolicyChoice.chosen c.args.choice.now) line_says t.first None c.args.meter.now t.taken c.as_slice-text.result.now (Ok o) c.line-in-loop-line.new.self c.line-in-loop-line.new.told None c.line-in-loop-line.new.meter) c.in-Some.is
    (c.in_ok-refused.ensures.along t.first None c.args.meter.now t.taken t.along))).meter_is

pub loop-line-preserved : goal.loop-line-preserved
loop-line-preserved g c =
    let some : c.in_ok-next.field-0 ≡ true = cc in
    let none : c.in_ok-refused.field-0 ≡ None = cc in
    let split = first_given c.loop-line.lines c.next.new.self c.new-line.result c.next.new.line c.as_slice-text.result.now c.in_ok-next.field-0 c.in_ok-next.ensures some c.new-line.ensures c.as_slice-text.ensures in
    let t = subst (λ (x : List (List ℕ)). IsTaking g.C.NodeController.seen (g.N.PolicyChoice.chosen c.args.choice.now) c.args.drill c.args.meter.now x c.loop-line.replay c.loop-line.told c.loop-line.meter) split c.loop-line.invariant in
    goes_on g.C.NodeController.seen (g.N.PolicyChoice.chosen c.args.choice.now) c.args.drill c.args.meter.now c.as_slice-text.result.now c.next.new.self c.loop-line.replay c.line-in-loop-line.new.self
    c.loop-line.told c.line-in-loop-line.new.told c.loop-line.meter c.line-in-loop-line.new.meter t
    (subst (λ (o : Option Refused). GoesOn g.C.NodeController.seen known silent_tale (g.N.PolicyChoice.chosen c.args.choice.now) line_says t.first None c.args.meter.now t.taken c.as_slice-text.result.now (Ok o) c.line-in-loop-line.new.self c.line-in-loop-line.new.told None c.line-in-loop-line.new.meter) none
    (c.in_ok-refused.ensures.along t.first None c.args.meter.now t.taken t.along))

pub line-requires : goal.line-requires
line-requires g c =
    let some : c.in_ok-next.field-0 ≡ true = cc in
    let split = first_given c.loop-line.lines c.next.new.self c.new-line.result c.next.new.line c.as_slice-text.result.now c.in_ok-next.field-0 c.in_ok-next.ensures some c.new-line.ensures c.as_slice-text.ensures in
    let t = subst (λ (x : List (List ℕ)). IsTaking g.C.NodeController.seen (g.N.PolicyChoice.chosen c.args.choice.now) c.args.drill c.args.meter.now x c.loop-line.replay c.loop-line.told c.loop-line.meter) split c.loop-line.invariant in
    record {
      going = is_going g.C.NodeController.seen (g.N.PolicyChoice.chosen c.args.choice.now) c.args.drill c.args.meter.now _ c.loop-line.replay c.loop-line.told c.loop-line.meter t;
      room = has_room g.C.NodeController.seen (g.N.PolicyChoice.chosen c.args.choice.now) c.args.drill c.args.meter.now c.as_slice-text.result.now c.next.new.self c.loop-line.replay c.loop-line.told c.loop-line.meter t;
    }

pub returns-in_err-writer-clause-metered : goal.returns-in_err-writer-clause-metered
returns-in_err-writer-clause-metered g c = as_before (g.N.PolicyChoice.chosen c.args.choice.now) c.args.meter.now c.args.meter.now (drill_script c.args.drill) refl

pub returns-in_err-next-clause-metered : goal.returns-in_err-next-clause-metered
returns-in_err-next-clause-metered g c =
    metered g.C.NodeController.seen (g.N.PolicyChoice.chosen c.args.choice.now) c.args.drill c.args.meter.now c.loop-line.lines c.loop-line.replay c.loop-line.told c.loop-line.meter c.loop-line.invariant

pub returns-then-not-branch-clause-metered : goal.returns-then-not-branch-clause-metered
returns-then-not-branch-clause-metered g c =
    metered g.C.NodeController.seen (g.N.PolicyChoice.chosen c.args.choice.now) c.args.drill c.args.meter.now c.loop-line.lines c.loop-line.replay c.loop-line.told c.loop-line.meter c.loop-line.invariant

pub returns-in_err-refused-clause-metered : goal.returns-in_err-refused-clause-metered
returns-in_err-refused-clause-metered g c =
    let some : c.in_ok-next.field-0 ≡ true = cc in
    let split = first_given c.loop-line.lines c.next.new.self c.new-line.result c.next.new.line c.as_slice-text.result.now c.in_ok-next.field-0 c.in_ok-next.ensures some c.new-line.ensures c.as_slice-text.ensures in
    let t = subst (λ (x : List (List ℕ)). IsTaking g.C.NodeController.seen (g.N.PolicyChoice.chosen c.args.choice.now) c.args.drill c.args.meter.now x c.loop-line.replay c.loop-line.told c.loop-line.meter) split c.loop-line.invariant in
    kept_early g.C.NodeController.seen (g.N.PolicyChoice.chosen c.args.choice.now) c.args.drill c.args.meter.now c.as_slice-text.result.now c.next.new.self c.loop-line.replay c.loop-line.told
    c.loop-line.meter c.line-in-loop-line.new.meter c.in_err-refused.field-0.0 t (c.in_err-refused.ensures.kept t.first None c.args.meter.now t.taken t.along)

pub returns-in-Some-clause-metered : goal.returns-in-Some-clause-metered
returns-in-Some-clause-metered g c =
    let some : c.in_ok-next.field-0 ≡ true = cc in
    let split = first_given c.loop-line.lines c.next.new.self c.new-line.result c.next.new.line c.as_slice-text.result.now c.in_ok-next.field-0 c.in_ok-next.ensures some c.new-line.ensures c.as_slice-text.ensures in
    let t = subst (λ (x : List (List ℕ)). IsTaking g.C.NodeController.seen (g.N.PolicyChoice.chosen c.args.choice.now) c.args.drill c.args.meter.now x c.loop-line.replay c.loop-line.told c.loop-line.meter) split c.loop-line.invariant in
    all_metered (g.N.PolicyChoice.chosen c.args.choice.now) c.args.meter.now c.line-in-loop-line.new.meter (drill_script c.args.drill)
    (ends_refused g.C.NodeController.seen (g.N.PolicyChoice.chosen c.args.choice.now) c.args.drill c.args.meter.now c.as_slice-text.result.now c.next.new.self c.loop-line.replay c.line-in-loop-line.new.self
    c.loop-line.told c.line-in-loop-line.new.told c.loop-line.meter c.line-in-loop-line.new.meter c.in-Some.refused t
    (subst (λ (o : Option Refused). GoesOn g.C.NodeController.seen known silent_tale (g.N.PolicyChoice.chosen c.args.choice.now) line_says t.first None c.args.meter.now t.taken c.as_slice-text.result.now (Ok o) c.line-in-loop-line.new.self c.line-in-loop-line.new.told None c.line-in-loop-line.new.meter) c.in-Some.is
    (c.in_ok-refused.ensures.along t.first None c.args.meter.now t.taken t.along))).meter_is
