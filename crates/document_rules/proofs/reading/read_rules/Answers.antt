use Rattle.std.proofs.Common.{◌+◌, refl, sym, arith}
use Rattle.document_rules.proofs.Steps.{begins, no_line, stops, goes_on, ends}
use Rattle.document_rules.proofs.reading.read_rules.Goals as goal

pub loop-place-init : goal.loop-place-init
loop-place-init c = begins c.args.lines.now c.in_ok-read.read c.in_ok-read.ensures

pub returns-in_default : goal.returns-in_default
returns-in_default c = no_line c.args.lines.now c.loop-place.place c.loop-place.read (sym c.in_default.ensures) c.loop-place.invariant

pub returns-then-not-branch : goal.returns-then-not-branch
returns-then-not-branch c =
    stops c.args.lines.now c.loop-place.place (c.loop-place.place + 1) c.in-Some.text.now c.loop-place.read c.take.new.self c.in_ok-take.field-0
    (omega (arith, c.loop-place-test.true, c.rule_len-place-end.ensures)) (sym c.in-Some.ensures) c.loop-place.invariant refl
    (λ rest. c.in_ok-take.ensures rest) c.if-not-branch.true

pub loop-place-preserved : goal.loop-place-preserved
loop-place-preserved c =
    goes_on c.args.lines.now c.loop-place.place (c.loop-place.place + 1) c.in-Some.text.now c.loop-place.read c.take.new.self c.in_ok-take.field-0
    (omega (arith, c.loop-place-test.true, c.rule_len-place-end.ensures)) (sym c.in-Some.ensures) c.loop-place.invariant refl
    (λ rest. c.in_ok-take.ensures rest) c.if-not-branch.false

pub returns : goal.returns
returns c =
    ends c.args.lines.now c.loop-place.place c.loop-place.read (omega (arith, c.loop-place-test.false, c.rule_len-place-end.ensures)) c.loop-place.invariant
