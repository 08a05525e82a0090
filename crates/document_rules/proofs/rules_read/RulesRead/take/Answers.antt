use Rattle.std.proofs.Common.{true, false}
use Rattle.rule_model.specs.Lines.{RuleLines}
use Rattle.rule_model.specs.Reading.{rule_says}
use Rattle.document_rules.proofs.Steps.{rule_taken, blank_taken, line_refused, told_as, told_err, size_blank, size_refused, numbered_more, numbered_same}
use Rattle.document_rules.proofs.rules_read.RulesRead.take.Goals as goal

pub invariant_of-self-in-Ok-true : goal.invariant_of-self-in-Ok-true
invariant_of-self-in-Ok-true c =
    let said = rule_says c.self.inside.rules c.args.text.now in
    numbered_more c.self.inside.rules said c.line.new.self c.self.inside.numbers.items c.reserve.new.self.items c.push_reserved.new.self.items c.args.number
    (told_as c.self.inside.rules said c.line.new.self c.line.result c.in-Ok-true.field-0 true c.in-Ok-true.is c.in-Ok-true.field-0-test c.line.ensures)
    c.self.invariant c.reserve.ensures.items c.push_reserved.ensures.items

pub invariant_of-self-in-Ok-false : goal.invariant_of-self-in-Ok-false
invariant_of-self-in-Ok-false c =
    let said = rule_says c.self.inside.rules c.args.text.now in
    numbered_same c.self.inside.rules c.line.new.self c.self.inside.numbers.items c.reserve.new.self.items
    (size_blank c.self.inside.rules said c.line.new.self
    (told_as c.self.inside.rules said c.line.new.self c.line.result c.in-Ok-false.field-0 false c.in-Ok-false.is c.in-Ok-false.field-0-test c.line.ensures))
    c.self.invariant c.reserve.ensures.items

pub invariant_of-self-in-Err : goal.invariant_of-self-in-Err
invariant_of-self-in-Err c =
    let said = rule_says c.self.inside.rules c.args.text.now in
    numbered_same c.self.inside.rules c.line.new.self c.self.inside.numbers.items c.reserve.new.self.items
    (size_refused c.self.inside.rules said c.line.new.self c.in-Err.name
    (told_err c.self.inside.rules said c.line.new.self c.line.result c.in-Err.name c.in-Err.is c.line.ensures))
    c.self.invariant c.reserve.ensures.items

pub returns-in-Ok-true : goal.returns-in-Ok-true
returns-in-Ok-true c =
    let said = rule_says c.self.inside.rules c.args.text.now in
    let old : RuleLines = record { rules = c.self.inside.rules; numbers = c.self.inside.numbers.items; refused = c.self.inside.refused } in
    λ rest. rw (← c.self.view_is, c.push_reserved.ensures.items, c.reserve.ensures.items)
    (rule_taken old c.args.number c.args.text.now c.line.new.self
    (told_as c.self.inside.rules said c.line.new.self c.line.result c.in-Ok-true.field-0 true c.in-Ok-true.is c.in-Ok-true.field-0-test c.line.ensures) rest)

pub returns-in-Ok-false : goal.returns-in-Ok-false
returns-in-Ok-false c =
    let said = rule_says c.self.inside.rules c.args.text.now in
    let old : RuleLines = record { rules = c.self.inside.rules; numbers = c.self.inside.numbers.items; refused = c.self.inside.refused } in
    λ rest. rw (← c.self.view_is, c.reserve.ensures.items)
    (blank_taken old c.args.number c.args.text.now c.line.new.self
    (told_as c.self.inside.rules said c.line.new.self c.line.result c.in-Ok-false.field-0 false c.in-Ok-false.is c.in-Ok-false.field-0-test c.line.ensures) rest)

pub returns-in-Err : goal.returns-in-Err
returns-in-Err c =
    let said = rule_says c.self.inside.rules c.args.text.now in
    let old : RuleLines = record { rules = c.self.inside.rules; numbers = c.self.inside.numbers.items; refused = c.self.inside.refused } in
    λ rest. rw (← c.self.view_is, c.reserve.ensures.items)
    (line_refused old c.args.number c.args.text.now c.line.new.self c.in-Err.name
    (told_err c.self.inside.rules said c.line.new.self c.line.result c.in-Err.name c.in-Err.is c.line.ensures) rest)
