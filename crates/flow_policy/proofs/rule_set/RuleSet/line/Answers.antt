use Rattle.std.proofs.Common.{◌∷◌, [], ◌≡◌, ◌∙◌, sym, length-append, arith}
use Rattle.ordered_lists.proofs.Every.{every_join}
use Rattle.rule_model.specs.Covering.{IsRule}
use Rattle.flow_policy.proofs.Said.{line_said}
use Rattle.flow_policy.proofs.rule_set.RuleSet.line.Goals as goal

pub invariant_of-self : goal.invariant_of-self
invariant_of-self c = record {
  few = rw c.push_reserved.ensures.items (omega (arith, length-append c.self.inside.rules.items (c.in-Some.rule ∷ []), c.if-len-ge-RULES.false, c.len.ensures));
  room = rw c.push_reserved.ensures.capacity c.self.invariant.room;
  rules = rw c.push_reserved.ensures.items
      (every_join IsRule c.self.inside.rules.items (c.in-Some.rule ∷ []) c.self.invariant.rules
      (line_said c.args.line.now c.read_rule.result c.in_ok-rule.field-0 c.in-Some.rule c.read_rule.ensures c.in_ok-rule.was c.in-Some.is, tt));
}
