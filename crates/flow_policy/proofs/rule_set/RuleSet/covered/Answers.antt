use Rattle.std.proofs.Common.{arith, sym}
use Rattle.std.proofs.lemmas.Grind.{common_steps}
use Rattle.flow_policy.proofs.Covered.{rule_at, covered_by, cover_told}
use Rattle.flow_policy.proofs.rule_set.RuleSet.covered.Goals as goal

pub returns-clause-covered : goal.returns-clause-covered
returns-clause-covered c =
    covered_by c.args.self.now c.args.n c.index-rule.result.now c.first_covering.result
    (rule_at c.args.self.now c.self.inside.rules.items c.args.n c.index-rule.result.now (sym c.self.view_is) c.requires c.index-rule.ensures)
    (grind (arith, common_steps, c.first_covering.ensures, c.self.view_is))

pub returns-clause-flows : goal.returns-clause-flows
returns-clause-flows c =
    cover_told c.args.self.now c.args.n c.first_covering.result (rw (← c.self.view_is) c.self.invariant.rules) c.requires
    (covered_by c.args.self.now c.args.n c.index-rule.result.now c.first_covering.result
    (rule_at c.args.self.now c.self.inside.rules.items c.args.n c.index-rule.result.now (sym c.self.view_is) c.requires c.index-rule.ensures)
    (grind (arith, common_steps, c.first_covering.ensures, c.self.view_is)))
