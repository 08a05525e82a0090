use Rattle.std.proofs.Common.{sym}
use Rattle.flow_policy.proofs.Covered.{rule_at, none_covers, some_apart}
use Rattle.flow_policy.proofs.rule_set.RuleSet.apart.Goals as goal

pub returns-clause-covers : goal.returns-clause-covers
returns-clause-covers c =
    none_covers c.args.self.now c.args.m c.args.n c.index.result.now c.index-2.result.now c.apart.result (rw (← c.self.view_is) c.self.invariant.rules)
    (rule_at c.args.self.now c.self.inside.rules.items c.args.m c.index.result.now (sym c.self.view_is) c.requires.m_in c.index.ensures)
    (rule_at c.args.self.now c.self.inside.rules.items c.args.n c.index-2.result.now (sym c.self.view_is) c.requires.n_in c.index-2.ensures)
    c.apart.ensures.none c.apart.ensures.some

pub returns-clause-flow : goal.returns-clause-flow
returns-clause-flow c =
    some_apart c.args.self.now c.args.m c.args.n c.index.result.now c.index-2.result.now c.apart.result (rw (← c.self.view_is) c.self.invariant.rules)
    (rule_at c.args.self.now c.self.inside.rules.items c.args.m c.index.result.now (sym c.self.view_is) c.requires.m_in c.index.ensures)
    (rule_at c.args.self.now c.self.inside.rules.items c.args.n c.index-2.result.now (sym c.self.view_is) c.requires.n_in c.index-2.ensures)
    c.apart.ensures.in_range c.apart.ensures.there c.apart.ensures.here
