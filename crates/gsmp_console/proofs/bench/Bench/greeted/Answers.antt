use Rattle.gsmp_console.proofs.bench.Bench.greeted.Goals as goal

pub returns-clause-heard : goal.returns-clause-heard
returns-clause-heard c = rw (← c.self.view_is) (rw (c.hear-answer.ensures.side, c.hear-answer.ensures.answer) at c.follow.ensures.followed)
