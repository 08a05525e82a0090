use Rattle.gsmp_switch.proofs.switch.Switch.greet.Goals as goal

pub returns-clause-acted : goal.returns-clause-acted
returns-clause-acted c = rw (← c.self.view_is) (rw (c.receive-answer.ensures.side, c.receive-answer.ensures.answer) at c.follow.ensures.acted)
