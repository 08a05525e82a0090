use Rattle.port_saying.proofs.saying.say.Goals as goal

pub returns-clause-quiet : goal.returns-clause-quiet
returns-clause-quiet g c = λ o d h. c.close.ensures.quiet o d (c.in_ok-tell.ensures.quiet o d h)
