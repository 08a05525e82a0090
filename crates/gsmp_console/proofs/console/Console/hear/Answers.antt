use Rattle.gsmp_console.proofs.console.Console.hear.Goals as goal

pub returns-clause-answer : goal.returns-clause-answer
returns-clause-answer c = rw (← c.self.view_is) c.receive.ensures.answer
