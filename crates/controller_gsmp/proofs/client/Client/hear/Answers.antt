use Rattle.controller_gsmp.proofs.client.Client.hear.Goals as goal

pub returns-clause-answer : goal.returns-clause-answer
returns-clause-answer c = rw (← c.self.view_is) c.receive.ensures.answer
