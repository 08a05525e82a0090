use Rattle.std.proofs.Common.{refl}
use Rattle.gsmp_adjacency.proofs.adjacency.Adjacency.receive.Goals as goal

pub returns-clause-answer : goal.returns-clause-answer
returns-clause-answer c = rw (c.answer_with.ensures, c.receive.ensures.answer, c.self.view_is) refl
