use Rattle.std.proofs.Common.{ap, ◌∙◌}
use Rattle.adjacency_table.specs.Greeting.{gsmp_answer, gsmp_received}
use Rattle.controller_router.specs.Node.{Node}
use Rattle.controller_router.proofs.router.Router.take_greeting.Goals as goal

pub returns-clause-answer : goal.returns-clause-answer
returns-clause-answer g c = c.hear.ensures.answer ∙ ap (λ (n : Node _). gsmp_answer (gsmp_received n.client.adjacency c.args.greeting.now).answer) c.self.view_is
