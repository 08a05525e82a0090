use Rattle.std.proofs.Common.{subst}
use Rattle.law_join_facts.specs.Joins.{HaveNumbers}
use Rattle.controller_router.specs.Node as node
use Rattle.controller_joining.specs.Joining.{Joining, controller_of}
use Rattle.controller_joining.proofs.Kept.{have_numbers}
use Rattle.controller_joining.proofs.joining.JoiningRouter.stands.Goals as goal

pub returns-clause-numbers : goal.returns-clause-numbers
returns-clause-numbers g c =
    let seen = g.E.PortEngine.seen in
    subst (λ (j : Joining _). HaveNumbers (controller_of seen j)) c.self.view_is
    (have_numbers (node.controller_of seen c.self.inside.router) (node.ports_in seen c.self.inside.router) c.ports-linked.ensures.linked c.ports-linked.ensures.are)
