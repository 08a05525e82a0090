use Rattle.std.proofs.Common.{ap, subst, sym, ◌∙◌}
use Rattle.controller_joins.specs.world_model.Controller.{Controller}
use Rattle.law_join_facts.specs.Joins.{joined_in}
use Rattle.controller_joining.specs.Joining.{AreJoined}
use Rattle.controller_joining.proofs.joining.JoiningRouter.pop.Goals as goal

pub returns-clause-joined : goal.returns-clause-joined
returns-clause-joined g c = λ before.
    ap (λ (x : Controller). joined_in x) c.pop.ensures.popped ∙ subst (AreJoined g.E.PortEngine.seen) (sym c.self.view_is) before
