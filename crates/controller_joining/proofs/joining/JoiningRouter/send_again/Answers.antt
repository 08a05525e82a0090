use Rattle.std.proofs.Common.{ap, sym, ◌∙◌}
use Rattle.controller_joins.specs.world_model.Ticks.{sends_again}
use Rattle.law_join_facts.proofs.Spent.{again_stays}
use Rattle.controller_joining.specs.Joining.{Joining, acted}
use Rattle.controller_joining.proofs.Kept.{ok_joined, ok_onward, stayed}
use Rattle.controller_joining.proofs.joining.JoiningRouter.send_again.Goals as goal

pub returns-clause-joined : goal.returns-clause-joined
returns-clause-joined g c =
    let seen = g.E.PortEngine.seen in
    let a = acted seen c.args.self.now c.args.notes.now c.args.numbers.now in
    let joined = c.requires.joined ∙ ap (λ (j : Joining _). j.joins) (sym c.self.view_is) in
    ok_joined c.send_again.result _ (sends_again a) c.self.inside.joins (stayed a (sends_again a) c.self.inside.joins (again_stays a) joined)
    (ok_onward c.send_again.result _ _ _ (ap (λ (j : Joining _). sends_again (acted seen j c.args.notes.now c.args.numbers.now)) c.self.view_is) c.send_again.ensures.acted)
