use Rattle.std.proofs.Common.{fold, ap, sym, ◌∙◌}
use Rattle.std.proofs.lemmas.Result.{on_ok_weaker}
use Rattle.keyed_lists.specs.Keyed.{in_order}
use Rattle.controller_joins.specs.world_model.Controller.{Acted}
use Rattle.controller_joins.specs.world_model.Resets.{cuts_default, cuts_gsmp}
use Rattle.law_join_facts.proofs.Comes.{le}
use Rattle.law_join_facts.proofs.Flat.{joined_is}
use Rattle.law_join_facts.proofs.Lasts.{joined_to}
use Rattle.law_join_facts.proofs.Spent.{cuts_stay}
use Rattle.controller_router.specs.Node as node
use Rattle.controller_joining.specs.Joining.{Joining, acted}
use Rattle.controller_joining.proofs.joining.JoiningRouter.restart_node.Goals as goal

pub returns-clause-acted : goal.returns-clause-acted
returns-clause-acted g c =
    let seen = g.E.PortEngine.seen in
    let given = c.reset_node.new.numbers in
    let cuts = λ (j : Joining _). fold cuts_default (cuts_gsmp (acted seen j c.reset_node.new.notes given)) (node.ports_in seen j.router) in
    let e = c.in_ok-reset_node.ensures.acted in
    let ports = c.reset_node.ensures.ports in
    on_ok_weaker c.cut_others.result (λ cut. cut ∙ ap cuts c.self.view_is ∙ (λ i. fold cuts_default (cuts_gsmp (e i)) (ports i))) (c.cut_others.ensures.acted given)

pub returns-clause-joined : goal.returns-clause-joined
returns-clause-joined g c =
    let seen = g.E.PortEngine.seen in
    let given = c.reset_node.new.numbers in
    let cuts = λ (j : Joining _). fold cuts_default (cuts_gsmp (acted seen j c.reset_node.new.notes given)) (node.ports_in seen j.router) in
    let a = acted seen c.reset_node.new.self c.reset_node.new.notes given in
    let b = node.acted seen c.cut_others.new.self c.cut_others.new.notes given in
    on_ok_weaker c.cut_others.result
    (λ cut. joined_is b.controller ∙ ap (in_order le) (ap (λ (x : Acted). joined_to x) (cut ∙ ap cuts c.self.view_is) ∙ (cuts_stay (node.ports_in seen c.reset_node.new.self.router) a).steady.joined)
    ∙ sym (joined_is a.controller) ∙ c.in_ok-reset_node.ensures.joined ∙ sym (ap (λ (j : Joining _). j.joins) c.self.view_is))
    (c.cut_others.ensures.acted given)
