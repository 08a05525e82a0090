use Rattle.std.proofs.Common.{fold, ap, sym, subst, ◌∙◌}
use Rattle.adjacency_table.specs.Side.{is_estab}
use Rattle.law_join_facts.proofs.Lasts.{Lasts}
use Rattle.controller_router.specs.Node as node
use Rattle.controller_router.specs.Node.{Node}
use Rattle.controller_joining.specs.Joining.{Joining, acted, controller_of}
use Rattle.controller_joining.proofs.Kept.{settled_by}
use Rattle.controller_joins.specs.world_model.Controller.{ports_of}
use Rattle.controller_joins.specs.world_model.Joins.{resets_spent}
use Rattle.law_join_facts.proofs.Spent.{all_spent_last}
use Rattle.controller_joining.proofs.joining.JoiningRouter.release.Goals as goal

pub returns-clause-joined : goal.returns-clause-joined
returns-clause-joined g c =
    let seen = g.E.PortEngine.seen in
    let a = acted seen c.release_led_home.new.self c.release_led_home.new.notes c.release_led_home.new.numbers in
    let b = acted seen c.settle.new.self c.reset_all_spent.new.notes c.reset_all_spent.new.numbers in
    let e = ap (λ (n : Node _). node.acted seen n c.reset_all_spent.new.notes c.reset_all_spent.new.numbers) c.settle.ensures.router ∙ c.in_ok-reset_all_spent.ensures.acted ∙ ap (λ (j : Joining _). fold resets_spent (acted seen j c.release_led_home.new.notes c.release_led_home.new.numbers) (ports_of (controller_of seen j))) c.self.view_is in
    let lasts = subst (Lasts a) (sym e) (all_spent_last (ports_of a.controller) a c.stands-stood.ensures.numbers) in
    settled_by a b c.release_led_home.new.self.joins c.self.inside.joins c.settle.new.self.joins c.stands-stood.result (is_estab c.reset_all_spent.new.self.client.adjacency.state) lasts c.in_ok-release_led_home.ensures.joined (c.stands-stood.ensures.estab)
    (ap (λ (n : Node _). is_estab n.client.adjacency.state) (sym c.settle.ensures.router)) (ap (λ (j : Joining _). j.joins) c.self.view_is) c.settle.ensures.joins
