use Rattle.std.proofs.Common.{◌≡◌, sym, subst, ◌∙◌, Result}
use Rattle.std.specs.Prelude.{OnOk}
use Rattle.std.proofs.lemmas.Result.{on_ok_weaker}
use Rattle.adjacency_table.specs.Greeting.{gsmp_answer, gsmp_received}
use Rattle.world_model.specs.Gsmp.{answers, steps}
use Rattle.controller_router.specs.Conditions.{CanFollow, turned_to}
use Rattle.controller_router.specs.Node.{Node, acted}
use Rattle.controller_router.proofs.router.Router.hear_greeting.Goals as goal

pub follow-requires : goal.follow-requires
follow-requires g c =
    let seen = g.E.PortEngine.seen in
    let n0 : Node _ = record { node = c.self.inside.node; address = c.self.inside.address; routes = c.self.inside.routes; links = c.self.inside.links.items; client = c.self.inside.client } in
    let can = subst (λ n. CanFollow (turned_to (acted seen n c.args.notes.now c.args.numbers.now) (gsmp_received n.client.adjacency c.args.greeting.now)) (gsmp_answer (gsmp_received n.client.adjacency c.args.greeting.now).answer)) (sym c.self.view_is) c.requires in
    let told = subst (λ answer. CanFollow (turned_to (acted seen n0 c.args.notes.now c.args.numbers.now) (gsmp_received n0.client.adjacency c.args.greeting.now)) answer) (sym c.hear-answer.ensures.answer) can in
    subst (λ x. CanFollow (acted seen (record n0 { client = x }) c.args.notes.now c.args.numbers.now) c.hear-answer.result) (sym c.hear-answer.ensures.side) told

on_ok_to : {T E A : Type 0} (r : Result T E) (x y z : A) → OnOk r (x ≡ y) → y ≡ z → OnOk r (x ≡ z)
on_ok_to r x y z h e = on_ok_weaker r (λ f. f ∙ e) h

pub returns-clause-acted : goal.returns-clause-acted
returns-clause-acted g c =
    let seen = g.E.PortEngine.seen in
    let n0 : Node _ = record { node = c.self.inside.node; address = c.self.inside.address; routes = c.self.inside.routes; links = c.self.inside.links.items; client = c.self.inside.client } in
    subst (λ n. OnOk c.follow.result (acted seen c.follow.new.self c.follow.new.notes c.follow.new.numbers ≡ steps (acted seen n c.args.notes.now c.args.numbers.now) (gsmp_received n.client.adjacency c.args.greeting.now))) c.self.view_is
    (on_ok_to c.follow.result _ _ _ c.follow.ensures.acted (λ i. answers (acted seen (record n0 { client = c.hear-answer.ensures.side i }) c.args.notes.now c.args.numbers.now) (c.hear-answer.ensures.answer i)))
