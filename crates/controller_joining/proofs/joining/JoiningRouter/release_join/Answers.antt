use Rattle.std.proofs.Common.{Option, IsSome, ap, sym, subst, refl, filter, ◌∙◌}
use Rattle.controller_joins.specs.world_model.Controller.{Acted, Linked}
use Rattle.controller_joins.specs.world_model.Joins.{parts}
use Rattle.law_join_facts.specs.Joins.{joined_in}
use Rattle.law_join_facts.proofs.Comes.{is_other, kept_apart}
use Rattle.controller_router.specs.Node as node
use Rattle.controller_joining.specs.Joining.{Joining, acted}
use Rattle.controller_joining.proofs.Kept.{ok_joined, ok_onward}
use Rattle.controller_joining.proofs.Released.{back_is, joined_after, known, label_ok, released_ok, there, work_ok}
use Rattle.controller_joining.proofs.joining.JoiningRouter.release_join.Goals as goal

pub part-requires : goal.part-requires
part-requires g c =
    let a = acted g.E.PortEngine.seen c.args.self.now c.args.notes.now c.args.numbers.now in
    label_ok a c.args.joined.now (known a c.args.joined.now c.args.self.now.joins c.requires.joined c.requires.found c.requires.can)

pub give_back-requires-clause-linked : goal.give_back-requires-clause-linked
give_back-requires-clause-linked g c =
    let seen = g.E.PortEngine.seen in
    let a = acted seen c.args.self.now c.args.notes.now c.args.numbers.now in
    let b = node.acted seen c.part.new.self c.part.new.notes c.args.numbers.now in
    let r = known a c.args.joined.now c.args.self.now.joins c.requires.joined c.requires.found c.requires.can in
    let is = c.in_ok-part.ensures.acted c.args.numbers.now ∙ ap (λ (j : Joining _). parts (acted seen j c.args.notes.now c.args.numbers.now) c.args.joined.now.input) c.self.view_is in
    subst (λ (o : Option Linked). IsSome o) (sym (there a b c.args.joined.now r is).found) refl

pub give_back-requires-clause-released : goal.give_back-requires-clause-released
give_back-requires-clause-released g c =
    let seen = g.E.PortEngine.seen in
    let a = acted seen c.args.self.now c.args.notes.now c.args.numbers.now in
    let b = node.acted seen c.part.new.self c.part.new.notes c.args.numbers.now in
    let r = known a c.args.joined.now c.args.self.now.joins c.requires.joined c.requires.found c.requires.can in
    let is = c.in_ok-part.ensures.acted c.args.numbers.now ∙ ap (λ (j : Joining _). parts (acted seen j c.args.notes.now c.args.numbers.now) c.args.joined.now.input) c.self.view_is in
    released_ok a b c.args.joined.now c.args.done.now.request r is c.requires.leads

pub give_back-requires-clause-can : goal.give_back-requires-clause-can
give_back-requires-clause-can g c =
    let seen = g.E.PortEngine.seen in
    let a = acted seen c.args.self.now c.args.notes.now c.args.numbers.now in
    let b = node.acted seen c.part.new.self c.part.new.notes c.args.numbers.now in
    let r = known a c.args.joined.now c.args.self.now.joins c.requires.joined c.requires.found c.requires.can in
    let is = c.in_ok-part.ensures.acted c.args.numbers.now ∙ ap (λ (j : Joining _). parts (acted seen j c.args.notes.now c.args.numbers.now) c.args.joined.now.input) c.self.view_is in
    work_ok a b c.args.joined.now r is

pub returns-clause-acted : goal.returns-clause-acted
returns-clause-acted g c =
    let seen = g.E.PortEngine.seen in
    let a = acted seen c.args.self.now c.args.notes.now c.args.numbers.now in
    let b = node.acted seen c.part.new.self c.part.new.notes c.args.numbers.now in
    let r = known a c.args.joined.now c.args.self.now.joins c.requires.joined c.requires.found c.requires.can in
    let is = c.in_ok-part.ensures.acted c.args.numbers.now ∙ ap (λ (j : Joining _). parts (acted seen j c.args.notes.now c.args.numbers.now) c.args.joined.now.input) c.self.view_is in
    let s = there a b c.args.joined.now r is in
    ok_onward c.give_back.result _ _ _ (back_is a b c.args.joined.now r is) (c.give_back.ensures.acted s.linked r.join.grant s.found s.granted)

pub returns-clause-joined : goal.returns-clause-joined
returns-clause-joined g c =
    let seen = g.E.PortEngine.seen in
    let a = acted seen c.args.self.now c.args.notes.now c.args.numbers.now in
    let b = node.acted seen c.part.new.self c.part.new.notes c.args.numbers.now in
    let r = known a c.args.joined.now c.args.self.now.joins c.requires.joined c.requires.found c.requires.can in
    let is = c.in_ok-part.ensures.acted c.args.numbers.now ∙ ap (λ (j : Joining _). parts (acted seen j c.args.notes.now c.args.numbers.now) c.args.joined.now.input) c.self.view_is in
    let s = there a b c.args.joined.now r is in
    let after = joined_after a c.args.joined.now c.args.self.now.joins r c.requires.joined (kept_apart c.args.self.now.joins c.requires.order) in
    let ended = c.end.ensures ∙ ap (λ (j : Joining _). filter (is_other c.args.joined.now.input) j.joins) c.self.view_is in
    ok_joined c.give_back.result _ _ _ (ap (λ (x : Acted). joined_in x.controller) (back_is a b c.args.joined.now r is) ∙ after ∙ sym ended) (c.give_back.ensures.acted s.linked r.join.grant s.found s.granted)
