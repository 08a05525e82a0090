use Rattle.std.proofs.Common.{suc, drop, length, refl, ap, sym, subst, ◌∙◌}
use Rattle.std.specs.Prelude.{slice_get}
use Rattle.adjacency_table.specs.Side.{is_estab}
use Rattle.controller_joins.specs.world_model.Joins.{joins_of}
use Rattle.law_join_facts.proofs.Changing.{past}
use Rattle.controller_joining.specs.Joining.{Joining, acted}
use Rattle.controller_joining.proofs.Changes.{Taking, at_grant, at_joined, back_can_if, closed_ends, drop_next, grant_on_same, none_left, same_here, takes_or_skips, taking_begins}
use Rattle.controller_joining.proofs.joining.JoiningRouter.take_joins_back.Goals as goal

pub returns-then-not-is_estab-clause-acted : goal.returns-then-not-is_estab-clause-acted
returns-then-not-is_estab-clause-acted g c =
    let seen = g.E.PortEngine.seen in
    let a = acted seen c.args.self.now c.args.notes.now c.args.numbers.now in
    let b = acted seen c.loop-place.self c.loop-place.notes c.loop-place.numbers in
    let closed = ap (λ (j : Joining _). is_estab j.router.client.adjacency.state) (sym c.self-in-loop-place.view_is) ∙ ap (λ x. is_estab x.adjacency.state) (sym c.client.ensures) ∙ sym c.is_estab.ensures ∙ c.if-not-is_estab.true in
    closed_ends a b c.args.change.now (drop c.loop-place.place (joins_of a.controller)) closed c.loop-place.invariant.taking

pub returns-in_default-clause-acted : goal.returns-in_default-clause-acted
returns-in_default-clause-acted g c =
    let seen = g.E.PortEngine.seen in
    let a = acted seen c.args.self.now c.args.notes.now c.args.numbers.now in
    let b = acted seen c.loop-place.self c.loop-place.notes c.loop-place.numbers in
    let none = ap (λ js. slice_get js c.loop-place.place) (c.requires.joined ∙ sym c.loop-place.invariant.joins ∙ ap (λ (j : Joining _). j.joins) (sym c.self-in-loop-place.view_is)) ∙ sym c.in_default.ensures in
    none_left a b c.args.change.now (drop c.loop-place.place (joins_of a.controller)) (past (joins_of a.controller) c.loop-place.place none) c.loop-place.invariant.taking

pub take_join_back-requires : goal.take_join_back-requires
take_join_back-requires g c =
    let seen = g.E.PortEngine.seen in
    let k = c.args.self.now in
    let a = acted seen k c.args.notes.now c.args.numbers.now in
    let b = acted seen c.loop-place.self c.loop-place.notes c.loop-place.numbers in
    let at = at_joined a.controller k.joins c.loop-place.place c.in-Some.joined c.requires.joined (c.in-Some.ensures ∙ ap (λ js. slice_get js c.loop-place.place) (ap (λ (j : Joining _). j.joins) c.self-in-loop-place.view_is ∙ c.loop-place.invariant.joins)) in
    let estab = ap (λ (j : Joining _). is_estab j.router.client.adjacency.state) (sym c.self-in-loop-place.view_is) ∙ ap (λ x. is_estab x.adjacency.state) (sym c.client.ensures) ∙ sym c.is_estab.ensures ∙ c.if-not-is_estab.false in
    let same = same_here a b estab c.loop-place.invariant.taking.asked in
    let grant = grant_on_same a.controller b.controller at.join same.ports (at_grant a.controller c.loop-place.place c.in-Some.joined at c.requires.grants) in
    (at.join, at.is, grant, back_can_if a b c.args.change.now (drop c.loop-place.place (joins_of a.controller)) at.join (drop (suc c.loop-place.place) (joins_of a.controller)) at.rest c.loop-place.invariant.taking)

pub loop-place-preserved : goal.loop-place-preserved
loop-place-preserved g c =
    let seen = g.E.PortEngine.seen in
    let k = c.args.self.now in
    let a = acted seen k c.args.notes.now c.args.numbers.now in
    let b = acted seen c.loop-place.self c.loop-place.notes c.loop-place.numbers in
    let d = acted seen c.take_join_back.new.self c.take_join_back.new.notes c.take_join_back.new.numbers in
    let at = at_joined a.controller k.joins c.loop-place.place c.in-Some.joined c.requires.joined (c.in-Some.ensures ∙ ap (λ js. slice_get js c.loop-place.place) (ap (λ (j : Joining _). j.joins) c.self-in-loop-place.view_is ∙ c.loop-place.invariant.joins)) in
    let estab = ap (λ (j : Joining _). is_estab j.router.client.adjacency.state) (sym c.self-in-loop-place.view_is) ∙ ap (λ x. is_estab x.adjacency.state) (sym c.client.ensures) ∙ sym c.is_estab.ensures ∙ c.if-not-is_estab.false in
    let same = same_here a b estab c.loop-place.invariant.taking.asked in
    let grant = grant_on_same a.controller b.controller at.join same.ports (at_grant a.controller c.loop-place.place c.in-Some.joined at c.requires.grants) in
    let e = c.in_ok-take_join_back.ensures.acted at.join at.is grant in
    let t = takes_or_skips a b d c.args.change.now (drop c.loop-place.place (joins_of a.controller)) at.join (drop (suc c.loop-place.place) (joins_of a.controller)) at.rest same e c.loop-place.invariant.taking in
    record {
      end = c.loop-place.invariant.end;
      joins = c.take_join_back.ensures.joins ∙ c.loop-place.invariant.joins;
      taking = subst (Taking a d c.args.change.now) (sym (drop_next (joins_of a.controller) c.loop-place.place)) t;
    }

pub loop-place-init : goal.loop-place-init
loop-place-init g c =
    let a = acted g.E.PortEngine.seen c.args.self.now c.args.notes.now c.args.numbers.now in
    record { end = c.len-place-end.ensures ∙ ap (λ (j : Joining _). length j.joins) c.self.view_is; joins = refl; taking = taking_begins a c.args.change.now c.requires.numbers c.requires.can }
