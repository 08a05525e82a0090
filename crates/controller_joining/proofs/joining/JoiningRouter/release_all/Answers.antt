use Rattle.std.proofs.Common.{find, ap, sym, subst, ◌∙◌}
use Rattle.controller_joins.specs.Joined.{AreInOrder}
use Rattle.law_join_facts.proofs.Comes.{kept_apart}
use Rattle.law_join_facts.proofs.Releases.{on_port}
use Rattle.controller_joining.specs.Joining.{Joining, acted}
use Rattle.controller_joining.proofs.Released.{all_released, first_can, found_for, leads_on, stepped}
use Rattle.controller_joining.proofs.joining.JoiningRouter.release_all.Goals as goal

pub release_join-requires-clause-found : goal.release_join-requires-clause-found
release_join-requires-clause-found g c =
    let seen = g.E.PortEngine.seen in
    let j = c.loop-joined.self in
    let a = acted seen j c.loop-joined.notes c.loop-joined.numbers in
    let is = c.self.view_is in
    let found = ap (λ (x : Joining _). find (on_port c.args.port) x.joins) (sym is) ∙ sym c.in-Some.ensures.found in
    let apart = kept_apart j.joins (subst (λ (x : Joining _). AreInOrder x.joins) is c.in-Some.ensures.order) in
    found_for (on_port c.args.port) j.joins c.in-Some.joined apart found

pub release_join-requires-clause-leads : goal.release_join-requires-clause-leads
release_join-requires-clause-leads g c =
    let seen = g.E.PortEngine.seen in
    let j = c.loop-joined.self in
    let a = acted seen j c.loop-joined.notes c.loop-joined.numbers in
    let is = c.self.view_is in
    let found = ap (λ (x : Joining _). find (on_port c.args.port) x.joins) (sym is) ∙ sym c.in-Some.ensures.found in
    let apart = kept_apart j.joins (subst (λ (x : Joining _). AreInOrder x.joins) is c.in-Some.ensures.order) in
    leads_on c.args.port j.joins c.in-Some.joined c.args.done.now.request c.requires.request apart found

pub release_join-requires-clause-can : goal.release_join-requires-clause-can
release_join-requires-clause-can g c =
    let seen = g.E.PortEngine.seen in
    let j = c.loop-joined.self in
    let a = acted seen j c.loop-joined.notes c.loop-joined.numbers in
    let is = c.self.view_is in
    let found = ap (λ (x : Joining _). find (on_port c.args.port) x.joins) (sym is) ∙ sym c.in-Some.ensures.found in
    let apart = kept_apart j.joins (subst (λ (x : Joining _). AreInOrder x.joins) is c.in-Some.ensures.order) in
    first_can a c.args.done.now.request c.args.port j.joins c.in-Some.joined c.requires.request c.loop-joined.invariant.joined apart found c.loop-joined.invariant.can

pub loop-joined-smaller : goal.loop-joined-smaller
loop-joined-smaller g c =
    let seen = g.E.PortEngine.seen in
    let j = c.loop-joined.self in
    let a = acted seen j c.loop-joined.notes c.loop-joined.numbers in
    let is = c.self.view_is in
    let found = ap (λ (x : Joining _). find (on_port c.args.port) x.joins) (sym is) ∙ sym c.in-Some.ensures.found in
    let apart = kept_apart j.joins (subst (λ (x : Joining _). AreInOrder x.joins) is c.in-Some.ensures.order) in
    let s = stepped a (acted seen c.release_join.new.self c.release_join.new.notes c.release_join.new.numbers) c.args.done.now.request c.args.port j.joins c.release_join.new.self.joins c.in-Some.joined c.requires.request c.loop-joined.invariant.joined c.in_ok-release_join.ensures.joined apart found c.loop-joined.invariant.can c.in_ok-release_join.ensures.acted in
    s.fewer

pub loop-joined-preserved : goal.loop-joined-preserved
loop-joined-preserved g c =
    let seen = g.E.PortEngine.seen in
    let j = c.loop-joined.self in
    let a = acted seen j c.loop-joined.notes c.loop-joined.numbers in
    let is = c.self.view_is in
    let found = ap (λ (x : Joining _). find (on_port c.args.port) x.joins) (sym is) ∙ sym c.in-Some.ensures.found in
    let apart = kept_apart j.joins (subst (λ (x : Joining _). AreInOrder x.joins) is c.in-Some.ensures.order) in
    let s = stepped a (acted seen c.release_join.new.self c.release_join.new.notes c.release_join.new.numbers) c.args.done.now.request c.args.port j.joins c.release_join.new.self.joins c.in-Some.joined c.requires.request c.loop-joined.invariant.joined c.in_ok-release_join.ensures.joined apart found c.loop-joined.invariant.can c.in_ok-release_join.ensures.acted in
    record { joined = c.in_ok-release_join.ensures.joined; can = s.can; acted = s.acted ∙ c.loop-joined.invariant.acted }

pub returns-clause-acted : goal.returns-clause-acted
returns-clause-acted g c =
    let seen = g.E.PortEngine.seen in
    let j = c.loop-joined.self in
    let a = acted seen j c.loop-joined.notes c.loop-joined.numbers in
    let is = c.self.view_is in
    let none = ap (λ (x : Joining _). find (on_port c.args.port) x.joins) (sym is) ∙ sym c.in_default.ensures.found in
    all_released a c.args.done.now.request c.args.port j.joins c.requires.request c.loop-joined.invariant.joined none ∙ c.loop-joined.invariant.acted
