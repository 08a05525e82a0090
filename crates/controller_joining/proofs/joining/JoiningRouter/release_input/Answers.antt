use Rattle.std.proofs.Common.{◌≡◌, true, find, Some, ap, sym, subst, ◌∙◌}
use Rattle.net_types.specs.declared.channel.End.{End}
use Rattle.port_model.specs.Requests.{leads_home}
use Rattle.port_model.specs.Setup.{home_of}
use Rattle.controller_joins.specs.world_model.Joins.{releases_input}
use Rattle.law_join_facts.proofs.Comes.{is_for}
use Rattle.controller_joining.specs.Conditions.{CanReleaseInput}
use Rattle.controller_joining.specs.Joining.{Joining, acted}
use Rattle.controller_joining.proofs.Kept.{ok_onward}
use Rattle.controller_joining.proofs.Released.{found_own, unjoined}
use Rattle.controller_joining.proofs.joining.JoiningRouter.release_input.Goals as goal

pub release_join-requires-clause-found : goal.release_join-requires-clause-found
release_join-requires-clause-found g c =
    let found = ap (λ (j : Joining _). find (is_for c.args.input) j.joins) (sym c.self.view_is) ∙ sym c.in-Some.ensures.found in
    let own = found_own c.args.self.now.joins c.args.input c.in-Some.joined found in
    subst (λ (e : End). find (is_for e) c.args.self.now.joins ≡ Some c.in-Some.joined) (sym own) found

pub release_join-requires-clause-leads : goal.release_join-requires-clause-leads
release_join-requires-clause-leads g c =
    let found = ap (λ (j : Joining _). find (is_for c.args.input) j.joins) (sym c.self.view_is) ∙ sym c.in-Some.ensures.found in
    let own = found_own c.args.self.now.joins c.args.input c.in-Some.joined found in
    subst (λ (e : End). leads_home e (home_of e) c.args.done.now.request ≡ true) (sym own) c.requires.leads

pub release_join-requires-clause-can : goal.release_join-requires-clause-can
release_join-requires-clause-can g c =
    let a = acted g.E.PortEngine.seen c.args.self.now c.args.notes.now c.args.numbers.now in
    let found = ap (λ (j : Joining _). find (is_for c.args.input) j.joins) (sym c.self.view_is) ∙ sym c.in-Some.ensures.found in
    let own = found_own c.args.self.now.joins c.args.input c.in-Some.joined found in
    subst (λ (e : End). CanReleaseInput a e) (sym own) c.requires.can

pub returns-in-Some-clause-acted : goal.returns-in-Some-clause-acted
returns-in-Some-clause-acted g c =
    let a = acted g.E.PortEngine.seen c.args.self.now c.args.notes.now c.args.numbers.now in
    let found = ap (λ (j : Joining _). find (is_for c.args.input) j.joins) (sym c.self.view_is) ∙ sym c.in-Some.ensures.found in
    let own = found_own c.args.self.now.joins c.args.input c.in-Some.joined found in
    ok_onward c.release_join.result _ _ _ (ap (releases_input a) own) c.release_join.ensures.acted

pub returns-in-None-clause-acted : goal.returns-in-None-clause-acted
returns-in-None-clause-acted g c =
    let a = acted g.E.PortEngine.seen c.args.self.now c.args.notes.now c.args.numbers.now in
    unjoined a c.args.input c.args.self.now.joins c.requires.joined (ap (λ (j : Joining _). find (is_for c.args.input) j.joins) (sym c.self.view_is) ∙ sym c.in-None.ensures.found)
