use Rattle.std.proofs.Common.{◌≡◌, find, fold, refl, ap, sym, subst, ◌∙◌}
use Rattle.gsmp_wire.specs.declared.request.Request.{Request}
use Rattle.gsmp_wire.specs.declared.request.Request.TheVariants.{AddBranch, AllPorts, DeleteTree, MoveBranch, PortManagement, VerifyTree}
use Rattle.branch_desk.proofs.Ends.{same_itself}
use Rattle.controller_joins.specs.world_model.Joins.{released_inputs, releases_input}
use Rattle.controller_joins.specs.Joined.{AreInOrder}
use Rattle.law_join_facts.proofs.Comes.{is_for, kept_apart}
use Rattle.controller_joining.specs.Conditions.{EachCanBeReleased}
use Rattle.controller_joining.specs.Joining.{Joining, acted}
use Rattle.controller_joining.proofs.Kept.{ok_onward}
use Rattle.controller_joining.proofs.Released.{move_here, move_not, move_other, none_led, nothing_joined, one_can, one_led, tree_other}
use Rattle.controller_joining.proofs.joining.JoiningRouter.release_led_home.Goals as goal

pub returns-then-not-is_home_of-clause-acted : goal.returns-then-not-is_home_of-clause-acted
returns-then-not-is_home_of-clause-acted g c =
    let a = acted g.E.PortEngine.seen c.args.self.now c.args.notes.now c.args.numbers.now in
    let away = sym c.is_home_of.ensures ∙ c.if-not-is_home_of.true in
    subst (λ (r : Request). a ≡ fold releases_input a (released_inputs a.controller r)) c.in-MoveBranch.ensures
    (none_led a (MoveBranch c.in-MoveBranch.input c.in-MoveBranch.from c.in-MoveBranch.to) (move_not c.in-MoveBranch.input c.in-MoveBranch.from c.in-MoveBranch.to away))

pub release_input-requires-clause-can : goal.release_input-requires-clause-can
release_input-requires-clause-can g c =
    let a = acted g.E.PortEngine.seen c.args.self.now c.args.notes.now c.args.numbers.now in
    let joins = c.args.self.now.joins in
    let apart = kept_apart joins (subst (λ (x : Joining _). AreInOrder x.joins) c.self.view_is c.is_empty.ensures.order) in
    let here = sym c.is_home_of.ensures ∙ c.if-not-is_home_of.false in
    let m = c.in-MoveBranch in
    one_can a (MoveBranch m.input m.from m.to) m.input joins (find (is_for m.input) joins) c.requires.joined apart (move_other m.input m.from m.to) (move_here m.input m.from m.to here) refl
    (subst (λ (r : Request). EachCanBeReleased a (released_inputs a.controller r)) (sym m.ensures) c.requires.can)

pub release_input-requires-in-DeleteTree-clause-can : goal.release_input-requires-in-DeleteTree-clause-can
release_input-requires-in-DeleteTree-clause-can g c =
    let a = acted g.E.PortEngine.seen c.args.self.now c.args.notes.now c.args.numbers.now in
    let joins = c.args.self.now.joins in
    let apart = kept_apart joins (subst (λ (x : Joining _). AreInOrder x.joins) c.self.view_is c.is_empty.ensures.order) in
    let m = c.in-DeleteTree in
    one_can a (DeleteTree m.input) m.input joins (find (is_for m.input) joins) c.requires.joined apart (tree_other m.input) (same_itself m.input) refl
    (subst (λ (r : Request). EachCanBeReleased a (released_inputs a.controller r)) (sym m.ensures) c.requires.can)

pub returns-else-not-is_home_of-clause-acted : goal.returns-else-not-is_home_of-clause-acted
returns-else-not-is_home_of-clause-acted g c =
    let a = acted g.E.PortEngine.seen c.args.self.now c.args.notes.now c.args.numbers.now in
    let joins = c.args.self.now.joins in
    let apart = kept_apart joins (subst (λ (x : Joining _). AreInOrder x.joins) c.self.view_is c.is_empty.ensures.order) in
    let here = sym c.is_home_of.ensures ∙ c.if-not-is_home_of.false in
    let m = c.in-MoveBranch in
    let all = one_led a (MoveBranch m.input m.from m.to) m.input joins (find (is_for m.input) joins) c.requires.joined apart (move_other m.input m.from m.to) (move_here m.input m.from m.to here) refl in
    ok_onward c.release_input.result _ _ _ (all ∙ ap (λ (r : Request). fold releases_input a (released_inputs a.controller r)) m.ensures) c.release_input.ensures.acted

pub returns-in-DeleteTree-clause-acted : goal.returns-in-DeleteTree-clause-acted
returns-in-DeleteTree-clause-acted g c =
    let a = acted g.E.PortEngine.seen c.args.self.now c.args.notes.now c.args.numbers.now in
    let joins = c.args.self.now.joins in
    let apart = kept_apart joins (subst (λ (x : Joining _). AreInOrder x.joins) c.self.view_is c.is_empty.ensures.order) in
    let m = c.in-DeleteTree in
    let all = one_led a (DeleteTree m.input) m.input joins (find (is_for m.input) joins) c.requires.joined apart (tree_other m.input) (same_itself m.input) refl in
    ok_onward c.release_input-in-DeleteTree.result _ _ _ (all ∙ ap (λ (r : Request). fold releases_input a (released_inputs a.controller r)) m.ensures) c.release_input-in-DeleteTree.ensures.acted

pub returns-in-AddBranch-clause-acted : goal.returns-in-AddBranch-clause-acted
returns-in-AddBranch-clause-acted g c =
    let a = acted g.E.PortEngine.seen c.args.self.now c.args.notes.now c.args.numbers.now in
    subst (λ (r : Request). a ≡ fold releases_input a (released_inputs a.controller r)) c.in-AddBranch.ensures (none_led a (AddBranch c.in-AddBranch.input c.in-AddBranch.output) (λ e. refl))

pub returns-in-VerifyTree-clause-acted : goal.returns-in-VerifyTree-clause-acted
returns-in-VerifyTree-clause-acted g c =
    let a = acted g.E.PortEngine.seen c.args.self.now c.args.notes.now c.args.numbers.now in
    subst (λ (r : Request). a ≡ fold releases_input a (released_inputs a.controller r)) c.in-VerifyTree.ensures (none_led a (VerifyTree c.in-VerifyTree.input) (λ e. refl))

pub returns-in-PortManagement-clause-acted : goal.returns-in-PortManagement-clause-acted
returns-in-PortManagement-clause-acted g c =
    let a = acted g.E.PortEngine.seen c.args.self.now c.args.notes.now c.args.numbers.now in
    subst (λ (r : Request). a ≡ fold releases_input a (released_inputs a.controller r)) c.in-PortManagement.ensures (none_led a (PortManagement c.in-PortManagement.port c.in-PortManagement.function) (λ e. refl))

pub returns-in-AllPorts-clause-acted : goal.returns-in-AllPorts-clause-acted
returns-in-AllPorts-clause-acted g c =
    let a = acted g.E.PortEngine.seen c.args.self.now c.args.notes.now c.args.numbers.now in
    subst (λ (r : Request). a ≡ fold releases_input a (released_inputs a.controller r)) c.in-AllPorts.ensures (none_led a AllPorts (λ e. refl))

pub returns-then-is_empty-clause-acted : goal.returns-then-is_empty-clause-acted
returns-then-is_empty-clause-acted g c =
    let a = acted g.E.PortEngine.seen c.args.self.now c.args.notes.now c.args.numbers.now in
    let none = ap (λ (x : Joining _). x.joins) (sym c.self.view_is) ∙ c.is_empty.ensures.empty.0 c.if-is_empty.true in
    nothing_joined a c.args.done.now.request c.args.self.now.joins c.requires.joined none
