use Rattle.std.proofs.Common.{ap, sym, subst, ◌∙◌}
use Rattle.controller_joins.specs.world_model.Controller.{Acted}
use Rattle.controller_joins.specs.world_model.Changes.{takes_changes}
use Rattle.law_join_facts.specs.Joins.{joined_in}
use Rattle.controller_router.specs.Meeting.{with_change}
use Rattle.controller_joining.specs.Conditions.{CanTakeChanges}
use Rattle.controller_joining.specs.Joining.{Joining, acted}
use Rattle.controller_joining.proofs.Kept.{ok_onward}
use Rattle.controller_joining.proofs.joining.JoiningRouter.change.Goals as goal

pub take_changes-requires-clause-joined : goal.take_changes-requires-clause-joined
take_changes-requires-clause-joined g c =
    let seen = g.E.PortEngine.seen in
    let a = acted seen c.args.self.now c.args.notes.now c.args.numbers.now in
    let e = c.in_ok-push_change.ensures.acted c.args.notes.now c.args.numbers.now ∙ ap (λ (j : Joining _). with_change (acted seen j c.args.notes.now c.args.numbers.now) c.args.change.now) c.self.view_is in
    ap (λ (x : Acted). joined_in x.controller) e ∙ c.requires.joined ∙ ap (λ (j : Joining _). j.joins) (sym c.self.view_is)

pub take_changes-requires-clause-can : goal.take_changes-requires-clause-can
take_changes-requires-clause-can g c =
    let seen = g.E.PortEngine.seen in
    let a = acted seen c.args.self.now c.args.notes.now c.args.numbers.now in
    let e = c.in_ok-push_change.ensures.acted c.args.notes.now c.args.numbers.now ∙ ap (λ (j : Joining _). with_change (acted seen j c.args.notes.now c.args.numbers.now) c.args.change.now) c.self.view_is in
    subst CanTakeChanges (sym e) c.requires.can.changes

pub returns-clause-acted : goal.returns-clause-acted
returns-clause-acted g c =
    let seen = g.E.PortEngine.seen in
    let a = acted seen c.args.self.now c.args.notes.now c.args.numbers.now in
    let e = c.in_ok-push_change.ensures.acted c.args.notes.now c.args.numbers.now ∙ ap (λ (j : Joining _). with_change (acted seen j c.args.notes.now c.args.numbers.now) c.args.change.now) c.self.view_is in
    ok_onward c.take_changes.result _ _ _ (ap takes_changes e) c.take_changes.ensures.acted
