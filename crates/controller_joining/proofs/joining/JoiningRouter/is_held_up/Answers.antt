use Rattle.std.proofs.Common.{suc, drop, ap, sym, ◌∙◌}
use Rattle.std.specs.Prelude.{slice_get}
use Rattle.std.specs.List.{list_any}
use Rattle.controller_joins.specs.world_model.Changes.{is_changed}
use Rattle.controller_joins.specs.world_model.Joins.{joins_of}
use Rattle.controller_joining.specs.Joining.{Joining, controller_of}
use Rattle.controller_joining.proofs.Changes.{any_first, any_rest, at_grant, at_joined, drop_next}
use Rattle.controller_joining.proofs.joining.JoiningRouter.is_held_up.Goals as goal

pub is_changed-requires : goal.is_changed-requires
is_changed-requires g c =
    let k = c.args.self.now in
    let m = controller_of g.E.PortEngine.seen k in
    let at = at_joined m k.joins c.loop-place.place c.in-Some.joined c.requires.joined (c.in-Some.ensures ∙ ap (λ (j : Joining _). slice_get j.joins c.loop-place.place) c.self.view_is) in
    (at.join, at.is, at_grant m c.loop-place.place c.in-Some.joined at c.requires.grants)

pub returns-then-is_changed : goal.returns-then-is_changed
returns-then-is_changed g c =
    let k = c.args.self.now in
    let m = controller_of g.E.PortEngine.seen k in
    let test = is_changed k.router.routes.table c.args.change.now in
    let at = at_joined m k.joins c.loop-place.place c.in-Some.joined c.requires.joined (c.in-Some.ensures ∙ ap (λ (j : Joining _). slice_get j.joins c.loop-place.place) c.self.view_is) in
    let is = c.is_changed.ensures at.join (at_grant m c.loop-place.place c.in-Some.joined at c.requires.grants) at.is in
    sym (sym c.loop-place.invariant.left ∙ any_first test (drop c.loop-place.place (joins_of m)) at.join (drop (suc c.loop-place.place) (joins_of m)) at.rest (sym is ∙ c.if-is_changed.true))

pub loop-place-preserved : goal.loop-place-preserved
loop-place-preserved g c =
    let k = c.args.self.now in
    let m = controller_of g.E.PortEngine.seen k in
    let test = is_changed k.router.routes.table c.args.change.now in
    let at = at_joined m k.joins c.loop-place.place c.in-Some.joined c.requires.joined (c.in-Some.ensures ∙ ap (λ (j : Joining _). slice_get j.joins c.loop-place.place) c.self.view_is) in
    let is = c.is_changed.ensures at.join (at_grant m c.loop-place.place c.in-Some.joined at c.requires.grants) at.is in
    record {
      end = c.loop-place.invariant.end;
      left = ap (list_any test) (drop_next (joins_of m) c.loop-place.place)
          ∙ any_rest test (drop c.loop-place.place (joins_of m)) at.join (drop (suc c.loop-place.place) (joins_of m)) at.rest (sym is ∙ c.if-is_changed.false) ∙ c.loop-place.invariant.left;
    }
