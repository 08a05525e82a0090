use Rattle.std.proofs.Common.{◌∙◌, arith, sym}
use Rattle.controller_joins.specs.Joined.{IsPlaceOf}
use Rattle.controller_joins.proofs.Standing.{all_at_gap, order_removed, removed_at_place}
use Rattle.controller_joins.proofs.joins.Joins.end.Goals as goal

pub invariant_of-self : goal.invariant_of-self
invariant_of-self c =
    let at : IsPlaceOf c.self.inside.list.items c.args.input c.in-Ok.place = rw (← c.deref.ensures.value) c.in-Ok.ensures.found in
    record {
      order = rw c.remove.ensures.items (order_removed c.self.inside.list.items c.in-Ok.place at.within c.self.invariant.order);
      room = omega (arith, c.remove.ensures.capacity, c.self.invariant.room);
    }

pub returns-in-Ok : goal.returns-in-Ok
returns-in-Ok c =
    let at : IsPlaceOf c.self.inside.list.items c.args.input c.in-Ok.place = rw (← c.deref.ensures.value) c.in-Ok.ensures.found in
    rw (← c.self.view_is) (c.remove.ensures.items ∙ removed_at_place c.self.inside.list.items c.args.input c.in-Ok.place c.self.invariant.order at)

pub returns-in_default : goal.returns-in_default
returns-in_default c = rw (← c.self.view_is, ← c.deref.ensures.value) (sym (all_at_gap c.deref.result.now c.args.input c.in_default.field-0 c.in_default.ensures.absent))
