use Rattle.std.proofs.Common.{◌≡◌, ◌∙◌, arith, false, sym}
use Rattle.std.specs.List.{list_any}
use Rattle.crossbar_model.specs.Crossbar.{same_end}
use Rattle.controller_joins.specs.Joined.{IsGapFor}
use Rattle.controller_joins.proofs.Standing.{any_at_place, entered_at_gap, order_entered}
use Rattle.controller_joins.proofs.joins.Joins.enter.Goals as goal

pub unreachable-requires : goal.unreachable-requires
unreachable-requires c =
    let none : list_any (λ j. same_end j.input c.args.joined.input) c.deref.result.now ≡ false = rw (c.deref.ensures.value, c.self.view_is) c.requires in
    cc (sym none ∙ any_at_place c.deref.result.now c.args.joined.input c.in_default.field-0 c.args.joined c.in_default.ensures.found)

pub invariant_of-self-2 : goal.invariant_of-self-2
invariant_of-self-2 c =
    let gap : IsGapFor c.self.inside.list.items c.args.joined.input c.in-Err.gap = rw (← c.deref.ensures.value) c.in-Err.ensures.absent in
    record {
      order = rw c.in_ok-insert.ensures.items (order_entered c.self.inside.list.items c.args.joined c.in-Err.gap gap c.self.invariant.order);
      room = omega (arith, c.insert.ensures.capacity, c.self.invariant.room);
    }

pub returns-clause-ok : goal.returns-clause-ok
returns-clause-ok c =
    let gap : IsGapFor c.self.inside.list.items c.args.joined.input c.in-Err.gap = rw (← c.deref.ensures.value) c.in-Err.ensures.absent in
    rw (← c.self.view_is) (c.in_ok-insert.ensures.items ∙ entered_at_gap c.self.inside.list.items c.args.joined c.in-Err.gap gap)
