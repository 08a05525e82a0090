use Rattle.std.proofs.Common.{sym}
use Rattle.controller_joins.specs.Joined.{IsPlaceOf}
use Rattle.controller_joins.proofs.Standing.{found_at_place, none_at_gap}
use Rattle.controller_joins.proofs.joins.Joins.of.Goals as goal

pub returns-in-Ok-clause-found : goal.returns-in-Ok-clause-found
returns-in-Ok-clause-found c =
    let at : IsPlaceOf c.self.inside.list.items c.args.input c.in-Ok.place = rw (← c.deref.ensures.value) c.in-Ok.ensures.found in
    let found = found_at_place c.self.inside.list.items c.args.input c.in-Ok.place c.index.result.now c.self.invariant.order at in
    rw (← c.self.view_is) (sym (rw (← c.index.ensures) at found))

pub returns-in-Err-clause-found : goal.returns-in-Err-clause-found
returns-in-Err-clause-found c = rw (← c.self.view_is, ← c.deref.ensures.value) (sym (none_at_gap c.deref.result.now c.args.input c.in-Err._gap c.in-Err.ensures.absent))
