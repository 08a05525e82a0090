use Rattle.std.proofs.Common.{◌≡◌, true}
use Rattle.std.specs.List.{list_any}
use Rattle.branch_desk.specs.ByEnd.{IsPlaceOf, is_entry}
use Rattle.branch_desk.proofs.Keys.{any_at, none_at_gap}
use Rattle.branch_desk.proofs.by_end.ByEnd.get.Goals as goal

pub returns-in-Ok : goal.returns-in-Ok
returns-in-Ok c =
    let at : IsPlaceOf c.self.inside.numbers.items c.args.end c.in-Ok.place = rw (← c.deref.ensures.value) c.in-Ok.ensures.found in
    let there : list_any (is_entry c.args.end c.index.result.now.number) c.self.inside.numbers.items ≡ true =
    rw (← c.index.ensures) at (any_at c.self.inside.numbers.items c.args.end c.in-Ok.place c.index.result.now at) in
    record { some = rw (← c.self.view_is) there; none = tt }

pub returns-in-Err : goal.returns-in-Err
returns-in-Err c = record {
  some = tt;
  none = rw (← c.self.view_is, ← c.deref.ensures.value) (none_at_gap c.deref.result.now c.args.end c.in-Err._gap c.in-Err.ensures.absent);
}
