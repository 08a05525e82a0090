use Rattle.std.proofs.Common.{◌≡◌, Some, sym, find}
use Rattle.grant_table.proofs.Found.{carries, found_label}
use Rattle.grant_table.proofs.grants.Grants.first_of.Goals as goal

pub returns-in-Some : goal.returns-in-Some
returns-in-Some c =
    let found : Some c.in-Some.grant.now ≡ find (carries c.args.flow.now) c.self.inside.held.items = rw c.deref.ensures.value at c.in-Some.ensures in
    rw (← c.self.view_is, c.label.ensures)
    (sym (found_label c.args.flow.now c.self.inside.held.items c.in-Some.grant.now (sym found)))
