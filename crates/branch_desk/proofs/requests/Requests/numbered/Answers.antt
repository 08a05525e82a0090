use Rattle.std.proofs.Common.{◌∙◌, Some, ap, sym}
use Rattle.branch_desk.specs.ByEnd.{IsUnder}
use Rattle.branch_desk.proofs.Numbers.{found_number}
use Rattle.branch_desk.proofs.requests.Requests.numbered.Goals as goal

pub returns : goal.returns
returns c =
    let under : IsUnder c.args.number c.self.inside.entries.items c.in-Some.place = rw (← c.deref.ensures.value) c.in-Some.ensures.found in
    rw (← c.self.view_is)
    (ap Some c.index.ensures ∙ sym (found_number c.args.number c.self.inside.entries.items c.in-Some.place c.index.result.now c.self.invariant.rising under.within (under.here c.index.result.now)))
