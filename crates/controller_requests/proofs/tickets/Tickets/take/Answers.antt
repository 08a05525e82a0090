use Rattle.std.proofs.Common.{◌∙◌, Some, ap, sym}
use Rattle.branch_desk.specs.ByEnd.{IsUnder}
use Rattle.branch_desk.specs.Requests.{AreRising}
use Rattle.branch_desk.proofs.Numbers.{found_number, left_at}
use Rattle.controller_requests.proofs.tickets.Tickets.take.Goals as goal

pub returns : goal.returns
returns c =
    let xs = c.self.inside.tickets.items in
    let rising : AreRising xs = rw (← c.self.view_is) at c.requires.rising in
    let under : IsUnder c.args.number xs c.place_of-place.result = rw (← c.deref.ensures.value) c.place_of-place.ensures in
    record {
      ticket = rw (← c.self.view_is) (found_number c.args.number xs c.place_of-place.result c.remove.result rising under.within (under.here c.remove.result) ∙ ap Some (sym c.remove.ensures.value));
      rest = rw (← c.self.view_is) (c.remove.ensures.items ∙ sym (left_at c.args.number xs c.place_of-place.result c.remove.result rising under.within (under.here c.remove.result)));
    }
