use Rattle.std.proofs.Common.{◌∙◌, List, ap, sym}
use Rattle.branch_desk.specs.port_model.Desk.{Desk, Standing}
use Rattle.branch_desk.specs.Requests.{AreApart, AreRising}
use Rattle.branch_desk.specs.ByEnd.{IsUnder}
use Rattle.controller_requests.proofs.Books.{found_number_there, found_on, none_on, on_taken}
use Rattle.controller_requests.proofs.book.RequestBook.withdraw_input.Goals as goal

pub place_of-place-requires-clause-there : goal.place_of-place-requires-clause-there
place_of-place-requires-clause-there c =
    let found = found_on c.args.input c.self.inside.desk.standing c.in-Some.number (sym c.in-Some.is ∙ c.on.ensures) in
    rw c.self.invariant.same (found_number_there c.args.input c.self.inside.desk.standing c.in-Some.number found)

pub returns-in-Some : goal.returns-in-Some
returns-in-Some c =
    let d = c.self.inside.desk in
    let found = found_on c.args.input d.standing c.in-Some.number (sym c.in-Some.is ∙ c.on.ensures) in
    let rising : AreRising d.standing = rw c.self.invariant.same at c.self.invariant.rising in
    let apart : AreApart d.standing = rw c.self.invariant.same at c.self.invariant.apart in
    let under : IsUnder c.in-Some.number d.standing c.place_of-place.result = rw c.self.invariant.same at c.place_of-place.ensures in
    let taken = on_taken c.args.input d.standing c.in-Some.number c.place_of-place.result rising apart found under.within under.here in
    c.withdraw_at.ensures ∙ (rw (← c.self.view_is) (ap (λ (xs : List Standing). let x : Desk = record d { standing = xs } in x) (sym taken)))

pub returns-in_default : goal.returns-in_default
returns-in_default c =
    let d = c.self.inside.desk in
    rw (← c.self.view_is) (ap (λ (xs : List Standing). let x : Desk = record d { standing = xs } in x) (sym (none_on c.args.input d.standing (sym c.in_default.is ∙ c.on.ensures))))
