use Rattle.std.proofs.Common.{◌≡◌, ◌<◌, ◌∙◌, List, ap, sym, length, get_or}
use Rattle.std.proofs.lemmas.Option.{get_or_from_slice_get}
use Rattle.branch_desk.specs.port_model.Desk.{Desk, Standing}
use Rattle.controller_requests.proofs.Books.{book_remove, standing_removed}
use Rattle.controller_requests.proofs.book.RequestBook.withdraw_at.Goals as goal

pub invariant_of-self : goal.invariant_of-self
invariant_of-self c =
    let xs = c.self.inside.tickets in
    let within : c.args.place < length xs = rw c.self.invariant.same (rw (← c.self.view_is) at c.requires) in
    let is : c.take_out-ticket.result ≡ get_or xs c.args.place c.take_out-ticket.result = sym (get_or_from_slice_get xs c.args.place c.take_out-ticket.result c.take_out-ticket.result c.take_out-ticket.ensures.ticket) in
    book_remove c.self.inside.desk c.withdraw.new.self xs c.take_out-ticket.new.self c.args.place c.take_out-ticket.result c.self.invariant within is
    (ap (λ (d : Desk). d.next) c.withdraw.ensures.without) (ap (λ (d : Desk). d.standing) c.withdraw.ensures.without) c.take_out-ticket.ensures.rest

pub returns : goal.returns
returns c =
    let xs = c.self.inside.tickets in
    let within : c.args.place < length xs = rw c.self.invariant.same (rw (← c.self.view_is) at c.requires) in
    let is : c.take_out-ticket.result ≡ get_or xs c.args.place c.take_out-ticket.result = sym (get_or_from_slice_get xs c.args.place c.take_out-ticket.result c.take_out-ticket.result c.take_out-ticket.ensures.ticket) in
    rw (← c.self.view_is)
    (c.withdraw.ensures.without ∙ ap (λ (left : List Standing). let d : Desk = record c.self.inside.desk { standing = left } in d) (standing_removed c.self.inside.desk xs c.args.place c.take_out-ticket.result c.self.invariant within is))
