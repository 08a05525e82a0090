use Rattle.std.proofs.Common.{◌≡◌, ◌∙◌, ◌+◌, ◌++◌, ◌∷◌, [], List, ap, false, filter, length, not, arith}
use Rattle.std.specs.List.{list_any}
use Rattle.branch_desk.specs.port_model.Desk.{Desk, Standing, asked}
use Rattle.branch_desk.specs.port_model.Requests.{withdraws}
use Rattle.branch_desk.proofs.Numbers.{none_left}
use Rattle.controller_requests.proofs.Books.{book_push}
use Rattle.controller_requests.proofs.Lists.{filter_twice, length-filter-le, none_behind}
use Rattle.controller_requests.proofs.book.RequestBook.ask.Goals as goal

pub ask_needed-ticket-requires-clause-free : goal.ask_needed-ticket-requires-clause-free
ask_needed-ticket-requires-clause-free c =
    let p = λ (s : Standing). withdraws c.args.request s.request in
    let standing : c.self.inside.desk.standing ≡ filter (λ s. not (p s)) c.args.self.now.standing = ap (λ (d : Desk). d.standing) (c.self.view_is ∙ c.withdraw_for.ensures) in
    rw standing (none_behind p c.args.self.now.standing)

pub ask_needed-ticket-requires-clause-room : goal.ask_needed-ticket-requires-clause-room
ask_needed-ticket-requires-clause-room c =
    let p = λ (s : Standing). withdraws c.args.request s.request in
    let standing : c.self.inside.desk.standing ≡ filter (λ s. not (p s)) c.args.self.now.standing = ap (λ (d : Desk). d.standing) (c.self.view_is ∙ c.withdraw_for.ensures) in
    omega (arith, ap (λ (xs : List Standing). length xs) standing, length-filter-le (λ s. not (p s)) c.args.self.now.standing, c.requires.room)

pub push-requires : goal.push-requires
push-requires c =
    let p = λ (s : Standing). withdraws c.args.request s.request in
    let standing : c.self.inside.desk.standing ≡ filter (λ s. not (p s)) c.args.self.now.standing = ap (λ (d : Desk). d.standing) (c.self.view_is ∙ c.withdraw_for.ensures) in
    omega (
      arith,
      ap (λ (xs : List Standing). length xs) c.self.invariant.same,
      ap (λ (xs : List Standing). length xs) standing,
      length-filter-le (λ s. not (p s)) c.args.self.now.standing,
      c.requires.room,
    )

pub invariant_of-self : goal.invariant_of-self
invariant_of-self c =
    let p = λ (s : Standing). withdraws c.args.request s.request in
    let standing : c.self.inside.desk.standing ≡ filter (λ s. not (p s)) c.args.self.now.standing = ap (λ (d : Desk). d.standing) (c.self.view_is ∙ c.withdraw_for.ensures) in
    let d = c.self.inside.desk in
    let free : list_any p d.standing ≡ false = rw standing (none_behind p c.args.self.now.standing) in
    let left : filter (λ s. not (p s)) d.standing ≡ d.standing = none_left p d.standing free in
    let asked_is = c.ask_needed-ticket.ensures.asked in
    rw (c.push.ensures, c.ask_needed-ticket.ensures.ticket)
    (book_push d c.ask_needed-ticket.new.self c.self.inside.tickets c.args.request c.self.invariant free (ap (λ (x : Desk). x.next) asked_is)
    (ap (λ (x : Desk). x.standing) asked_is ∙ ap (λ (xs : List Standing). let s : Standing = record { number = d.next; request = c.args.request } in xs ++ s ∷ []) left))

pub returns-clause-asked : goal.returns-clause-asked
returns-clause-asked c =
    let p = λ (s : Standing). withdraws c.args.request s.request in
    c.ask_needed-ticket.ensures.asked ∙ ap (λ (d : Desk). asked d c.args.request) (c.self.view_is ∙ c.withdraw_for.ensures)
    ∙ ap (λ (xs : List Standing). let d : Desk = record c.args.self.now { next = c.args.self.now.next + 1; standing = xs ++ record { number = c.args.self.now.next; request = c.args.request } ∷ [] } in d) (filter_twice p c.args.self.now.standing)
