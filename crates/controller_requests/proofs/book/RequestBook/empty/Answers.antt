use Rattle.std.proofs.Common.{◌∙◌, ◌++◌, ◌∷◌, [], List, ap, filter, not, sym}
use Rattle.branch_desk.specs.port_model.Desk.{Desk, Standing}
use Rattle.branch_desk.specs.Requests.{AreRising}
use Rattle.branch_desk.proofs.Numbers.{has}
use Rattle.controller_requests.proofs.Lists.{last_left, rising_front}
use Rattle.controller_requests.proofs.book.RequestBook.empty.Goals as goal

pub loop-ticket-preserved : goal.loop-ticket-preserved
loop-ticket-preserved c =
    let ticket = c.in-Some.ticket in
    let rest = c.pop.new.self in
    let rising : AreRising (rest ++ ticket ∷ []) = rw c.in-Some.ensures.some at c.loop-ticket.invariant.rising in
    let without = c.withdraw.ensures.without in
    record {
      same =
          sym (ap (λ (d : Desk). d.standing) without
          ∙ ap (λ (xs : List Standing). filter (λ x. not (has ticket.number x)) xs) (sym c.loop-ticket.invariant.same ∙ c.in-Some.ensures.some) ∙ last_left rest ticket rising);
      next = ap (λ (d : Desk). d.next) without ∙ c.loop-ticket.invariant.next;
      rows = ap (λ (d : Desk). d.rows) without ∙ c.loop-ticket.invariant.rows;
      rising = rising_front rest ticket rising;
    }
