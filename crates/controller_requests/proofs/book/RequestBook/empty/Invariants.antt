use Rattle.std.proofs.Common.{◌≡◌, length}
use Rattle.branch_desk.specs.Requests.{AreRising}
use Rattle.controller_requests.proofs.book.RequestBook.empty.Given as goal

abbrev pub invariant-loop-ticket : goal.invariant-loop-ticket
invariant-loop-ticket l = record {
  same : l.self-inside.tickets ≡ l.self-inside.desk.standing;
  next : l.self-inside.desk.next ≡ l.initial.self-inside.desk.next;
  rows : l.self-inside.desk.rows ≡ l.initial.self-inside.desk.rows;
  rising : AreRising l.self-inside.tickets;
}

abbrev pub decreases-loop-ticket : goal.decreases-loop-ticket
decreases-loop-ticket l = length l.self-inside.tickets
