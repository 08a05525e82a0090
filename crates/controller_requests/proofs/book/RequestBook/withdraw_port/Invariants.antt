use Rattle.std.proofs.Common.{◌≡◌}
use Rattle.branch_desk.specs.port_model.Desk.{Standing}
use Rattle.branch_desk.specs.port_model.Requests.{withdraws}
use Rattle.gsmp_wire.specs.declared.request.Request.TheVariants.{DeleteAll}
use Rattle.controller_requests.proofs.Lists.{IsSwept}
use Rattle.controller_requests.proofs.book.RequestBook.withdraw_port.Given as goal

abbrev pub invariant-loop-place : goal.invariant-loop-place
invariant-loop-place l = record {
  next : l.self.next ≡ l.fn.self.next;
  rows : l.self.rows ≡ l.fn.self.rows;
  swept : IsSwept (λ (s : Standing). withdraws (DeleteAll l.port) s.request) l.fn.self.standing l.self.standing l.place;
}

abbrev pub decreases-loop-place : goal.decreases-loop-place
decreases-loop-place l = l.place
