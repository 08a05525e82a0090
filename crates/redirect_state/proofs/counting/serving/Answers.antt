use Rattle.std.proofs.Common.{ap, is_some}
use Rattle.redirect_state.proofs.Served.{served_by, unserved}
use Rattle.redirect_state.proofs.counting.serving.Goals as goal
use Rattle.redirect_state.proofs.counting.serving.Goals.{in-Some, in_default}

pub returns-clause-found : goal.returns-clause-found
returns-clause-found g c = λ label serves. elim c.match-labels.branch [
  | in-Some w ↦ served_by c.args.state.now.port c.args.flow.now label (λ s is_open. (w.in-Some.book.now, w.in-Some.ensures.book s is_open, w.is_in_order.ensures)) serves
  | in_default w ↦ unserved c.args.state.now.port (c.labels.ensures.none.0 (ap is_some w.in_default.is)) c.args.flow.now label serves
]
