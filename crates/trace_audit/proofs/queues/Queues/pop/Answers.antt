use Rattle.trace_audit.proofs.Counting.{AreCounted-pop, AreCounted-none}
use Rattle.trace_audit.proofs.queues.Queues.pop.Goals as goal

pub invariant_of-self : goal.invariant_of-self
invariant_of-self c = record {
  counted = AreCounted-none c.args.self.now.standing c.args.self.now.cells c.pop_cell.new.cells c.args.end c.args.self.now.counted c.in_err-cell.ensures.cell c.pop_cell.ensures.rest;
}

pub invariant_of-self-2 : goal.invariant_of-self-2
invariant_of-self-2 c = record {
  counted = AreCounted-pop c.args.self.now.standing c.leave.new.standing c.args.self.now.cells c.pop_cell.new.cells c.args.end c.in_ok-cell.cell c.args.self.now.counted c.in_ok-cell.ensures.cell c.pop_cell.ensures.rest c.leave.ensures;
}
