use Rattle.std.proofs.Common.{arith}
use Rattle.trace_audit.proofs.Counting.{AreCounted-push, count-fits, AreCounted-same}
use Rattle.trace_audit.proofs.queues.Queues.push.Goals as goal

pub overflow_add-count : goal.overflow_add-count
overflow_add-count c =
    let counted = AreCounted-same c.args.self.now.standing c.reserve.new.self c.args.self.now.cells c.in_ok-reserve.ensures.entries c.args.self.now.counted in
    let most = count-fits c.reserve.new.self c.args.self.now.cells c.push_cell.new.cells c.args.end c.args.cell c.standing-count.result c.in_ok-_len._len counted c.standing-count.ensures c.in_ok-_len.ensures.ok c.in_ok-_len.ensures.len in
    let small = c.in_ok-_len.ensures.fits in
    omega (arith, most, small)

pub invariant_of-self-2 : goal.invariant_of-self-2
invariant_of-self-2 c = record {
  counted =
      let counted = AreCounted-same c.args.self.now.standing c.reserve.new.self c.args.self.now.cells c.in_ok-reserve.ensures.entries c.args.self.now.counted in
      AreCounted-push c.reserve.new.self c.set_standing.new.standing c.args.self.now.cells c.push_cell.new.cells c.args.end c.args.cell c.standing-count.result counted c.standing-count.ensures c.in_ok-_len.ensures.ok c.set_standing.ensures;
}
