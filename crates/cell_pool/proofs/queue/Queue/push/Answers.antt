use Rattle.std.proofs.Common.{ap, arith}
use Rattle.cell_pool.specs.declared.queue.Queue.TheInside.{Inside}
use Rattle.cell_pool.proofs.Regions.{tail_out, len-lt-size, push_first, push_some, region_is}
use Rattle.cell_pool.proofs.queue.Queue.push.Goals as goal
use Rattle.cell_pool.proofs.queue.Queue.push.Goals.{then-self-eq0, else-self-eq0}

pub link-requires-clause-from : goal.link-requires-clause-from
link-requires-clause-from c = tail_out c.args.pool.now c.self.inside.head c.self.inside.tail c.self.inside.len c.if-self-eq0.false (rw (← c.self.view_is) at c.requires.threaded)

pub overflow_add-self : goal.overflow_add-self
overflow_add-self c =
    elim c.if-self-eq0.branch [
      | then-self-eq0 w ↦ omega (arith, ap (λ (x : Inside). x.len) w.self-inside-is)
      | else-self-eq0 w ↦
          omega (
            arith,
            ap (λ (x : Inside). x.len) w.self-inside-is,
            rw (← c.self.view_is) at (len-lt-size c.args.pool.now c.args.self.now c.args.slot c.requires.threaded c.requires.out c.requires.fresh),
            w.link.ensures.bound,
          )
    ]

pub returns-clause-pushed : goal.returns-clause-pushed
returns-clause-pushed c =
    elim c.if-self-eq0.branch [
      | then-self-eq0 w ↦
          rw (← c.self.view_is, w.pool-is, w.self-inside-is, c.into_place-place.ensures, w.if-self-eq0.true)
          (push_first c.args.pool.now c.self.inside.head c.self.inside.tail c.args.slot c.requires.out)
      | else-self-eq0 w ↦
          let same = region_is w.link.new.self c.args.pool.now.free c.args.pool.now.cells _ _ w.link.ensures.free w.link.ensures.cells w.link.ensures.next w.link.ensures.back in
          rw (← c.self.view_is, w.pool-is, w.self-inside-is, same, c.into_place-place.ensures)
          (push_some c.args.pool.now c.self.inside.head c.self.inside.tail c.self.inside.len c.args.slot w.if-self-eq0.false w.link.ensures.even w.link.ensures.back_even
          (rw (← c.self.view_is) at c.requires.threaded) c.requires.out (rw (← c.self.view_is) at c.requires.fresh))
    ]
