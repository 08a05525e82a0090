use Rattle.std.proofs.Common.{ℕ, get_or, sym, ap, subst, ◌∙◌, arith}
use Rattle.cell_pool.specs.Region.{IsOut}
use Rattle.cell_pool.proofs.Readings.{next_place, out_at}
use Rattle.cell_pool.proofs.queue.Queue.place_from_front.Goals as goal

pub after-place-requires : goal.after-place-requires
after-place-requires c =
    subst (λ (p : ℕ). IsOut c.args.pool.now p) (sym c.loop-step.invariant)
    (out_at c.args.pool.now c.args.self.now c.requires.line c.loop-step._step (omega (arith, c.loop-step-test.true, c.requires.within)))

pub loop-step-preserved : goal.loop-step-preserved
loop-step-preserved c =
    c.after-place.ensures ∙ ap (λ (p : ℕ). get_or c.args.pool.now.next p 0) c.loop-step.invariant
    ∙ next_place c.args.pool.now c.args.self.now c.loop-step._step (omega (arith, c.loop-step-test.true, c.requires.within))
