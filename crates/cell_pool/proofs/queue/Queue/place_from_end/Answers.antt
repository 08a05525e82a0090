use Rattle.std.proofs.Common.{◌≡◌, ℕ, ◌+◌, ◌-◌, get_or, sym, ap, subst, ◌∙◌, arith}
use Rattle.cell_pool.specs.Region.{Line, IsOut}
use Rattle.cell_pool.proofs.Readings.{last_place, out_at, place_before}
use Rattle.cell_pool.proofs.queue.Queue.place_from_end.Goals as goal

pub loop-step-init : goal.loop-step-init
loop-step-init c =
    λ k e. ap (λ (l : Line). l.tail) c.self.view_is ∙ last_place c.args.pool.now c.args.self.now c.requires.line k (omega (arith, e))

pub before-place-requires : goal.before-place-requires
before-place-requires c =
    let same : c.self.inside.len ≡ c.args.self.now.len = ap (λ (l : Line). l.len) c.self.view_is in
    let k : ℕ = c.args.self.now.len + c.args.index - c.loop-step._step in
    let here : k + c.loop-step._step ≡ c.args.self.now.len + c.args.index = omega (arith, c.loop-step-test.true, same) in
    subst (λ (p : ℕ). IsOut c.args.pool.now p) (sym (c.loop-step.invariant k here))
    (out_at c.args.pool.now c.args.self.now c.requires.line k (omega (arith, here, c.loop-step.auto._step)))

pub loop-step-preserved : goal.loop-step-preserved
loop-step-preserved c = λ k e.
    c.before-place.ensures ∙ ap (λ (p : ℕ). get_or c.args.pool.now.back p 0) (c.loop-step.invariant (k + 1) (omega (arith, e)))
    ∙ place_before c.args.pool.now c.args.self.now c.requires.line k (omega (arith, e, c.loop-step.auto._step))
