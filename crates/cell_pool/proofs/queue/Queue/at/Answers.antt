use Rattle.std.proofs.Common.{◌≡◌, ℕ, Some, get_or, sym, ap, subst, ◌∙◌, arith}
use Rattle.cell_pool.specs.Region.{Line, cell_at, places, IsOut}
use Rattle.cell_pool.proofs.Readings.{cell_here, no_cell, out_at}
use Rattle.cell_pool.proofs.queue.Queue.at.Goals as goal
use Rattle.cell_pool.proofs.queue.Queue.at.Goals.{then-index-self-2, else-index-self-2}

pub returns-then-index-self : goal.returns-then-index-self
returns-then-index-self c =
    let same : c.self.inside.len ≡ c.args.self.now.len = ap (λ (l : Line). l.len) c.self.view_is in
    no_cell c.args.pool.now c.args.self.now c.args.index (omega (arith, same, c.if-index-self.true))

pub cell-requires : goal.cell-requires
cell-requires c =
    let same : c.self.inside.len ≡ c.args.self.now.len = ap (λ (l : Line). l.len) c.self.view_is in
    let place : c.if-index-self-2.place ≡ get_or (places c.args.pool.now c.args.self.now) c.args.index 0 =
    elim c.if-index-self-2.branch [
      | then-index-self-2 w ↦ w.place-is ∙ w.place_from_front-place.ensures
      | else-index-self-2 w ↦ w.place-is ∙ w.place_from_end-place.ensures
    ] in
    subst (λ (p : ℕ). IsOut c.args.pool.now p) (sym place) (out_at c.args.pool.now c.args.self.now c.requires c.args.index (omega (arith, same, c.if-index-self.false)))

pub returns : goal.returns
returns c =
    let same : c.self.inside.len ≡ c.args.self.now.len = ap (λ (l : Line). l.len) c.self.view_is in
    let place : c.if-index-self-2.place ≡ get_or (places c.args.pool.now c.args.self.now) c.args.index 0 =
    elim c.if-index-self-2.branch [
      | then-index-self-2 w ↦ w.place-is ∙ w.place_from_front-place.ensures
      | else-index-self-2 w ↦ w.place-is ∙ w.place_from_end-place.ensures
    ] in
    ap Some (c.cell.ensures ∙ ap (cell_at c.args.pool.now) place) ∙ cell_here c.args.pool.now c.args.self.now c.args.index (omega (arith, same, c.if-index-self.false))
