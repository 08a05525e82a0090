use Rattle.std.proofs.Common.{ap, length, sym, ◌∙◌}
use Rattle.cell_pool.proofs.Lines.{length-cells_of}
use Rattle.controller_link.specs.Store.{Stored}
use Rattle.controller_link.proofs.store.Store.queued.Goals as goal

pub returns : goal.returns
returns c =
    c.len.ensures ∙ sym (length-cells_of c.self.inside.pool c.self.inside.queue) ∙ ap (λ (s : Stored). length s.queue) c.self.view_is
