use Rattle.std.proofs.Common.{◌<◌, length, sym, ap, ◌∙◌, arith}
use Rattle.cell_pool.proofs.Lines.{length-cells_of}
use Rattle.fabric.proofs.Queues.{cells_at}
use Rattle.fabric.proofs.fabric.Fabric.queued.Goals as goal

pub returns : goal.returns
returns c =
    let within : c.args.port.0 < length c.self.inside.queues.items = omega (arith, c.requires, c.self.invariant.nine) in
    rw (← c.self.view_is) (c.len.ensures ∙ sym (length-cells_of c.self.inside.pool c.index.result.now)
    ∙ ap (λ cs. length cs) (cells_at c.self.inside.pool c.self.inside.queues.items c.args.port.0 c.index.result.now within c.index.ensures))
