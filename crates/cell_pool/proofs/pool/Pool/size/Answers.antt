use Rattle.std.proofs.Common.{sym}
use Rattle.cell_pool.specs.Region.{blank}
use Rattle.cell_pool.proofs.Fills.{length-filled}
use Rattle.cell_pool.proofs.pool.Pool.size.Goals as goal

pub returns : goal.returns
returns c = rw (← c.self.view_is) (sym (length-filled c.self.inside.size blank c.self.inside.cells.items c.self.invariant.within))
