use Rattle.std.proofs.Common.{[], ◌∷◌, None, length, length-append, ap, ◌∙◌, arith}
use Rattle.cell_pool.specs.Room.{filled}
use Rattle.cell_pool.proofs.Fills.{same-filled}
use Rattle.fabric.proofs.row.write_up_to.Goals as goal

pub loop-entries-preserved : goal.loop-entries-preserved
loop-entries-preserved c = record {
  few = λ n above within. omega (arith, c.len.ensures, c.loop-entries-test.true, above, ap length c.in-Ok.ensures.items, length-append c.loop-entries.entries.items (c.new.result ∷ []));
  same = λ n above.
      ap (filled n None) (rw c.new.ensures at c.in-Ok.ensures.items)
      ∙ same-filled n None c.loop-entries.entries.items (omega (arith, c.len.ensures, c.loop-entries-test.true, above))
      ∙ c.loop-entries.invariant.same n above;
  room = omega (arith, c.loop-entries.invariant.room, c.in-Ok.ensures.capacity);
}
