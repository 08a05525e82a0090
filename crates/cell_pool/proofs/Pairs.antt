-- Two chains of one region, of which one changes at a time.

use Rattle.std.proofs.Common.{◌≡◌, ◌+◌, [], ◌∷◌, ◌++◌, length, ap, arith, length-append}
use Rattle.atm_cells.specs.declared.cell.Cell.{Cell}
use Rattle.cell_pool.specs.Places.{Apart}
use Rattle.cell_pool.specs.Region.{Region, Line, places, cells_of, len_of, IsLine}
use Rattle.cell_pool.specs.Shares.{IsKeptBeside, ChangesBeside}
use Rattle.cell_pool.proofs.Lists.{Apart-sym}
use Rattle.cell_pool.proofs.Lines.{length-cells_of}

pub record AreTwo (r : Region) (a b : Line) : Type 0 where
  pub first : IsLine r a
  pub second : IsLine r b
  pub apart : Apart (places r a) (places r b)

pub first_changes : (old new : Region) (a b next : Line) → AreTwo old a b → ChangesBeside old new [] a next → AreTwo new next b
first_changes old new a b next two changed =
    let beside : IsKeptBeside old new next b = changed.chain.others b two.second two.apart in
    record { first = changed.chain.threaded; second = beside.kept.threaded; apart = beside.apart }

pub swapped : (r : Region) (a b : Line) → AreTwo r a b → AreTwo r b a
swapped r a b two = record { first = two.second; second = two.first; apart = Apart-sym (places r a) (places r b) two.apart }

pub second_changes : (old new : Region) (a b next : Line) → AreTwo old a b → ChangesBeside old new [] b next → AreTwo new a next
second_changes old new a b next two changed = swapped new next a (first_changes old new b a next (swapped old a b two) changed)

pub one_longer : (old new : Region) (q r : Line) (c : Cell) → cells_of new r ≡ cells_of old q ++ c ∷ [] → len_of r ≡ len_of q + 1
one_longer old new q r c pushed =
    omega (arith, length-cells_of old q, length-cells_of new r, ap length pushed, length-append (cells_of old q) (c ∷ []))
