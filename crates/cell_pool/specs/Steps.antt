-- What one call does to a region and to the lines in it.

use Rattle.std.specs.Prelude.{◌≡◌, ◌≢◌, ℕ, ◌+◌, [], ◌∷◌, ◌++◌, length}
use Rattle.net_types.specs.declared.channel.Channel.{Channel}
use Rattle.atm_cells.specs.declared.cell.Cell.{Cell}
use Rattle.cell_pool.specs.Places.{NotIn, Apart}
use Rattle.cell_pool.specs.Region.{Region, Line, size, cell_at, places, cells_of, len_of, IsOut, IsLine}

-- the line has the places and the cells that it had
pub record IsKept (old new : Region) (l : Line) : Type 0 where
  pub threaded : IsLine new l
  pub same_places : places new l ≡ places old l
  pub same_cells : cells_of new l ≡ cells_of old l

-- the place stays out, with its cell
pub record StaysOut (old new : Region) (p : ℕ) : Type 0 where
  pub out : IsOut new p
  pub same_cell : cell_at new p ≡ cell_at old p

-- the place stays out, and isn't s
pub record StaysOutBeside (old new : Region) (s p : ℕ) : Type 0 where
  pub stays : StaysOut old new p
  pub differs : p ≢ s

-- the line is kept, and has no place s
pub record IsKeptFrom (old new : Region) (s : ℕ) (l : Line) : Type 0 where
  pub kept : IsKept old new l
  pub without : NotIn s (places old l)

-- the cell with another channel
abbrev pub with_channel : Cell → Channel → Cell
with_channel c channel = record c { header = record c.header { channel = channel } }

-- the slot of place s was taken, with the cell c in it
pub record IsTaken (old new : Region) (s : ℕ) (c : Cell) : Type 0 where
  pub first : old.free ≡ s ∷ new.free
  pub same_size : size new ≡ size old
  pub out : IsOut new s
  pub holds : cell_at new s ≡ c
  pub others_out : (p : ℕ) → IsOut old p → StaysOutBeside old new s p
  pub others : (l : Line) → IsLine old l → IsKeptFrom old new s l

-- the slot of place s was put back
pub record IsPut (old new : Region) (s : ℕ) : Type 0 where
  pub first : new.free ≡ s ∷ old.free
  pub same_size : size new ≡ size old
  pub others_out : (p : ℕ) → IsOut old p → p ≢ s → StaysOut old new p
  pub others : (l : Line) → IsLine old l → NotIn s (places old l) → IsKept old new l

-- the line q became r, which has the place s besides at its end
pub record IsPushed (old new : Region) (q r : Line) (s : ℕ) : Type 0 where
  pub threaded : IsLine new r
  pub now_places : places new r ≡ places old q ++ s ∷ []
  pub now_cells : cells_of new r ≡ cells_of old q ++ cell_at old s ∷ []
  pub same_free : new.free ≡ old.free
  pub same_store : new.cells ≡ old.cells
  pub others : (l : Line) → IsLine old l → Apart (places old q) (places old l) → NotIn s (places old l) → IsKept old new l

-- the line q became r, which lacks the first place s; the region stayed
pub record IsPopped (region : Region) (q r : Line) (s : ℕ) : Type 0 where
  pub first : places region q ≡ s ∷ places region r
  pub out : IsOut region s
  pub fresh : NotIn s (places region r)
  pub fewer : len_of q ≡ len_of r + 1

-- all slots of the line q were put back
pub record IsDrained (old new : Region) (q : Line) : Type 0 where
  pub more : length new.free ≡ length old.free + len_of q
  pub same_size : size new ≡ size old
  pub others_out : (p : ℕ) → IsOut old p → NotIn p (places old q) → StaysOut old new p
  pub others : (l : Line) → IsLine old l → Apart (places old q) (places old l) → IsKept old new l
