-- A region of slots as plain data, and the queues and chains whose slots are in it.

use Rattle.std.specs.Prelude.{◌≡◌, ℕ, zero, suc, ◌<◌, ◌+◌, List, [], ◌∷◌, length, map, replicate, slice_index, slice_index_or, nat_eq, if◌then◌else◌, false}
use Rattle.std.specs.List.{list_any}
use Rattle.atm_cells.specs.declared.cell.Cell.{Cell}
use Rattle.cell_pool.specs.Places.{NotIn, Apart, Distinct, Below}

-- the places that are free, the next one to be given out first; the cell in each place; the place
-- to which each place leads, and the one to which it leads back
pub record Region : Type 0 where
  pub free : List ℕ
  pub cells : List Cell
  pub next : List ℕ
  pub back : List ℕ

-- what a queue or a chain is seen as, a list of places that is threaded through its region: its
-- first place, its last one, its length
pub record Line : Type 0 where
  pub head : ℕ
  pub tail : ℕ
  pub len : ℕ

-- how many slots the region has
abbrev pub size : Region → ℕ
size r = length r.cells

-- a cell of zeros, which only a place outside the region has
abbrev pub blank : Cell
blank = record {
  header = record { channel = record { vpi = 0; vci = 0 }; last = false };
  payload = replicate 48 0;
  mark = record { packet = 0; frame = 0 };
}

-- the cell in a place
abbrev pub cell_at : Region → ℕ → Cell
cell_at r p = slice_index_or r.cells p blank

-- the places from h on, of which there are n
abbrev pub walk : (next : List ℕ) (h n : ℕ) → List ℕ
walk next h zero = []
walk next h (suc n) = h ∷ walk next (slice_index next h) n

-- the places of a line, the first one first
abbrev pub places : Region → Line → List ℕ
places r l = walk r.next l.head l.len

-- the cells of a line, the first one first
abbrev pub cells_of : Region → Line → List Cell
cells_of r l = map (cell_at r) (places r l)

-- how many places a line has
abbrev pub len_of : Line → ℕ
len_of l = l.len

-- the place was taken and not put back
pub record IsOut (r : Region) (p : ℕ) : Type 0 where
  pub inside : p < size r
  pub taken : NotIn p r.free

-- how many of the first n places aren't in the list
abbrev pub others_below : (n : ℕ) → List ℕ → ℕ
others_below zero ps = 0
others_below (suc n) ps = others_below n ps + (if list_any (λ x. nat_eq x n) ps then 0 else 1)

-- how many slots were taken and not put back
abbrev pub slots_out : Region → ℕ
slots_out r = others_below (size r) r.free

-- the list ends at the place t, if it has any
abbrev pub EndsAt : List ℕ → ℕ → Type 0
EndsAt [] t = Unit {0}
EndsAt (x ∷ []) t = x ≡ t
EndsAt (x ∷ y ∷ ys) t = EndsAt (y ∷ ys) t

-- each place of the list but the first leads back to the one before it
abbrev pub LeadsBack : (back : List ℕ) → List ℕ → Type 0
LeadsBack back [] = Unit {0}
LeadsBack back (x ∷ []) = Unit {0}
LeadsBack back (x ∷ y ∷ ys) = (slice_index back y ≡ x) × LeadsBack back (y ∷ ys)

-- with this region the line is a list of distinct places, each taken and not put back, that ends at
-- its tail and leads back from there
pub record IsLine (r : Region) (l : Line) : Type 0 where
  pub inside : Below (size r) (places r l)
  pub taken : Apart (places r l) r.free
  pub distinct : Distinct (places r l)
  pub ends : EndsAt (places r l) l.tail
  pub leads_back : LeadsBack r.back (places r l)
