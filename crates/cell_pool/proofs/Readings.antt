-- The place and the cell at an index of a line, found from either end.

use Rattle.std.proofs.Common.{◌≡◌, ℕ, zero, suc, ◌+◌, ◌<◌, ◌≤◌, List, [], ◌∷◌, length, get_or, Some, None, refl, sym, ap, ◌∙◌, arith, add-one}
use Rattle.std.specs.Prelude.{slice_get}
use Rattle.std.proofs.lemmas.Option.{slice_get-get_or, slice_get-map, slice_get_past}
use Rattle.std.specs.Option.{option_map}
use Rattle.cell_pool.specs.Places.{NotIn, Apart, Below}
use Rattle.cell_pool.specs.Region.{Region, Line, size, cell_at, walk, places, cells_of, len_of, IsOut, EndsAt, LeadsBack, IsLine}
use Rattle.cell_pool.proofs.Regions.{length-places}
use Rattle.cell_pool.proofs.Lines.{length-cells_of}

-- each place of a way leads to the next one
walk-next : (next : List ℕ) (h n k : ℕ) → suc k < n → get_or next (get_or (walk next h n) k 0) 0 ≡ get_or (walk next h n) (suc k) 0
walk-next next h zero k low = absurd (omega (arith, low))
walk-next next h (suc zero) k low = absurd (omega (arith, low))
walk-next next h (suc (suc n)) zero low = refl
walk-next next h (suc (suc n)) (suc k) low = walk-next next (get_or next h 0) (suc n) k (omega (arith, low))

LeadsBack-at : (back xs : List ℕ) (k : ℕ) → LeadsBack back xs → suc k < length xs → get_or back (get_or xs (suc k) 0) 0 ≡ get_or xs k 0
LeadsBack-at back [] k leads low = absurd (omega (arith, low))
LeadsBack-at back (x ∷ []) k leads low = absurd (omega (arith, low))
LeadsBack-at back (x ∷ y ∷ ys) zero leads low = leads.0
LeadsBack-at back (x ∷ y ∷ ys) (suc k) leads low = LeadsBack-at back (y ∷ ys) k leads.1 (omega (arith, low))

EndsAt-last : (xs : List ℕ) (t k : ℕ) → EndsAt xs t → k + 1 ≡ length xs → get_or xs k 0 ≡ t
EndsAt-last [] t k ends e = absurd (omega (arith, e))
EndsAt-last (x ∷ []) t zero ends e = ends
EndsAt-last (x ∷ []) t (suc k) ends e = absurd (omega (arith, e))
EndsAt-last (x ∷ y ∷ ys) t zero ends e = absurd (omega (arith, e))
EndsAt-last (x ∷ y ∷ ys) t (suc k) ends e = EndsAt-last (y ∷ ys) t k ends (omega (arith, e))

Below-at : (n : ℕ) (xs : List ℕ) (k : ℕ) → Below n xs → k < length xs → get_or xs k 0 < n
Below-at n [] k below low = absurd (omega (arith, low))
Below-at n (x ∷ xs) zero below low = below.0
Below-at n (x ∷ xs) (suc k) below low = Below-at n xs k below.1 (omega (arith, low))

Apart-at : (xs ys : List ℕ) (k : ℕ) → Apart xs ys → k < length xs → NotIn (get_or xs k 0) ys
Apart-at [] ys k apart low = absurd (omega (arith, low))
Apart-at (x ∷ xs) ys zero apart low = apart.0
Apart-at (x ∷ xs) ys (suc k) apart low = Apart-at xs ys k apart.1 (omega (arith, low))

module _ (r : Region) (l : Line) where
  pub first_place : 0 < len_of l → l.head ≡ get_or (places r l) 0 0
  first_place some = by l.len some
    where
      by : (n : ℕ) → 0 < n → l.head ≡ get_or (walk r.next l.head n) 0 0
      by zero h = absurd (omega (arith, h))
      by (suc n) h = refl

  -- the place behind the one at k
  pub next_place : (k : ℕ) → k + 1 < len_of l → get_or r.next (get_or (places r l) k 0) 0 ≡ get_or (places r l) (k + 1) 0
  next_place k low = rw add-one (walk-next r.next l.head l.len k (omega (arith, low)))

module _ (r : Region) (l : Line) (line : IsLine r l) where
  pub last_place : (k : ℕ) → k + 1 ≡ len_of l → l.tail ≡ get_or (places r l) k 0
  last_place k e = sym (EndsAt-last (places r l) l.tail k line.ends (omega (arith, e, length-places r l)))

  -- the place before the one at k + 1
  pub place_before : (k : ℕ) → k + 1 < len_of l → get_or r.back (get_or (places r l) (k + 1) 0) 0 ≡ get_or (places r l) k 0
  place_before k low = rw add-one (LeadsBack-at r.back (places r l) k line.leads_back (omega (arith, low, length-places r l)))

  pub out_at : (k : ℕ) → k < len_of l → IsOut r (get_or (places r l) k 0)
  out_at k low =
      let within : k < length (places r l) = omega (arith, low, length-places r l) in
      record { inside = Below-at (size r) (places r l) k line.inside within; taken = Apart-at (places r l) r.free k line.taken within }

-- the cell at k
pub cell_here : (r : Region) (l : Line) (k : ℕ) → k < len_of l → Some (cell_at r (get_or (places r l) k 0)) ≡ slice_get (cells_of r l) k
cell_here r l k low =
    ap (option_map (cell_at r)) (sym (slice_get-get_or (places r l) k 0 (omega (arith, low, length-places r l)))) ∙ sym (slice_get-map (cell_at r) (places r l) k)

pub no_cell : (r : Region) (l : Line) (k : ℕ) → len_of l ≤ k → None ≡ slice_get (cells_of r l) k
no_cell r l k high = sym (slice_get_past (cells_of r l) k (omega (arith, high, length-cells_of r l)))
