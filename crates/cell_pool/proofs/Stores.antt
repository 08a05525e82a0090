-- What each call of a region does, over the lists in which it stands.

use Rattle.std.proofs.Common.{◌≡◌, ℕ, ◌+◌, ◌-◌, ◌<◌, ◌≤◌, List, [], ◌∷◌, ◌++◌, length, get_or, set, refl, sym, ap, subst, arith, length-append, length-set}
use Rattle.std.proofs.lemmas.List.FromFn.{length-range_with_len}
use Rattle.atm_cells.specs.declared.cell.Cell.{Cell}
use Rattle.cell_pool.specs.Places.{NotIn, Distinct, Below}
use Rattle.cell_pool.specs.Region.{Region, size, blank, cell_at, walk, IsOut, others_below}
use Rattle.cell_pool.specs.Room.{filled, never_taken}
use Rattle.cell_pool.specs.Steps.{IsTaken, IsPut}
use Rattle.cell_pool.specs.declared.pool.Pool.TheInside.{Inside}
use Rattle.cell_pool.proofs.Lists.{length-le_from_Distinct, others_below-length}
use Rattle.cell_pool.proofs.Walks.{length-walk, walk-put, walk_first}
use Rattle.cell_pool.proofs.Fills.{length-filled, get_or-filled, set-filled, push-filled, same-filled, NotIn-front, was_taken, free_distinct, free_below, first_never_taken}
use Rattle.cell_pool.proofs.Regions.{take_first, put_back, region_is}

-- a region in its lists
abbrev pub stored : (places : ℕ) (cells : List Cell) (next back : List ℕ) (head returned : ℕ) → Region
stored places cells next back head returned = record {
  free = walk next head returned ++ never_taken places (length cells);
  cells = filled places blank cells;
  next = filled places 0 next;
  back = filled places 0 back;
}

-- what the fields of a pool are seen as
abbrev pub region : Inside → Region
region p = stored p.size p.cells.items p.next.items p.back.items p.head p.returned

module _ (places : ℕ) (cells : List Cell) (next back : List ℕ) (head returned : ℕ) (within : length cells ≤ places) where
  pub size_stored : size (stored places cells next back head returned) ≡ places
  size_stored = length-filled places blank cells within

  -- a place that is out was taken
  pub out_stored : (s : ℕ) → IsOut (stored places cells next back head returned) s → s < length cells
  out_stored s out = was_taken places (length cells) s (walk next head returned) (omega (arith, out.inside, size_stored)) out.taken

  pub not_returned : (s : ℕ) → IsOut (stored places cells next back head returned) s → NotIn s (walk next head returned)
  not_returned s out = NotIn-front s (walk next head returned) (never_taken places (length cells)) out.taken

  pub cell_stored : (s : ℕ) → cell_at (stored places cells next back head returned) s ≡ get_or cells s blank
  cell_stored s = get_or-filled places blank cells s

  pub length-free : length (stored places cells next back head returned).free ≡ returned + (places - length cells)
  length-free =
      omega (arith, length-append (walk next head returned) (never_taken places (length cells)), length-walk next head returned, length-range_with_len (length cells) (places - length cells))

  module _ (distinct : Distinct (walk next head returned)) (below : Below (length cells) (walk next head returned)) where
    pub few_returned : returned ≤ length cells
    few_returned = omega (arith, length-le_from_Distinct (length cells) (walk next head returned) distinct below, length-walk next head returned)

    all_distinct : Distinct (stored places cells next back head returned).free
    all_distinct = free_distinct places (length cells) (walk next head returned) within below distinct

    all_below : Below (size (stored places cells next back head returned)) (stored places cells next back head returned).free
    all_below =
        subst (λ (n : ℕ). Below n (stored places cells next back head returned).free) (sym size_stored)
        (free_below places (length cells) (walk next head returned) within below)

    pub others_stored : length (stored places cells next back head returned).free + others_below (size (stored places cells next back head returned)) (stored places cells next back head returned).free ≡ size (stored places cells next back head returned)
    others_stored = others_below-length (size (stored places cells next back head returned)) (stored places cells next back head returned).free all_distinct all_below

    -- one more place is out: another could be put back
    pub room_to_return : (s : ℕ) → IsOut (stored places cells next back head returned) s → returned < length cells
    room_to_return s out =
        omega (arith, length-le_from_Distinct (length cells) (s ∷ walk next head returned) (not_returned s out, distinct) (out_stored s out, below), length-walk next head returned)

    -- the place that was put back last is taken
    pub take_returned : (c : Cell) → 0 < returned → IsTaken (stored places cells next back head returned) (stored places (set cells head c) next back (get_or next head 0) (returned - 1)) head c
    take_returned c some =
        let old : Region = stored places cells next back head returned in
        let left : List ℕ = walk next (get_or next head 0) (returned - 1) ++ never_taken places (length cells) in
        let first : walk next head returned ≡ head ∷ walk next (get_or next head 0) (returned - 1) = walk_first next head (returned - 1) returned (omega (arith, some)) in
        let low : Below (length cells) (head ∷ walk next (get_or next head 0) (returned - 1)) = subst (λ (xs : List ℕ). Below (length cells) xs) first below in
        let free : old.free ≡ head ∷ left = ap (λ (xs : List ℕ). xs ++ never_taken places (length cells)) first in
        let same : (stored places (set cells head c) next back (get_or next head 0) (returned - 1)).free ≡ left =
        ap (λ (k : ℕ). walk next (get_or next head 0) (returned - 1) ++ never_taken places k) (length-set cells head c) in
        subst (λ (r : Region). IsTaken old r head c)
        (sym (region_is (stored places (set cells head c) next back (get_or next head 0) (returned - 1)) left (set old.cells head c) old.next old.back same (sym (set-filled places blank cells head c low.0)) refl refl))
        (take_first old head c left free all_distinct all_below)

    pub rest_distinct : 0 < returned → Distinct (walk next (get_or next head 0) (returned - 1))
    rest_distinct some = (subst (λ (xs : List ℕ). Distinct xs) (walk_first next head (returned - 1) returned (omega (arith, some))) distinct).1

    pub rest_below : 0 < returned → Below (length cells) (head ∷ walk next (get_or next head 0) (returned - 1))
    rest_below some = subst (λ (xs : List ℕ). Below (length cells) xs) (walk_first next head (returned - 1) returned (omega (arith, some))) below

  -- a place is put back
  pub put_stored : (s : ℕ) → length next ≡ length cells → IsOut (stored places cells next back head returned) s → IsPut (stored places cells next back head returned) (stored places cells (set next s head) back s (returned + 1)) s
  put_stored s as_long out =
      let old : Region = stored places cells next back head returned in
      let low : s < length next = omega (arith, out_stored s out, as_long) in
      let now : walk (set next s head) s (returned + 1) ≡ s ∷ walk next head returned = walk-put next s head returned low (not_returned s out) in
      subst (λ (r : Region). IsPut old r s)
      (sym (region_is (stored places cells (set next s head) back s (returned + 1)) (s ∷ old.free) old.cells (set old.next s head) old.back (ap (λ (xs : List ℕ). xs ++ never_taken places (length cells)) now) refl
      (sym (set-filled places 0 next s head low)) refl))
      (put_back old s head)

-- a place that was never taken is taken
pub take_new : (places : ℕ) (cells : List Cell) (next back : List ℕ) (head : ℕ) (c : Cell) → length cells < places → length next ≡ length cells → length back ≡ length cells
    → IsTaken (stored places cells next back head 0) (stored places (cells ++ c ∷ []) (next ++ 0 ∷ []) (back ++ 0 ∷ []) head 0) (length cells) c
take_new places cells next back head c low as_long back_as_long =
    let old : Region = stored places cells next back head 0 in
    let left : List ℕ = never_taken places (length cells + 1) in
    let free : old.free ≡ length cells ∷ left = first_never_taken places (length cells) low in
    let same : (stored places (cells ++ c ∷ []) (next ++ 0 ∷ []) (back ++ 0 ∷ []) head 0).free ≡ left = ap (never_taken places) (length-append cells (c ∷ [])) in
    subst (λ (r : Region). IsTaken old r (length cells) c)
    (sym (region_is (stored places (cells ++ c ∷ []) (next ++ 0 ∷ []) (back ++ 0 ∷ []) head 0) left (set old.cells (length cells) c) old.next old.back same (sym (push-filled places blank cells c low))
    (same-filled places 0 next (omega (arith, low, as_long))) (same-filled places 0 back (omega (arith, low, back_as_long)))))
    (take_first old (length cells) c left free
    (free_distinct places (length cells) [] (omega (arith, low)) tt tt)
    (subst (λ (n : ℕ). Below n old.free) (sym (size_stored places cells next back head 0 (omega (arith, low)))) (free_below places (length cells) [] (omega (arith, low)) tt)))
