-- A line that gives its places back one by one.

use Rattle.std.proofs.Common.{◌≡◌, ℕ, ◌+◌, List, ◌∷◌, length, refl, sym, ap, subst, ◌∙◌, arith}
use Rattle.cell_pool.specs.Places.{NotIn, Apart}
use Rattle.cell_pool.specs.Region.{Region, Line, size, places, len_of, IsOut, IsLine}
use Rattle.cell_pool.specs.Steps.{IsKept, StaysOut, IsPut, IsPopped, IsDrained}

pub IsKept-trans : (a b c : Region) (l : Line) → IsKept a b l → IsKept b c l → IsKept a c l
IsKept-trans a b c l first second = record {
  threaded = second.threaded;
  same_places = second.same_places ∙ first.same_places;
  same_cells = second.same_cells ∙ first.same_cells;
}

-- the place stays out, and isn't in the line
pub record StaysOutOf (old now : Region) (left : Line) (p : ℕ) : Type 0 where
  pub stays : StaysOut old now p
  pub without : NotIn p (places now left)

-- the line l is kept, and shares no place with the line that is left
pub record IsKeptApart (old now : Region) (left l : Line) : Type 0 where
  pub kept : IsKept old now l
  pub apart : Apart (places now left) (places now l)

-- of the line `all` of the region `old` the line `left` is left
pub record IsDraining (old now : Region) (all left : Line) : Type 0 where
  pub threaded : IsLine now left
  pub same_size : size now ≡ size old
  pub counted : length now.free + len_of left ≡ length old.free + len_of all
  pub others_out : (p : ℕ) → IsOut old p → NotIn p (places old all) → StaysOutOf old now left p
  pub others : (l : Line) → IsLine old l → Apart (places old all) (places old l) → IsKeptApart old now left l

pub drain_start : (r : Region) (l : Line) → IsLine r l → IsDraining r r l l
drain_start r l line = record {
  threaded = line;
  same_size = refl;
  counted = refl;
  others_out = λ p out without. record { stays = record { out = out; same_cell = refl }; without = without };
  others = λ other threaded apart. record { kept = record { threaded = threaded; same_places = refl; same_cells = refl }; apart = apart };
}

pub drain_step : (old now new : Region) (all left rest : Line) (s : ℕ) → IsDraining old now all left → IsPopped now left rest s → IsLine now rest → IsPut now new s → IsDraining old new all rest
drain_step old now new all left rest s so_far popped line put =
    let stays : IsKept now new rest = put.others rest line popped.fresh in
    record {
      threaded = stays.threaded;
      same_size = put.same_size ∙ so_far.same_size;
      counted = omega (arith, so_far.counted, ap length put.first, popped.fewer);
      others_out = λ p out without.
          let before : StaysOutOf old now left p = so_far.others_out p out without in
          let away : NotIn p (s ∷ places now rest) = subst (λ (xs : List ℕ). NotIn p xs) popped.first before.without in
          let after : StaysOut now new p = put.others_out p before.stays.out away.0 in
          record {
            stays = record { out = after.out; same_cell = after.same_cell ∙ before.stays.same_cell };
            without = subst (λ (xs : List ℕ). NotIn p xs) (sym stays.same_places) away.1;
          };
      others = λ l other apart.
          let before : IsKeptApart old now left l = so_far.others l other apart in
          let away : Apart (s ∷ places now rest) (places now l) = subst (λ (xs : List ℕ). Apart xs (places now l)) popped.first before.apart in
          let after : IsKept now new l = put.others l before.kept.threaded away.0 in
          record {
            kept = IsKept-trans old now new l before.kept after;
            apart = subst (λ (xs : List ℕ). Apart xs (places new l)) (sym stays.same_places) (subst (λ (ys : List ℕ). Apart (places now rest) ys) (sym after.same_places) away.1);
          };
    }

pub drain_end : (old now : Region) (all left : Line) → IsDraining old now all left → len_of left ≡ 0 → IsDrained old now all
drain_end old now all left so_far none = record {
  more = omega (arith, so_far.counted, none);
  same_size = so_far.same_size;
  others_out = λ p out without. (so_far.others_out p out without).stays;
  others = λ l line apart. (so_far.others l line apart).kept;
}
