-- Several lines that share one region: what a call on one of them leaves of the others.

use Rattle.std.proofs.Common.{◌≡◌, ◌≢◌, ℕ, zero, suc, ◌+◌, ◌<◌, inl, inr, List, [], ◌∷◌, ◌++◌, length, map, get_or, set, refl, sym, ap, subst, ◌∙◌, arith, length-set, length-append, get_or-set_same, get_or-set_other}
use Rattle.std.specs.List.{sum_by}
use Rattle.std.proofs.lemmas.Bool.{cases_eq}
use Rattle.std.proofs.lemmas.List.{map-set, length-map}
use Rattle.std.proofs.Math.ListN.{get_or-append}
use Rattle.std.proofs.Math.Seq.{get_or-append_seam}
use Rattle.std.proofs.lemmas.List.Sums.{sum_by-set, sum_by-cons}
use Rattle.atm_cells.specs.declared.cell.Cell.{Cell}
use Rattle.cell_pool.specs.Places.{NotIn, Apart}
use Rattle.cell_pool.specs.Region.{Region, Line, cell_at, places, cells_of, len_of, IsLine}
use Rattle.cell_pool.specs.Steps.{IsKept, IsKeptFrom, IsTaken, IsPut, IsPushed, IsPopped, IsDrained}
use Rattle.cell_pool.specs.Shares.{IsApartFromEach, ShareRegion, len_of_all, IsKeptBeside, LineChanges, IsKeptBesideEach, LinesChange, ChangesBeside}
use Rattle.cell_pool.proofs.Lists.{Apart-push, Apart-sym, Apart-nil}
use Rattle.cell_pool.proofs.Regions.{length-places}
use Rattle.cell_pool.proofs.Drains.{IsKept-trans}

-- lines that were apart and are kept both are apart
apart_kept : (old new : Region) (x y : Line) → places new x ≡ places old x → places new y ≡ places old y → Apart (places old x) (places old y) → Apart (places new x) (places new y)
apart_kept old new x y ex ey apart =
    subst (λ (xs : List ℕ). Apart xs (places new y)) (sym ex) (subst (λ (ys : List ℕ). Apart (places old x) ys) (sym ey) apart)

-- a slot is taken with a cell in it and pushed to the line q
pub line_sent : (old mid new : Region) (q r : Line) (s : ℕ) (c : Cell) → IsLine old q → IsTaken old mid s c → IsPushed mid new q r s → LineChanges old new q r
line_sent old mid new q r s c line taken pushed =
    let kept_q : IsKept old mid q = (taken.others q line).kept in
    let longer : len_of r ≡ len_of q + 1 =
    sym (length-places new r) ∙ ap length pushed.now_places ∙ length-append (places mid q) (s ∷ []) ∙ ap (λ n. n + 1) (length-places mid q) in
    record {
      threaded = pushed.threaded;
      same_size = ap length pushed.same_store ∙ taken.same_size;
      counted = omega (arith, longer, ap length taken.first, ap length pushed.same_free);
      others = λ l other apart.
          let from : IsKeptFrom old mid s l = taken.others l other in
          let mid_apart : Apart (places mid q) (places mid l) = apart_kept old mid q l kept_q.same_places from.kept.same_places apart in
          let fresh : NotIn s (places mid l) = subst (λ (xs : List ℕ). NotIn s xs) (sym from.kept.same_places) from.without in
          let after : IsKept mid new l = pushed.others l from.kept.threaded mid_apart fresh in
          record {
            kept = IsKept-trans old mid new l from.kept after;
            apart = subst (λ (xs : List ℕ). Apart xs (places new l)) (sym pushed.now_places)
                (subst (λ (ys : List ℕ). Apart (places mid q ++ s ∷ []) ys) (sym after.same_places) (Apart-push (places mid q) (places mid l) s mid_apart fresh));
          };
    }

-- the line that was sent to has the cell besides at its end
pub cells_of-sent : (old mid new : Region) (q r : Line) (s : ℕ) (c : Cell) → IsLine old q → IsTaken old mid s c → IsPushed mid new q r s → cells_of new r ≡ cells_of old q ++ c ∷ []
cells_of-sent old mid new q r s c line taken pushed =
    pushed.now_cells ∙ ap (λ (cs : List Cell). cs ++ cell_at mid s ∷ []) (taken.others q line).kept.same_cells ∙ ap (λ (d : Cell). cells_of old q ++ d ∷ []) taken.holds

-- the first slot of the line q is popped and put back
pub line_popped : (old new : Region) (q r : Line) (s : ℕ) → IsPopped old q r s → IsLine old r → IsPut old new s → LineChanges old new q r
line_popped old new q r s popped line put =
    let kept_r : IsKept old new r = put.others r line popped.fresh in
    record {
      threaded = kept_r.threaded;
      same_size = put.same_size;
      counted = omega (arith, popped.fewer, ap length put.first);
      others = λ l other apart.
          let away : Apart (s ∷ places old r) (places old l) = subst (λ (xs : List ℕ). Apart xs (places old l)) popped.first apart in
          let after : IsKept old new l = put.others l other away.0 in
          record { kept = after; apart = apart_kept old new r l kept_r.same_places after.same_places away.1 };
    }

-- the line that was popped had the cell of the slot before those that it has
pub cells_of-popped : (old new : Region) (q r : Line) (s : ℕ) → IsPopped old q r s → IsLine old r → IsPut old new s → cells_of old q ≡ cell_at old s ∷ cells_of new r
cells_of-popped old new q r s popped line put =
    ap (map (cell_at old)) popped.first ∙ ap (λ (cs : List Cell). cell_at old s ∷ cs) (sym (put.others r line popped.fresh).same_cells)

-- at the place that was written the new line stands, at every other one the old one
at_place : (P : ℕ → Line → Type 0) (ls : List Line) (k : ℕ) (r d : Line) → k < length ls → P k r → ((j : ℕ) → j < length ls → j ≢ k → P j (get_or ls j d)) → (j : ℕ) → j < length (set ls k r) → P j (get_or (set ls k r) j d)
at_place P ls k r d within here there j h =
    elim (cases_eq j k) [
      | inl e ↦ rw (e, get_or-set_same ls k r d within) here
      | inr n ↦ rw (get_or-set_other ls k j r d n) (there j (omega (arith, h, length-set ls k r)) n)
    ]

-- two functions that agree on each element but one give lists that differ there alone
map_same : {A B : Type 0} (f g : A → B) (ls : List A) → ((j : ℕ) (d : A) → j < length ls → f (get_or ls j d) ≡ g (get_or ls j d)) → map f ls ≡ map g ls
map_same f g [] same = refl
map_same f g (l ∷ ls) same =
    ap (λ x. x ∷ map f ls) (same 0 l (omega arith)) ∙ ap (λ t. g l ∷ t) (map_same f g ls (λ j d h. same (suc j) d (omega arith)))

set-map_same : {A B : Type 0} (f g : A → B) (ls : List A) (k : ℕ) (x : B) → ((j : ℕ) (d : A) → j < length ls → j ≢ k → f (get_or ls j d) ≡ g (get_or ls j d)) → set (map f ls) k x ≡ set (map g ls) k x
set-map_same f g [] k x same = refl
set-map_same f g (l ∷ ls) zero x same =
    ap (λ t. x ∷ t) (map_same f g ls (λ j d h. same (suc j) d (omega arith) (λ e. absurd (omega arith))))
set-map_same f g (l ∷ ls) (suc k) x same =
    ap (λ y. y ∷ set (map f ls) k x) (same 0 l (omega arith) (λ e. absurd (omega arith)))
    ∙ ap (λ t. g l ∷ t) (set-map_same f g ls k x (λ j d h n. same (suc j) d (omega arith) (λ e. n (omega arith))))

module _ (old new : Region) (ls : List Line) (k : ℕ) (d r : Line) (within : k < length ls) (share : ShareRegion old ls) (changed : LineChanges old new (get_or ls k d) r) where
  -- each other line is kept, and apart from the new one
  beside : (j : ℕ) (e : Line) → j < length ls → j ≢ k → IsKeptBeside old new r (get_or ls j e)
  beside j e h n = changed.others (get_or ls j e) (share.each j e h) (share.apart k j d e within h (λ i. n (sym i)))

  pub share_set : ShareRegion new (set ls k r)
  share_set = record {
    each = λ j e h. at_place (λ j l. IsLine new l) ls k r e within changed.threaded (λ j h n. (beside j e h n).kept.threaded) j h;
    apart = λ i j a b hi hj n.
        at_place (λ i x. (j : ℕ) → j < length (set ls k r) → j ≢ i → Apart (places new x) (places new (get_or (set ls k r) j b))) ls k r a within
        (at_place (λ j l. j ≢ k → Apart (places new r) (places new l)) ls k r b within (λ m. absurd (m refl)) (λ j h m _. (beside j b h m).apart))
        (λ i h m. at_place (λ j l. j ≢ i → Apart (places new (get_or ls i a)) (places new l)) ls k r b within
        (λ _. Apart-sym (places new r) (places new (get_or ls i a)) (beside i a h m).apart)
        (λ j g q z. apart_kept old new (get_or ls i a) (get_or ls j b) (beside i a h m).kept.same_places (beside j b g q).kept.same_places
        (share.apart i j a b h g (λ e. z (sym e)))))
        i hi j hj (λ e. n (sym e));
  }

  -- of several lines one changes
  pub line_set : LinesChange old new ls (set ls k r)
  line_set = record {
    share = share_set;
    same_size = changed.same_size;
    counted = omega (arith, changed.counted, sum_by-set len_of ls k r d within);
    others = λ l line apart.
        let b : IsKeptBeside old new r l = changed.others l line (apart.each k d within) in
        record {
          kept = b.kept;
          apart = record {
            each = λ j e h. at_place (λ j x. Apart (places new x) (places new l)) ls k r e within b.apart
                (λ j h n. apart_kept old new (get_or ls j e) l (beside j e h n).kept.same_places b.kept.same_places (apart.each j e h)) j h;
          };
        };
  }

  -- the cells of the lines, of which one changed
  pub map-cells_of-set : map (cells_of new) (set ls k r) ≡ set (map (cells_of old) ls) k (cells_of new r)
  map-cells_of-set = map-set (cells_of new) ls k r
      ∙ set-map_same (cells_of new) (cells_of old) ls k (cells_of new r) (λ j e h n. (beside j e h n).kept.same_cells)

module _ (old new : Region) (ls : List Line) (q r : Line) (share : ShareRegion old ls) (apart : IsApartFromEach old ls q) (changed : LineChanges old new q r) where
  each_kept : (j : ℕ) (e : Line) → j < length ls → IsKeptBeside old new r (get_or ls j e)
  each_kept j e h = changed.others (get_or ls j e) (share.each j e h) (Apart-sym (places old (get_or ls j e)) (places old q) (apart.each j e h))

  -- a line beside several others changes: those still share the region
  pub share_beside : ShareRegion new ls
  share_beside = record {
    each = λ j e h. (each_kept j e h).kept.threaded;
    apart = λ i j a b hi hj n. apart_kept old new (get_or ls i a) (get_or ls j b) (each_kept i a hi).kept.same_places (each_kept j b hj).kept.same_places (share.apart i j a b hi hj n);
  }

  pub apart_beside : IsApartFromEach new ls r
  apart_beside = record { each = λ j e h. Apart-sym (places new r) (places new (get_or ls j e)) (each_kept j e h).apart }

  pub map-cells_of-beside : map (cells_of new) ls ≡ map (cells_of old) ls
  map-cells_of-beside = map_same (cells_of new) (cells_of old) ls (λ j e h. (each_kept j e h).kept.same_cells)

pub LinesChange-refl : (r : Region) (ls : List Line) → ShareRegion r ls → LinesChange r r ls ls
LinesChange-refl r ls share = record {
  share = share;
  same_size = refl;
  counted = refl;
  others = λ l line apart. record { kept = record { threaded = line; same_places = refl; same_cells = refl }; apart = apart };
}

pub LinesChange-trans : (a b c : Region) (qs rs ts : List Line) → LinesChange a b qs rs → LinesChange b c rs ts → LinesChange a c qs ts
LinesChange-trans a b c qs rs ts first second = record {
  share = second.share;
  same_size = second.same_size ∙ first.same_size;
  counted = omega (arith, first.counted, second.counted);
  others = λ l line apart.
      let before : IsKeptBesideEach a b rs l = first.others l line apart in
      let after : IsKeptBesideEach b c ts l = second.others l before.kept.threaded before.apart in
      record { kept = IsKept-trans a b c l before.kept after.kept; apart = after.apart };
}

pub LineChanges-refl : (r : Region) (l : Line) → IsLine r l → LineChanges r r l l
LineChanges-refl r l line = record {
  threaded = line;
  same_size = refl;
  counted = refl;
  others = λ x other apart. record { kept = record { threaded = other; same_places = refl; same_cells = refl }; apart = apart };
}

-- a line beside several others is drained: those still share the region, with the cells that they had
module _ (old new : Region) (ls : List Line) (q : Line) (share : ShareRegion old ls) (apart : IsApartFromEach old ls q) (drained : IsDrained old new q) where
  each_left : (j : ℕ) (e : Line) → j < length ls → IsKept old new (get_or ls j e)
  each_left j e h = drained.others (get_or ls j e) (share.each j e h) (Apart-sym (places old (get_or ls j e)) (places old q) (apart.each j e h))

  pub share_drained : ShareRegion new ls
  share_drained = record {
    each = λ j e h. (each_left j e h).threaded;
    apart = λ i j a b hi hj n. apart_kept old new (get_or ls i a) (get_or ls j b) (each_left i a hi).same_places (each_left j b hj).same_places (share.apart i j a b hi hj n);
  }

  pub map-cells_of-drained : map (cells_of new) ls ≡ map (cells_of old) ls
  map-cells_of-drained = map_same (cells_of new) (cells_of old) ls (λ j e h. (each_left j e h).same_cells)

-- the last of several lines beside the others
module _ (r : Region) (front : List Line) (q : Line) (share : ShareRegion r (front ++ q ∷ [])) where
  pub share_front : ShareRegion r front
  share_front = record {
    each = λ j e h. subst (λ (l : Line). IsLine r l) (get_or-append front (q ∷ []) e j h) (share.each j e (omega (arith, h, length-append front (q ∷ []))));
    apart = λ i j a b hi hj n.
        subst (λ (l : Line). Apart (places r l) (places r (get_or front j b))) (get_or-append front (q ∷ []) a i hi)
        (subst (λ (l : Line). Apart (places r (get_or (front ++ q ∷ []) i a)) (places r l)) (get_or-append front (q ∷ []) b j hj)
        (share.apart i j a b (omega (arith, hi, length-append front (q ∷ []))) (omega (arith, hj, length-append front (q ∷ []))) n));
  }

  pub line_last : IsLine r q
  line_last = subst (λ (l : Line). IsLine r l) (get_or-append_seam front q [] q) (share.each (length front) q (omega (arith, length-append front (q ∷ []))))

  pub apart_last : IsApartFromEach r front q
  apart_last = record {
    each = λ j e h.
        subst (λ (l : Line). Apart (places r l) (places r q)) (get_or-append front (q ∷ []) e j h)
        (subst (λ (l : Line). Apart (places r (get_or (front ++ q ∷ []) j e)) (places r l)) (get_or-append_seam front q [] q)
        (share.apart j (length front) e q (omega (arith, h, length-append front (q ∷ []))) (omega (arith, length-append front (q ∷ []))) (λ i. absurd (omega (arith, h, i)))));
  }

-- a line has no place where its length is 0
pub places-empty : (r : Region) (l : Line) → len_of l ≡ 0 → places r l ≡ []
places-empty r l none = nothing (places r l) (length-places r l ∙ none)
  where
    nothing : (xs : List ℕ) → length xs ≡ 0 → xs ≡ []
    nothing [] e = refl
    nothing (x ∷ xs) e = absurd (omega (arith, e))

-- lines without places share any region
module _ (r : Region) (ls : List Line) (lines : (j : ℕ) (e : Line) → j < length ls → IsLine r (get_or ls j e)) (none : (j : ℕ) (e : Line) → j < length ls → len_of (get_or ls j e) ≡ 0) where
  pub share_empty : ShareRegion r ls
  share_empty = record {
    each = lines;
    apart = λ i j a b hi hj n. subst (λ (xs : List ℕ). Apart xs (places r (get_or ls j b))) (sym (places-empty r (get_or ls i a) (none i a hi))) tt;
  }

  pub map-cells_of-empty : map (cells_of r) ls ≡ map (λ _. []) ls
  map-cells_of-empty = map_same (cells_of r) (λ _. []) ls (λ j e h. ap (map (cell_at r)) (places-empty r (get_or ls j e) (none j e h)))

-- a line has as many cells as places
pub length-cells_of : (r : Region) (l : Line) → length (cells_of r l) ≡ len_of l
length-cells_of r l = length-map (places r l) (cell_at r) ∙ length-places r l

pub len_of_all-cells : (r : Region) (ls : List Line) → sum_by (λ cs. length cs) (map (cells_of r) ls) ≡ len_of_all ls
len_of_all-cells r [] = refl
len_of_all-cells r (l ∷ ls) =
    sum_by-cons (λ (cs : List Cell). length cs) (cells_of r l) (map (cells_of r) ls)
    ∙ omega (arith, length-cells_of r l, len_of_all-cells r ls) ∙ sym (sum_by-cons len_of l ls)

-- a line without places shares none with any other
pub apart_empty : (r : Region) (ls : List Line) (l : Line) → len_of l ≡ 0 → IsApartFromEach r ls l
apart_empty r ls l none = record {
  each = λ k d h. subst (λ (xs : List ℕ). Apart (places r (get_or ls k d)) xs) (sym (places-empty r l none)) (Apart-nil (places r (get_or ls k d)));
}

-- a line changed in a region without other lines
pub changes_alone : (old new : Region) (q r : Line) → LineChanges old new q r → ChangesBeside old new [] q r
changes_alone old new q r changed = record { chain = changed; apart = record { each = λ k d h. absurd (omega arith) } }
