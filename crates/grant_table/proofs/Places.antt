-- the place at which a search for a label ends

use Rattle.std.proofs.Common.{◌≡◌, ◌≢◌, ℕ, zero, suc, ◌+◌, ◌<◌, ◌≤◌, Bool, List, [], ◌∷◌, length, map, None, Some, refl, sym, ap, ◌∙◌, arith, inl, inr}
use Rattle.std.specs.Prelude.{slice_get, slice_set, get_or, position, IfSome, IfNone, ◌==◌}
use Rattle.std.specs.List.{remove, insert, position_or_len}
use Rattle.std.proofs.lemmas.Bool.{cases_eq, cases_lt, eq-eqb, ne_eqb, lt-ltb, le-ltb}
use Rattle.std.proofs.lemmas.List.Edits.{length-remove}
use Rattle.keyed_lists.specs.Keyed.{at}
use Rattle.branch_desk.specs.port_model.Grants.{Grant, grant_label}
use Rattle.grant_table.specs.declared.held.Held.{Held}
use Rattle.grant_table.specs.Held.{shown}
use Rattle.grant_table.specs.Table.{AreApart}
use Rattle.grant_table.specs.Places.{IsPlaceOf, IsGapOf}
use Rattle.grant_table.proofs.Apart.{at_here, at_there, put_here, put_there, without_here, without_there, without_absent, absent_ended}

-- the first grant is of the label, or the place stands behind it
first_place : (x : Grant) (xs : List Grant) (k : ℕ) → x.label ≡ k → IsPlaceOf (x ∷ xs) k 0
first_place x xs k same = record {
  inside = omega arith;
  found = at_here k x xs same;
  replaced = λ grant label. sym (put_here grant x xs (same ∙ sym label));
  ended = λ apart. sym (without_here k x xs same ∙ without_absent k xs (rw same at apart.0));
}

later_place : (x : Grant) (xs : List Grant) (k i : ℕ) → x.label ≢ k → IsPlaceOf xs k i → IsPlaceOf (x ∷ xs) k (suc i)
later_place x xs k i other place = record {
  inside = omega (arith, place.inside);
  found = at_there k x xs other ∙ place.found;
  replaced = λ grant label.
      ap (λ (t : List Grant). x ∷ t) (place.replaced grant label) ∙ sym (put_there grant x xs (λ e. other (e ∙ label)));
  ended = λ apart. ap (λ (t : List Grant). x ∷ t) (place.ended apart.1) ∙ sym (without_there k x xs other);
}

abbrev is_of : ℕ → Held → Bool
is_of k h = (shown h).label == k

one_more : (n : ℕ) → 1 + n ≡ suc n
one_more n = omega arith

place_found : (k : ℕ) (hs : List Held) → position_or_len (is_of k) hs < length hs → IsPlaceOf (map shown hs) k (position_or_len (is_of k) hs)
place_found k [] inside = absurd (omega arith)
place_found k (h ∷ hs) inside = elim (cases_eq (shown h).label k) [
  | inl same ↦ rw (eq-eqb (shown h).label k same) (first_place (shown h) (map shown hs) k same)
  | inr other ↦
      let rest : position_or_len (is_of k) (h ∷ hs) ≡ suc (position_or_len (is_of k) hs) = rw (ne_eqb (shown h).label k other) (one_more (position_or_len (is_of k) hs)) in
      rw rest (later_place (shown h) (map shown hs) k (position_or_len (is_of k) hs) other (place_found k hs (omega (arith, rest, inside))))
]

none_found : (k : ℕ) (hs : List Held) → length hs ≤ position_or_len (is_of k) hs → at grant_label k (map shown hs) ≡ None
none_found k [] past = refl
none_found k (h ∷ hs) past = elim (cases_eq (shown h).label k) [
  | inl same ↦
      let first : position_or_len (is_of k) (h ∷ hs) ≡ 0 = rw (eq-eqb (shown h).label k same) refl in
      absurd (omega (arith, first, past))
  | inr other ↦
      let rest : position_or_len (is_of k) (h ∷ hs) ≡ suc (position_or_len (is_of k) hs) = rw (ne_eqb (shown h).label k other) (one_more (position_or_len (is_of k) hs)) in
      at_there k (shown h) (map shown hs) other ∙ none_found k hs (omega (arith, rest, past))
]

-- what a search answers
pub place_some : (k : ℕ) (hs : List Held) → IfSome (position (is_of k) hs) (IsPlaceOf (map shown hs) k)
place_some k hs = elim (cases_lt (position_or_len (is_of k) hs) (length hs)) [
  | inl inside ↦ rw (lt-ltb (position_or_len (is_of k) hs) (length hs) inside) (place_found k hs inside)
  | inr past ↦ rw (le-ltb (position_or_len (is_of k) hs) (length hs) past) tt
]

pub place_none : (k : ℕ) (hs : List Held) → IfNone (position (is_of k) hs) (at grant_label k (map shown hs) ≡ None)
place_none k hs = elim (cases_lt (position_or_len (is_of k) hs) (length hs)) [
  | inl inside ↦ rw (lt-ltb (position_or_len (is_of k) hs) (length hs) inside) tt
  | inr past ↦ rw (le-ltb (position_or_len (is_of k) hs) (length hs) past) (none_found k hs past)
]

-- a list that is mapped, and one of its elements is taken out or put in
pub map_remove : (hs : List Held) (i : ℕ) → map shown (remove hs i) ≡ remove (map shown hs) i
map_remove [] zero = refl
map_remove [] (suc i) = refl
map_remove (h ∷ hs) zero = refl
map_remove (h ∷ hs) (suc i) = ap (λ (t : List Grant). shown h ∷ t) (map_remove hs i)

pub map_insert : (hs : List Held) (i : ℕ) (h : Held) → map shown (insert hs i h) ≡ insert (map shown hs) i (shown h)
map_insert hs zero h = refl
map_insert [] (suc i) h = refl
map_insert (g ∷ hs) (suc i) h = ap (λ (t : List Grant). shown g ∷ t) (map_insert hs i h)

-- the place of a grant that is taken out
pub gap : (xs : List Grant) (k i : ℕ) → IsPlaceOf xs k i → AreApart xs → length (remove xs i) < 256 → IsGapOf xs (remove xs i) k i
gap xs k i place apart room = record {
  inside = omega (arith, place.inside, length-remove xs i place.inside);
  room = room;
  absent = rw (place.ended apart) (absent_ended k xs);
  replaced = place.replaced;
}

-- the element at a place has another lifetime
pub set_shown : (hs : List Held) (i n : ℕ) (h y : Held) → i < length hs → h ≡ get_or hs i h
    → shown y ≡ record (shown h) { lifetime = n } → (g : Grant) → slice_get (map shown hs) i ≡ Some g
    → map shown (slice_set hs i y) ≡ slice_set (map shown hs) i (record g { lifetime = n })
set_shown [] i n h y inside read is g found = absurd (omega arith)
set_shown (x ∷ hs) zero n h y inside read is g found =
    let it : shown x ≡ g = cc in rw (is, read, it) refl
set_shown (x ∷ hs) (suc i) n h y inside read is g found =
    ap (λ (t : List Grant). shown x ∷ t) (set_shown hs i n h y (omega arith) read is g found)

-- there is a grant at each place
pub place_holds : (xs : List Grant) (i : ℕ) → i < length xs → (g : Grant) × (slice_get xs i ≡ Some g)
place_holds [] i inside = absurd (omega arith)
place_holds (x ∷ xs) zero inside = (x, refl)
place_holds (x ∷ xs) (suc i) inside = place_holds xs i (omega arith)
