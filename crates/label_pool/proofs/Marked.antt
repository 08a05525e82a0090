-- the numbers that are marked, and what a change of a mark makes of them

use Rattle.std.proofs.Common.{◌≡◌, ℕ, zero, suc, ◌+◌, ◌-◌, ◌<◌, ◌≤◌, Bool, true, false, List, [], ◌∷◌, length, None, Some, refl, sym, ap, ◌∙◌, arith, inl, inr}
use Rattle.std.specs.Prelude.{slice_index_or, slice_set, nat_eq, nat_le, filter, find, map, ◌&&◌, ◌++◌, if◌then◌else◌}
use Rattle.std.specs.List.{list_any, range_with_len}
use Rattle.std.proofs.lemmas.Bool.{cases_Bool, cases_lt, cases_eq, eq-eqb, ne_eqb, le-leb, lt-leb}
use Rattle.std.proofs.lemmas.List.FromFn.{map-range_with_len_more}
use Rattle.keyed_lists.specs.Keyed.{without, entered}
use Rattle.net_types.specs.Label.{is_label_number}
use Rattle.label_pool.specs.Marks.{marked}
use Rattle.label_pool.specs.Pool.{is_label_between, labels_between}

abbrev itself : ℕ → ℕ
itself n = n

-- numbers from a place on are above those before it
without_below : (n f : ℕ) (ms : List Bool) → n < f → without itself n (marked f ms) ≡ marked f ms
without_below n f [] below = refl
without_below n f (true ∷ ms) below =
    rw (ne_eqb f n (λ e. absurd (omega arith))) (ap (λ (t : List ℕ). f ∷ t) (without_below n (f + 1) ms (omega arith)))
without_below n f (false ∷ ms) below = without_below n (f + 1) ms (omega arith)

-- a number that was taken away isn't there
pub absent_without : (n : ℕ) (xs : List ℕ) → list_any (nat_eq n) (without itself n xs) ≡ false
absent_without n [] = refl
absent_without n (x ∷ xs) = elim (cases_eq x n) [
  | inl same ↦ rw (eq-eqb x n same) (absent_without n xs)
  | inr other ↦ rw (ne_eqb x n other, ne_eqb n x (λ e. other (sym e))) (absent_without n xs)
]

entered_below : (n f : ℕ) (ms : List Bool) → n < f → entered nat_le n (marked f ms) ≡ n ∷ marked f ms
entered_below n f [] below = refl
entered_below n f (true ∷ ms) below = rw (le-leb n f (omega arith)) refl
entered_below n f (false ∷ ms) below = entered_below n (f + 1) ms (omega arith)

-- a mark is taken away
pub marked_off : (f : ℕ) (ms : List Bool) (i n : ℕ) → n ≡ f + i → marked f (slice_set ms i false) ≡ without itself n (marked f ms)
marked_off f [] i n e = refl
marked_off f (true ∷ ms) zero n e =
    rw (eq-eqb f n (omega arith)) (sym (without_below n (f + 1) ms (omega arith)))
marked_off f (false ∷ ms) zero n e = sym (without_below n (f + 1) ms (omega arith))
marked_off f (true ∷ ms) (suc i) n e =
    rw (ne_eqb f n (λ same. absurd (omega arith))) (ap (λ (t : List ℕ). f ∷ t) (marked_off (f + 1) ms i n (omega arith)))
marked_off f (false ∷ ms) (suc i) n e = marked_off (f + 1) ms i n (omega arith)

pub length_off : (f : ℕ) (ms : List Bool) (i : ℕ) → slice_index_or ms i false ≡ true → length (marked f (slice_set ms i false)) + 1 ≡ length (marked f ms)
length_off f [] i on = absurd (cc on)
length_off f (true ∷ ms) zero on = omega arith
length_off f (false ∷ ms) zero on = absurd (cc on)
length_off f (true ∷ ms) (suc i) on = omega (arith, length_off (f + 1) ms i on)
length_off f (false ∷ ms) (suc i) on = length_off (f + 1) ms i on

-- a mark is set where there was none
pub marked_on : (f : ℕ) (ms : List Bool) (i n : ℕ) → n ≡ f + i → i < length ms → slice_index_or ms i false ≡ false
    → marked f (slice_set ms i true) ≡ entered nat_le n (marked f ms)
marked_on f [] i n e inside off = absurd (omega arith)
marked_on f (true ∷ ms) zero n e inside off = absurd (cc off)
marked_on f (false ∷ ms) zero n e inside off =
    let same : f ≡ n = omega arith in
    rw same (sym (entered_below n (n + 1) ms (omega arith)))
marked_on f (true ∷ ms) (suc i) n e inside off =
    rw (lt-leb n f (omega arith)) (ap (λ (t : List ℕ). f ∷ t) (marked_on (f + 1) ms i n (omega arith) (omega arith) off))
marked_on f (false ∷ ms) (suc i) n e inside off = marked_on (f + 1) ms i n (omega arith) (omega arith) off

pub length_on : (f : ℕ) (ms : List Bool) (i : ℕ) → i < length ms → slice_index_or ms i false ≡ false
    → length (marked f (slice_set ms i true)) ≡ length (marked f ms) + 1
length_on f [] i inside off = absurd (omega arith)
length_on f (true ∷ ms) zero inside off = absurd (cc off)
length_on f (false ∷ ms) zero inside off = omega arith
length_on f (true ∷ ms) (suc i) inside off = omega (arith, length_on (f + 1) ms i (omega arith) off)
length_on f (false ∷ ms) (suc i) inside off = length_on (f + 1) ms i (omega arith) off

-- what is marked is found among the numbers
pub marked_any : (f : ℕ) (ms : List Bool) (i n : ℕ) → n ≡ f + i → slice_index_or ms i false ≡ true → list_any (nat_eq n) (marked f ms) ≡ true
marked_any f [] i n e on = absurd (cc on)
marked_any f (true ∷ ms) zero n e on = rw (eq-eqb n f (omega arith)) refl
marked_any f (false ∷ ms) zero n e on = absurd (cc on)
marked_any f (true ∷ ms) (suc i) n e on =
    rw (ne_eqb n f (λ same. absurd (omega arith))) (marked_any (f + 1) ms i n (omega arith) on)
marked_any f (false ∷ ms) (suc i) n e on = marked_any (f + 1) ms i n (omega arith) on

-- no number below a place passes a test
abbrev pub NonePasses : (test : ℕ → Bool) → (f : ℕ) → List Bool → (end : ℕ) → Type 0
NonePasses test f ms end = (k n : ℕ) → n ≡ f + k → k < end → (slice_index_or ms k false && test n) ≡ false

rest_passes : (test : ℕ → Bool) (f : ℕ) (m : Bool) (ms : List Bool) (end : ℕ) → NonePasses test f (m ∷ ms) (suc end) → NonePasses test (f + 1) ms end
rest_passes test f m ms end none k n e below = none (suc k) n (omega arith) (omega arith)

-- the first number that passes a test is that of the first place that is marked and passes it
pub find_first : (test : ℕ → Bool) (f : ℕ) (ms : List Bool) (i n : ℕ) → n ≡ f + i → NonePasses test f ms i
    → (slice_index_or ms i false && test n) ≡ true → find test (marked f ms) ≡ Some n
find_first test f [] i n e before here = absurd (cc here)
find_first test f (true ∷ ms) zero n e before here =
    let is : f ≡ n = omega arith in rw (is, here) refl
find_first test f (false ∷ ms) zero n e before here = absurd (cc here)
find_first test f (true ∷ ms) (suc i) n e before here =
    rw (before 0 f (omega arith) (omega arith)) (find_first test (f + 1) ms i n (omega arith) (rest_passes test f true ms i before) here)
find_first test f (false ∷ ms) (suc i) n e before here =
    find_first test (f + 1) ms i n (omega arith) (rest_passes test f false ms i before) here

pub find_none : (test : ℕ → Bool) (f : ℕ) (ms : List Bool) → NonePasses test f ms (length ms) → find test (marked f ms) ≡ None
find_none test f [] none = refl
find_none test f (true ∷ ms) none =
    rw (none 0 f (omega arith) (omega arith)) (find_none test (f + 1) ms (rest_passes test f true ms (length ms) none))
find_none test f (false ∷ ms) none = find_none test (f + 1) ms (rest_passes test f false ms (length ms) none)

-- marks that a test gives
pub marked_map : (p : ℕ → Bool) (f n : ℕ) → marked f (map p (range_with_len f n)) ≡ filter p (range_with_len f n)
marked_map p f zero = refl
marked_map p f (suc n) = elim (cases_Bool (p f)) [
  | inl on ↦ rw (on) (ap (λ (t : List ℕ). f ∷ t) (marked_map p (f + 1) n))
  | inr off ↦ rw (off) (marked_map p (f + 1) n)
]

pub marked_push : (f : ℕ) (ms : List Bool) (m : Bool) → length (marked f (ms ++ m ∷ [])) ≡ length (marked f ms) + (if m then 1 else 0)
marked_push f [] true = omega arith
marked_push f [] false = omega arith
marked_push f (true ∷ ms) m = omega (arith, marked_push (f + 1) ms m)
marked_push f (false ∷ ms) m = marked_push (f + 1) ms m

-- a number of a range is one of a label within it exactly where it is one of a label
pub labels_in_range : (least greatest f n : ℕ) → least ≤ f → f + n ≤ greatest + 1
    → filter (is_label_between least greatest) (range_with_len f n) ≡ filter is_label_number (range_with_len f n)
labels_in_range least greatest f zero low high = refl
labels_in_range least greatest f (suc n) low high =
    let rest = labels_in_range least greatest (f + 1) n (omega arith) (omega arith) in
    elim (cases_Bool (is_label_number f)) [
      | inl on ↦ rw (le-leb least f low, le-leb f greatest (omega arith), on) (ap (λ (t : List ℕ). f ∷ t) rest)
      | inr off ↦ rw (off) rest
    ]

-- the marks of a new pool
pub marked_labels : (least greatest : ℕ) → marked least (map is_label_number (range_with_len least (greatest + 1 - least))) ≡ labels_between least greatest
marked_labels least greatest = elim (cases_lt greatest least) [
  | inl empty ↦ (let none : greatest + 1 - least ≡ 0 = omega arith in rw none refl)
  | inr some ↦ marked_map is_label_number least (greatest + 1 - least)
      ∙ sym (labels_in_range least greatest least (greatest + 1 - least) (omega arith) (omega arith))
]

-- one mark more
pub more_marks : (p : ℕ → Bool) (f n : ℕ) (ms : List Bool) → ms ≡ map p (range_with_len f n)
    → ms ++ p (f + n) ∷ [] ≡ map p (range_with_len f (n + 1))
more_marks p f n ms is =
    rw is (sym (map-range_with_len_more p f n (f + n) refl))

-- a number that a test marks passes it
pub marks_pass : (p : ℕ → Bool) (f n k m : ℕ) → m ≡ f + k → slice_index_or (map p (range_with_len f n)) k false ≡ true → p m ≡ true
marks_pass p f zero k m e on = absurd (cc on)
marks_pass p f (suc n) zero m e on = let same : m ≡ f = omega arith in rw same on
marks_pass p f (suc n) (suc k) m e on = marks_pass p (f + 1) n k m (omega arith) on

pub length_marked : (f : ℕ) (ms : List Bool) → length (marked f ms) ≤ length ms
length_marked f [] = omega arith
length_marked f (true ∷ ms) = omega (arith, length_marked (f + 1) ms)
length_marked f (false ∷ ms) = omega (arith, length_marked (f + 1) ms)
