-- Requests in the order of their numbers.

use Rattle.std.proofs.Common.{◌≡◌, ℕ, suc, zero, ◌+◌, ◌<◌, ◌==◌, ◌&&◌, ◌||◌, Bool, true, false, not, cond, List, [], ◌∷◌, length, get_or, refl, sym, ap, ◌∙◌, arith, Some, None, find, filter, Result, Ok, Err, IfSome, IfNone, inl, inr}
use Rattle.std.specs.declared.cmp.Ordering.{Ordering}
use Rattle.std.specs.declared.cmp.Ordering.TheVariants.{Less, Equal, Greater}
use Rattle.std.specs.Ordering.{nat_cmp, is_lt}
use Rattle.std.specs.Cmp.{nat_cmp_total, tied_itself}
use Rattle.std.specs.FinMap.{nat_cmp-IsAntisymmetric}
use Rattle.std.specs.List.{list_any, remove}
use Rattle.std.specs.List.Sorted.{IsSearchInRange, IsBinarySearchResult}
use Rattle.std.specs.Result.{result_ok}
use Rattle.std.proofs.lemmas.Bool.{eqb-true, eq-eqb, cases_lt}
use Rattle.std.proofs.lemmas.List.Sorted.{searchable_from_sorted}
use Rattle.std.proofs.lemmas.List.Folds.{list_any_none}
use Rattle.port_model.specs.Desk.{Standing}
use Rattle.branch_desk.specs.Requests.{AreRising}
use Rattle.branch_desk.specs.ByEnd.{IsUnder}

abbrev pub has : ℕ → Standing → Bool
has n s = s.number == n

pub or_left : (a b : Bool) → (a || b) ≡ false → a ≡ false
or_left true b h = h
or_left false b h = refl

pub or_right : (a b : Bool) → (a || b) ≡ false → b ≡ false
or_right true b h = absurd (cc h)
or_right false b h = h

rest_rises : (s : Standing) (xs : List Standing) → AreRising (s ∷ xs) → AreRising xs
rest_rises s xs rising = λ i j d lt w. rising (suc i) (suc j) d (omega (arith, lt)) (omega (arith, w))

pub not_true : (b : Bool) → (b ≡ true → ⊥) → b ≡ false
not_true true h = absurd (h refl)
not_true false h = refl

-- no request behind the first one has its number
others_differ : (s : Standing) (xs : List Standing) → AreRising (s ∷ xs) → list_any (has s.number) xs ≡ false
others_differ s xs rising =
    list_any_none (has s.number) xs (λ k d within.
    let above : s.number < (get_or xs k d).number = rising zero (suc k) d (omega arith) (omega (arith, within)) in
    not_true (has s.number (get_or xs k d)) (λ h. absurd (omega (arith, above, eqb-true (get_or xs k d).number s.number h))))

-- where no request has the number
pub none_found : (n : ℕ) (p : Standing → Bool) (xs : List Standing) → list_any (has n) xs ≡ false → find (λ s. has n s && p s) xs ≡ None
none_found n p [] h = refl
none_found n p (s ∷ xs) h = rw (or_left (has n s) _ h) (none_found n p xs (or_right (has n s) _ h))

pub none_left : {X : Type 0} (p : X → Bool) (xs : List X) → list_any p xs ≡ false → filter (λ s. not (p s)) xs ≡ xs
none_left p [] h = refl
none_left p (s ∷ xs) h = rw (or_left (p s) _ h) (ap (λ t. s ∷ t) (none_left p xs (or_right (p s) _ h)))

apart : (n : ℕ) (s : Standing) (xs : List Standing) (i : ℕ) (d : Standing) → AreRising (s ∷ xs) → i < length xs → (get_or xs i d).number ≡ n → has n s ≡ false
apart n s xs i d rising within here =
    let below : s.number < (get_or xs i d).number = rising zero (suc i) d (omega arith) (omega (arith, within)) in
    not_true (has n s) (λ h. absurd (omega (arith, below, here, eqb-true s.number n h)))

-- where the one at place i has it
pub found_at : (n : ℕ) (p : Standing → Bool) (xs : List Standing) (i : ℕ) (d : Standing) → AreRising xs → i < length xs → (get_or xs i d).number ≡ n → find (λ s. has n s && p s) xs ≡ cond (p (get_or xs i d)) (Some (get_or xs i d)) None
found_at n p [] i d rising within here = absurd (omega (arith, within))
found_at n p (s ∷ xs) zero d rising within here =
    rw (eq-eqb s.number n here)
    (let by : (b : Bool) → find (λ x. has n x && p x) xs ≡ None → cond b (Some s) (find (λ x. has n x && p x) xs) ≡ cond b (Some s) None = λ b none.
    elim b as (λ v. cond v (Some s) (find (λ x. has n x && p x) xs) ≡ cond v (Some s) None) [ true ↦ refl | false ↦ none ] in
    by (p s) (none_found n p xs (rw (← here) (others_differ s xs rising))))
found_at n p (s ∷ xs) (suc i) d rising within here =
    let w : i < length xs = omega (arith, within) in
    rw (apart n s xs i d rising w here) (found_at n p xs i d (rest_rises s xs rising) w here)

pub left_at : (n : ℕ) (xs : List Standing) (i : ℕ) (d : Standing) → AreRising xs → i < length xs → (get_or xs i d).number ≡ n → filter (λ s. not (has n s)) xs ≡ remove xs i
left_at n [] i d rising within here = absurd (omega (arith, within))
left_at n (s ∷ xs) zero d rising within here =
    rw (eq-eqb s.number n here) (none_left (has n) xs (rw (← here) (others_differ s xs rising)))
left_at n (s ∷ xs) (suc i) d rising within here =
    let w : i < length xs = omega (arith, within) in
    rw (apart n s xs i d rising w here) (ap (λ t. s ∷ t) (left_at n xs i d (rest_rises s xs rising) w here))

not_below : (a b : ℕ) → a < b → is_lt (nat_cmp b a) ≡ false
not_below a b h = not_true (is_lt (nat_cmp b a)) (λ e. absurd (grind (arith, h, e)))

not_tied : (a n : ℕ) (r : Ordering) → nat_cmp a n ≡ r → (r ≡ Equal → ⊥) → (a == n) ≡ false
not_tied a n r is apart = not_true (a == n) (λ h. absurd (apart (sym is ∙ ap (λ x. nat_cmp x n) (eqb-true a n h) ∙ tied_itself nat_cmp_total n)))

-- what a binary search for a number tells
pub searched : (xs : List Standing) (n : ℕ) (r : Result ℕ ℕ) → AreRising xs → IsSearchInRange r (length xs) → IsBinarySearchResult (λ s. nat_cmp s.number n) xs r → IfSome (result_ok r) (IsUnder n xs) × IfNone (result_ok r) (list_any (has n) xs ≡ false)
searched xs n (Ok i) rising within result =
    (record { within = within; here = λ d. nat_cmp-IsAntisymmetric _ _ (result d) }, tt)
searched xs n (Err i) rising within result =
    let point = result (searchable_from_sorted nat_cmp_total (λ (s : Standing). s.number) xs n (λ k d low high. not_below _ _ (rising k (k + 1) d (omega arith) high))) in (
      tt,
      list_any_none (has n) xs (λ k d w.
          elim (cases_lt k i) [
            | inl lt ↦ not_tied (get_or xs k d).number n Less (point.0 k d (omega arith) lt) (λ e. cc e)
            | inr ge ↦ not_tied (get_or xs k d).number n Greater (point.1 k d ge w) (λ e. cc e)
          ]),
    )

-- the one that is found, if it passes a test
pub found_of : (n : ℕ) (p : Standing → Bool) (xs : List Standing) (i : ℕ) (s : Standing) (b : Bool) → AreRising xs → IsUnder n xs i → s ≡ get_or xs i s → p s ≡ b → find (λ x. has n x && p x) xs ≡ cond b (Some s) None
found_of n p xs i s b rising under here e =
    rw (sym here, e) at (found_at n p xs i s rising under.within (under.here s))

-- the first one that passes
pub found_first : {X : Type 0} (p : X → Bool) (xs : List X) (k : ℕ) (d : X) → k < length xs → p (get_or xs k d) ≡ true → ((j : ℕ) → j < k → p (get_or xs j d) ≡ false) → find p xs ≡ Some (get_or xs k d)
found_first p [] k d within here before = absurd (omega (arith, within))
found_first p (x ∷ xs) zero d within here before = rw here refl
found_first p (x ∷ xs) (suc k) d within here before =
    rw (before zero (omega arith)) (found_first p xs k d (omega (arith, within)) here (λ j lt. before (suc j) (omega (arith, lt))))

-- the only request with the number
pub found_number : (n : ℕ) (xs : List Standing) (k : ℕ) (d : Standing) → AreRising xs → k < length xs → (get_or xs k d).number ≡ n → find (has n) xs ≡ Some (get_or xs k d)
found_number n xs k d rising within here =
    found_first (has n) xs k d within (eq-eqb (get_or xs k d).number n here) (λ j lt.
    let below : (get_or xs j d).number < (get_or xs k d).number = rising j k d lt within in
    not_true (has n (get_or xs j d)) (λ h. absurd (omega (arith, below, here, eqb-true (get_or xs j d).number n h))))

-- what is found passes, and is there
pub find_passes : {X : Type 0} (p : X → Bool) (xs : List X) (x : X) → find p xs ≡ Some x → p x ≡ true
find_passes p [] x h = absurd (cc h)
find_passes p (y ∷ ys) x h = by (find_passes p ys x) (p y) refl h where
  by : (find p ys ≡ Some x → p x ≡ true) → (b : Bool) → p y ≡ b → cond b (Some y) (find p ys) ≡ Some x → p x ≡ true
  by rest true e h = let same : y ≡ x = cc h in rw (← same) e
  by rest false e h = rest h
