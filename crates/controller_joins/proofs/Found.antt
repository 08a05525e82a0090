-- What stands at a place of a list: found, entered, left out.

use Rattle.std.proofs.Common.{◌≡◌, ◌≢◌, ℕ, zero, suc, ◌+◌, ◌<◌, ◌≤◌, Bool, true, false, ◌||◌, ◌-◌, ◌⊎◌, inl, inr, List, [], ◌∷◌, length, get_or, Some, None, filter, find, refl, ap, arith}
use Rattle.std.specs.List.{AllPairs, list_any, insert, remove}
use Rattle.std.proofs.lemmas.Bool.{cases_lt, cases_eq}
use Rattle.std.proofs.lemmas.List.Edits.{get_or-insert_at, get_or-insert_below, get_or-insert_above, length-insert}
use Rattle.keyed_lists.specs.Keyed.{entered}

module _ {A : Type 0} where
  pub find_at : (test : A → Bool) (xs : List A) (i : ℕ) (d : A) → i < length xs → test (get_or xs i d) ≡ true → ((j : ℕ) → j < i → test (get_or xs j d) ≡ false) → find test xs ≡ Some (get_or xs i d)
  find_at test [] i d within here before = absurd (omega (arith, within))
  find_at test (x ∷ xs) zero d within here before = rw here refl
  find_at test (x ∷ xs) (suc i) d within here before =
      let first : test x ≡ false = before zero (omega arith) in
      rw first (find_at test xs i d (omega (arith, within)) here (λ j lt. before (suc j) (omega (arith, lt))))

  pub find_none : (test : A → Bool) (xs : List A) → ((j : ℕ) (d : A) → j < length xs → test (get_or xs j d) ≡ false) → find test xs ≡ None
  find_none test [] each = refl
  find_none test (x ∷ xs) each =
      let first : test x ≡ false = each zero x (omega arith) in
      rw first (find_none test xs (λ j d lt. each (suc j) d (omega (arith, lt))))

  pub find_none_at : (test : A → Bool) (xs : List A) (d : A) → ((j : ℕ) → j < length xs → test (get_or xs j d) ≡ false) → find test xs ≡ None
  find_none_at test [] d each = refl
  find_none_at test (x ∷ xs) d each =
      let first : test x ≡ false = each zero (omega arith) in
      rw first (find_none_at test xs d (λ j lt. each (suc j) (omega (arith, lt))))

  pub any_at : (test : A → Bool) (xs : List A) (i : ℕ) (d : A) → i < length xs → test (get_or xs i d) ≡ true → list_any test xs ≡ true
  any_at test [] i d within here = absurd (omega (arith, within))
  any_at test (x ∷ xs) zero d within here = rw here refl
  any_at test (x ∷ xs) (suc i) d within here = by (test x) (any_at test xs i d (omega (arith, within)) here) where
    by : (b : Bool) → list_any test xs ≡ true → (b || list_any test xs) ≡ true
    by true h = refl
    by false h = h

  pub entered_at : (le : A → A → Bool) (y : A) (xs : List A) (i : ℕ) → i ≤ length xs → ((j : ℕ) (d : A) → j < i → le y (get_or xs j d) ≡ false) → ((d : A) → i < length xs → le y (get_or xs i d) ≡ true) → insert xs i y ≡ entered le y xs
  entered_at le y [] zero within before here = refl
  entered_at le y [] (suc i) within before here = absurd (omega (arith, within))
  entered_at le y (x ∷ xs) zero within before here = rw (here x (omega arith)) refl
  entered_at le y (x ∷ xs) (suc i) within before here =
      let first : le y x ≡ false = before zero x (omega arith) in
      rw first (ap (λ others. x ∷ others) (entered_at le y xs i (omega (arith, within)) (λ j d lt. before (suc j) d (omega (arith, lt))) (λ d lt. here d (omega (arith, lt)))))

  pub filter_all : (test : A → Bool) (xs : List A) → ((j : ℕ) (d : A) → j < length xs → test (get_or xs j d) ≡ true) → filter test xs ≡ xs
  filter_all test [] each = refl
  filter_all test (x ∷ xs) each =
      let first : test x ≡ true = each zero x (omega arith) in
      rw first (ap (λ others. x ∷ others) (filter_all test xs (λ j d lt. each (suc j) d (omega (arith, lt)))))

  -- all but the one at i
  pub filter_but : (test : A → Bool) (xs : List A) (i : ℕ) → i < length xs → ((d : A) → test (get_or xs i d) ≡ false) → ((j : ℕ) (d : A) → j < length xs → j ≢ i → test (get_or xs j d) ≡ true) → remove xs i ≡ filter test xs
  filter_but test [] i within here others = absurd (omega (arith, within))
  filter_but test (x ∷ xs) zero within here others =
      let first : test x ≡ false = here x in
      rw (first, filter_all test xs (λ j d lt. others (suc j) d (omega (arith, lt)) (omega arith))) refl
  filter_but test (x ∷ xs) (suc i) within here others =
      let first : test x ≡ true = others zero x (omega arith) (omega arith) in
      rw first (ap (λ rest. x ∷ rest) (filter_but test xs i (omega (arith, within)) here (λ j d lt ne. others (suc j) d (omega (arith, lt)) (omega (arith, ne)))))

  -- one more element in order
  pub pairs_insert : (R : A → A → Type 0) (xs : List A) (i : ℕ) (y : A) → i ≤ length xs → ((j : ℕ) (d : A) → j < i → R (get_or xs j d) y) → ((j : ℕ) (d : A) → i ≤ j → j < length xs → R y (get_or xs j d)) → AllPairs R xs → AllPairs R (insert xs i y)
  pairs_insert R xs i y within before behind pairs a b d lt high =
      elim (cases_lt b i) [
        | inl below ↦ rw (get_or-insert_below xs i y d b below within, get_or-insert_below xs i y d a (omega (arith, lt, below)) within) (pairs a b d lt (omega (arith, below, within)))
        | inr above ↦ at_or_above above (cases_eq b i)
      ]
    where
      both : (k j : ℕ) → b ≡ k + 1 → k < length xs → a ≡ j + 1 → i ≤ j → R (get_or (insert xs i y) a d) (get_or xs k d)
      both k j e inside f over = rw (f, get_or-insert_above xs i y d j over within) (pairs j k d (omega (arith, lt, e, f)) inside)

      at_least : (k : ℕ) → b ≡ k + 1 → i ≤ k → k < length xs → i ≤ a → (a ≡ i) ⊎ (a ≡ i → ⊥) → R (get_or (insert xs i y) a d) (get_or xs k d)
      at_least k e above inside over (inl same) = rw (same, get_or-insert_at xs i y d within) (behind k d above inside)
      at_least k e above inside over (inr ne) = both k (a - 1) e inside (omega (arith, over, ne)) (omega (arith, over, ne))

      any : (k : ℕ) → b ≡ k + 1 → i ≤ k → k < length xs → (a < i) ⊎ (i ≤ a) → R (get_or (insert xs i y) a d) (get_or xs k d)
      any k e above inside (inl below) = rw (get_or-insert_below xs i y d a below within) (pairs a k d (omega (arith, below, above)) inside)
      any k e above inside (inr over) = at_least k e above inside over (cases_eq a i)

      beyond : (k : ℕ) → b ≡ k + 1 → i ≤ k → k < length xs → R (get_or (insert xs i y) a d) (get_or (insert xs i y) b d)
      beyond k e above inside = rw (e, get_or-insert_above xs i y d k above within) (any k e above inside (cases_lt a i))

      at_or_above : i ≤ b → (b ≡ i) ⊎ (b ≡ i → ⊥) → R (get_or (insert xs i y) a d) (get_or (insert xs i y) b d)
      at_or_above above (inl e) = rw (e, get_or-insert_at xs i y d within, get_or-insert_below xs i y d a (omega (arith, lt, e)) within) (before a d (omega (arith, lt, e)))
      at_or_above above (inr ne) = beyond (b - 1) (omega (arith, above, ne)) (omega (arith, above, ne)) (omega (arith, high, length-insert xs i y within, above, ne))
