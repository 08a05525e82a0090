-- What stands at a place of a list is found by its key, and put by it.

use Rattle.std.proofs.Common.{◌≡◌, ℕ, zero, suc, ◌<◌, nat_eq, true, false, List, [], ◌∷◌, length, get_or, set, Some, refl, ap, arith}
use Rattle.keyed_lists.specs.Keyed.{at, put}

module _ {A : Type 0} (key : A → ℕ) where
  pub at_here : (n : ℕ) (xs : List A) (k : ℕ) (d : A) → k < length xs → nat_eq (key (get_or xs k d)) n ≡ true → ((j : ℕ) → j < k → nat_eq (key (get_or xs j d)) n ≡ false) → at key n xs ≡ Some (get_or xs k d)
  at_here n [] k d within here before = absurd (omega (arith, within))
  at_here n (x ∷ xs) zero d within here before = rw here refl
  at_here n (x ∷ xs) (suc k) d within here before =
      let first : nat_eq (key x) n ≡ false = before zero (omega arith) in
      rw first (at_here n xs k d (omega (arith, within)) here (λ j lt. before (suc j) (omega (arith, lt))))

  pub put_here : (y : A) (xs : List A) (k : ℕ) (d : A) → k < length xs → nat_eq (key (get_or xs k d)) (key y) ≡ true → ((j : ℕ) → j < k → nat_eq (key (get_or xs j d)) (key y) ≡ false) → set xs k y ≡ put key y xs
  put_here y [] k d within here before = absurd (omega (arith, within))
  put_here y (x ∷ xs) zero d within here before = rw here refl
  put_here y (x ∷ xs) (suc k) d within here before =
      let first : nat_eq (key x) (key y) ≡ false = before zero (omega arith) in
      rw first (ap (λ others. x ∷ others) (put_here y xs k d (omega (arith, within)) here (λ j lt. before (suc j) (omega (arith, lt)))))
