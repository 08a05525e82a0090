-- what has no place in a list, and what lists keep as they grow

use Rattle.std.proofs.Common.{◌≡◌, ◌≤◌, ℕ, suc, zero, Bool, true, false, nat_lt, cond, List, [], ◌∷◌, ◌++◌, length, map, get_or, reverse, None, Some, refl, ap, arith}
use Rattle.std.proofs.Math.ListN.{set}
use Rattle.std.proofs.lemmas.Bool.{ltb-false}
use Rattle.std.proofs.lemmas.List.{reverse-append}
use Rattle.std.proofs.lemmas.List.Folds.{list_any_none}
use Rattle.std.proofs.lemmas.List.Sums.{fails_before_first}
use Rattle.std.specs.List.{position, position_or_len, list_any, find}

-- what has no place isn't there
pub none_listed : {A : Type 0} (test : A → Bool) (xs : List A) → position test xs ≡ None → list_any test xs ≡ false
none_listed test xs at = by (nat_lt (position_or_len test xs) (length xs)) refl at where
  by : (b : Bool) → nat_lt (position_or_len test xs) (length xs) ≡ b → cond b (Some (position_or_len test xs)) None ≡ None → list_any test xs ≡ false
  by true e h = absurd (cc h)
  by false e h =
      let past : length xs ≤ position_or_len test xs = ltb-false (position_or_len test xs) (length xs) e in
      list_any_none test xs (λ k d within. fails_before_first test xs k d (omega (arith, past, within)))

-- an element that is seen as the one before
pub map-set : {A B : Type 0} (view : A → B) (xs : List A) (i : ℕ) (d y : A) → view y ≡ view (get_or xs i d) → map view (set xs i y) ≡ map view xs
map-set view [] i d y e = refl
map-set view (x ∷ xs) zero d y e = ap (λ z. z ∷ map view xs) e
map-set view (x ∷ xs) (suc i) d y e = ap (λ zs. view x ∷ zs) (map-set view xs i d y e)

-- of several that pass the last one counts
pub find-reverse-push : {A : Type 0} (test : A → Bool) (xs : List A) (x : A) → find test (reverse (xs ++ x ∷ [])) ≡ cond (test x) (Some x) (find test (reverse xs))
find-reverse-push test xs x = rw (reverse-append xs (x ∷ [])) refl
