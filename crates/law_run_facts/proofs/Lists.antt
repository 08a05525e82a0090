-- lists with one element more

use Rattle.std.proofs.Common.{◌≡◌, ℕ, zero, suc, ◌<◌, Bool, true, false, List, [], ◌∷◌, ◌++◌, length, slice_get, Some, refl, sym, ◌∙◌, ap, arith, append_assoc, append-nil}
use Rattle.std.specs.Prelude.{flat_map, ◌||◌}
use Rattle.std.specs.List.{list_any}

pub front_get : {A : Type 0} (xs ys : List A) (place : ℕ) (x : A) → slice_get xs place ≡ Some x → slice_get (xs ++ ys) place ≡ Some x
front_get [] ys place x e = absurd (cc e)
front_get (y ∷ xs) ys zero x e = e
front_get (y ∷ xs) ys (suc place) x e = front_get xs ys place x e

pub front_same : {A : Type 0} (xs ys : List A) (place : ℕ) → place < length xs → slice_get (xs ++ ys) place ≡ slice_get xs place
front_same [] ys place low = absurd (omega (arith, low))
front_same (x ∷ xs) ys zero low = refl
front_same (x ∷ xs) ys (suc place) low = front_same xs ys place (omega (arith, low))

pub any_none : {A : Type 0} (test : A → Bool) (xs ys : List A) → list_any test (xs ++ ys) ≡ false → (list_any test xs ≡ false) × (list_any test ys ≡ false)
any_none test [] ys e = (refl, e)
any_none test (x ∷ xs) ys e = by (test x) e (any_none test xs ys)
  where
    by : (b : Bool) → (b || list_any test (xs ++ ys)) ≡ false → (list_any test (xs ++ ys) ≡ false → (list_any test xs ≡ false) × (list_any test ys ≡ false)) → ((b || list_any test xs) ≡ false) × (list_any test ys ≡ false)
    by true e rest = absurd (cc e)
    by false e rest = rest e

pub flat_one : {A B : Type 0} (f : A → List B) (xs : List A) (x : A) → flat_map f (xs ++ x ∷ []) ≡ flat_map f xs ++ f x
flat_one f [] x = append-nil (f x)
flat_one f (y ∷ xs) x = ap (λ ys. f y ++ ys) (flat_one f xs x) ∙ sym (append_assoc (f y) (flat_map f xs) (f x))
