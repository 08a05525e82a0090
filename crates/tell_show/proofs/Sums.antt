-- Sums that stay at the end of their type

use Rattle.std.proofs.Common.{◌≡◌, ℕ, ◌+◌, List, [], ◌∷◌, length, min, slice_get, take, Some, sym, ◌∙◌, ap, arith}
use Rattle.std.specs.List.{sum_by}
use Rattle.std.proofs.lemmas.List.Sums.{sum_by-cons, sum_by-append}
use Rattle.tell_show.proofs.Along.{take_push, take_whole}

one_more : {A : Type 0} (f : A → ℕ) (xs : List A) (i : ℕ) (x : A) → slice_get xs i ≡ Some x → sum_by f (take (i + 1) xs) ≡ sum_by f (take i xs) + f x
one_more f xs i x e =
    let one : sum_by f (x ∷ []) ≡ f x = (let c : sum_by f (x ∷ []) ≡ f x + sum_by f [] = sum_by-cons f x [] in c ∙ plus_none f x) in
    ap (sum_by f) (take_push xs i x e) ∙ sum_by-append f (take i xs) (x ∷ []) ∙ ap (λ n. sum_by f (take i xs) + n) one
  where
    plus_none : {A : Type 0} (f : A → ℕ) (x : A) → f x + sum_by f [] ≡ f x
    plus_none f x = omega arith

further : (g a b : ℕ) → min (min g a + b) g ≡ min g (a + b)
further g a b = grind (arith)

further_least : (g a b : ℕ) → min (min g a + min g b) g ≡ min g (a + b)
further_least g a b = grind (arith)

-- one number more; it may stay at that end itself
pub sum_more : {A : Type 0} (f : A → ℕ) (xs : List A) (i : ℕ) (x : A) (g sum : ℕ) → slice_get xs i ≡ Some x → sum ≡ min g (sum_by f (take i xs))
    → min (sum + f x) g ≡ min g (sum_by f (take (i + 1) xs))
sum_more f xs i x g sum e is = ap (λ n. min (n + f x) g) is ∙ further g (sum_by f (take i xs)) (f x) ∙ ap (min g) (sym (one_more f xs i x e))

pub sum_more_least : {A : Type 0} (f : A → ℕ) (xs : List A) (i : ℕ) (x : A) (g sum : ℕ) → slice_get xs i ≡ Some x → sum ≡ min g (sum_by f (take i xs))
    → min (sum + min g (f x)) g ≡ min g (sum_by f (take (i + 1) xs))
sum_more_least f xs i x g sum e is = ap (λ n. min (n + min g (f x)) g) is ∙ further_least g (sum_by f (take i xs)) (f x) ∙ ap (min g) (sym (one_more f xs i x e))

pub sum_all : {A : Type 0} (f : A → ℕ) (xs : List A) (i : ℕ) (g sum : ℕ) → i ≡ length xs → sum ≡ min g (sum_by f (take i xs)) → sum ≡ min g (sum_by f xs)
sum_all f xs i g sum all is = is ∙ ap (λ ys. min g (sum_by f ys)) (take_whole xs i all)
