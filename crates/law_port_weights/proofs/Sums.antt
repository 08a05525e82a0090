-- sums over lists, and what changes of a list by keys make of them

use Rattle.std.proofs.Common.{◌≡◌, ℕ, ◌≤◌, ◌+◌, Bool, true, false, List, [], ◌∷◌, ◌++◌, Some, refl, ◌∙◌, ap, arith, if◌then◌else◌}
use Rattle.std.specs.Prelude.{nat_eq, find, filter}
use Rattle.claims_model.specs.world_model.Words.{at, put, without, entered, in_order}
use Rattle.law_port_facts.proofs.Keyed.{on_both}
use Rattle.claims_model.specs.Costs.{total_weight}

module _ {A : Type 0} (f : A → ℕ) where
  pub total_join : (xs ys : List A) → total_weight f (xs ++ ys) ≡ total_weight f xs + total_weight f ys
  total_join [] ys = omega arith
  total_join (x ∷ xs) ys = omega (arith, total_join xs ys)

  pub total_more : (xs : List A) (y : A) → total_weight f (xs ++ y ∷ []) ≡ total_weight f xs + f y
  total_more [] y = omega arith
  total_more (x ∷ xs) y = omega (arith, total_more xs y)

  pub total_entered : (le : A → A → Bool) (y : A) (xs : List A) → total_weight f (entered le y xs) ≡ f y + total_weight f xs
  total_entered le y [] = omega arith
  total_entered le y (x ∷ xs) = on_both (λ zs. total_weight f zs ≡ f y + total_weight f (x ∷ xs)) (le y x) (y ∷ x ∷ xs) (x ∷ entered le y xs) refl (omega (arith, total_entered le y xs))

  pub total_in_order : (le : A → A → Bool) (xs : List A) → total_weight f (in_order le xs) ≡ total_weight f xs
  total_in_order le [] = refl
  total_in_order le (x ∷ xs) = omega (arith, total_entered le x (in_order le xs), total_in_order le xs)

  pub total_filter : (test : A → Bool) (xs : List A) → total_weight f (filter test xs) ≤ total_weight f xs
  total_filter test [] = omega arith
  total_filter test (x ∷ xs) = on_both (λ zs. total_weight f zs ≤ f x + total_weight f xs) (test x) (x ∷ filter test xs) (filter test xs) (omega (arith, total_filter test xs)) (omega (arith, total_filter test xs))

  -- one that is found, and is left out
  pub total_found : (found kept : A → Bool) (xs : List A) (x : A) → find found xs ≡ Some x → kept x ≡ false → total_weight f (filter kept xs) + f x ≤ total_weight f xs
  total_found found kept [] x e out = absurd (cc e)
  total_found found kept (z ∷ xs) x e out = elim (found z) as (λ t. (if t then Some z else find found xs) ≡ Some x → total_weight f (filter kept (z ∷ xs)) + f x ≤ f z + total_weight f xs) [
    | true ↦ λ e. (let same : z ≡ x = cc in let gone : kept z ≡ false = ap kept same ∙ out in let left : filter kept (z ∷ xs) ≡ filter kept xs = ap (λ (b : Bool). if b then z ∷ filter kept xs else filter kept xs) gone in
        omega (arith, total_filter kept xs, ap f same, ap (total_weight f) left))
    | false ↦ λ e. on_both (λ zs. total_weight f zs + f x ≤ f z + total_weight f xs) (kept z) (z ∷ filter kept xs) (filter kept xs) (omega (arith, total_found found kept xs x e out)) (omega (arith, total_found found kept xs x e out))
  ] e

  module _ (key : A → ℕ) where
    pub total_put : (y : A) (xs : List A) (x : A) → at key (key y) xs ≡ Some x → total_weight f (put key y xs) + f x ≡ total_weight f xs + f y
    total_put y [] x e = absurd (cc e)
    total_put y (z ∷ xs) x e = elim (nat_eq (key z) (key y)) as (λ t. (if t then Some z else at key (key y) xs) ≡ Some x → total_weight f (if t then y ∷ xs else z ∷ put key y xs) + f x ≡ f z + total_weight f xs + f y) [
      | true ↦ λ e. (let same : z ≡ x = cc in omega (arith, ap f same))
      | false ↦ λ e. omega (arith, total_put y xs x e)
    ] e

    pub total_put_free : (y : A) → f y ≡ 0 → (xs : List A) → total_weight f (put key y xs) ≤ total_weight f xs
    total_put_free y free [] = omega arith
    total_put_free y free (z ∷ xs) = on_both (λ zs. total_weight f zs ≤ f z + total_weight f xs) (nat_eq (key z) (key y)) (y ∷ xs) (z ∷ put key y xs) (omega (arith, free)) (omega (arith, total_put_free y free xs))

    pub total_left : (k : ℕ) (xs : List A) → total_weight f (without key k xs) ≤ total_weight f xs
    total_left k [] = omega arith
    total_left k (z ∷ xs) = on_both (λ zs. total_weight f zs ≤ f z + total_weight f xs) (nat_eq (key z) k) (without key k xs) (z ∷ without key k xs) (omega (arith, total_left k xs)) (omega (arith, total_left k xs))

    pub total_without : (k : ℕ) (xs : List A) (x : A) → at key k xs ≡ Some x → total_weight f (without key k xs) + f x ≤ total_weight f xs
    total_without k [] x e = absurd (cc e)
    total_without k (z ∷ xs) x e = elim (nat_eq (key z) k) as (λ t. (if t then Some z else at key k xs) ≡ Some x → total_weight f (if t then without key k xs else z ∷ without key k xs) + f x ≤ f z + total_weight f xs) [
      | true ↦ λ e. (let same : z ≡ x = cc in omega (arith, ap f same, total_left k xs))
      | false ↦ λ e. omega (arith, total_without k xs x e)
    ] e

-- a greater weight of each
pub total_mono : {A : Type 0} (f g : A → ℕ) → ((x : A) → f x ≤ g x) → (xs : List A) → total_weight f xs ≤ total_weight g xs
total_mono f g le [] = omega arith
total_mono f g le (x ∷ xs) = omega (arith, le x, total_mono f g le xs)
