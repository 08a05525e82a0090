-- what is found in a list to which an element more comes, or in which one is put in another's place

use Rattle.std.proofs.Common.{◌≡◌, ◌≢◌, ℕ, Bool, true, false, List, [], ◌∷◌, ◌++◌, Option, None, Some, sym, ◌∙◌, ap, subst, arith, if◌then◌else◌}
use Rattle.std.specs.Prelude.{nat_eq, is_some}
use Rattle.std.proofs.lemmas.Bool.Decides.{nat_tests}
use Rattle.live_model.specs.world_model.Words.{at, put, entered}
use Rattle.law_port_facts.specs.ordered_lists.Ordered.{Every, InOrder}
use Rattle.law_port_facts.proofs.ordered_lists.Every.{every_map2}
use Rattle.law_port_facts.proofs.Keyed.{by_eq, at_put_same, at_put_other}

module _ {A : Type 0} (key : A → ℕ) where
  -- *At the end*
  pub at_more_same : (xs : List A) (y : A) → at key (key y) xs ≡ None → at key (key y) (xs ++ y ∷ []) ≡ Some y
  at_more_same [] y e = grind (arith, nat_tests)
  at_more_same (z ∷ xs) y e = elim (nat_eq (key z) (key y)) as (λ t. (if t then Some z else at key (key y) xs) ≡ None
      → (if t then Some z else at key (key y) (xs ++ y ∷ [])) ≡ Some y) [
        | true ↦ λ h. absurd (cc h)
        | false ↦ λ h. at_more_same xs y h
      ] e

  pub at_more_other : (k : ℕ) (xs : List A) (y : A) → key y ≢ k → at key k (xs ++ y ∷ []) ≡ at key k xs
  at_more_other k [] y n = grind (arith, nat_tests)
  at_more_other k (z ∷ xs) y n = ap (λ (o : Option A). if nat_eq (key z) k then Some z else o) (at_more_other k xs y n)

  -- *In its place*
  pub at_entered_same : (le : A → A → Bool) (y : A) (xs : List A) → at key (key y) xs ≡ None → at key (key y) (entered le y xs) ≡ Some y
  at_entered_same le y [] e = grind (arith, nat_tests)
  at_entered_same le y (z ∷ xs) e = elim (le y z) as (λ t. at key (key y) (if t then y ∷ z ∷ xs else z ∷ entered le y xs) ≡ Some y) [
    | true ↦ grind (arith, nat_tests)
    | false ↦ elim (nat_eq (key z) (key y)) as (λ t. (if t then Some z else at key (key y) xs) ≡ None
        → (if t then Some z else at key (key y) (entered le y xs)) ≡ Some y) [
          | true ↦ λ h. absurd (cc h)
          | false ↦ λ h. at_entered_same le y xs h
        ] e
  ]

  pub at_entered_other : (le : A → A → Bool) (y : A) (k : ℕ) (xs : List A) → key y ≢ k → at key k (entered le y xs) ≡ at key k xs
  at_entered_other le y k [] n = grind (arith, nat_tests)
  at_entered_other le y k (z ∷ xs) n = elim (le y z) as (λ t. at key k (if t then y ∷ z ∷ xs else z ∷ entered le y xs) ≡ at key k (z ∷ xs)) [
    | true ↦ grind (arith, nat_tests)
    | false ↦ ap (λ (o : Option A). if nat_eq (key z) k then Some z else o) (at_entered_other le y k xs n)
  ]

  -- *In another's place*, who alone has its key
  pub put_each : (P Q : A → Type 0) (y : A) (xs : List A) → Q y → ((x : A) → key x ≢ key y → P x → Q x) → InOrder (λ a b. key a ≢ key b) xs → Every P xs → Every Q (put key y xs)
  put_each P Q y [] new others apart h = tt
  put_each P Q y (x ∷ xs) new others apart h = by_eq (key x) (key y)
      (λ same t. subst (λ (b : Bool). Every Q (if b then y ∷ xs else x ∷ put key y xs)) (sym t)
      (new, every_map2 (λ z. key x ≢ key z) P Q xs (λ z differs p. others z (λ e. differs (same ∙ sym e)) p) apart.0 h.1))
      (λ differs t. subst (λ (b : Bool). Every Q (if b then y ∷ xs else x ∷ put key y xs)) (sym t)
      (others x differs h.0, put_each P Q y xs new others apart.1 h.1))

  -- a key that was found still is
  pub put_some : (y : A) (k : ℕ) (xs : List A) (x : A) → at key (key y) xs ≡ Some x → is_some (at key k xs) ≡ true → is_some (at key k (put key y xs)) ≡ true
  put_some y k xs x there some = by_eq (key y) k
      (λ same t. subst (λ n. is_some (at key n (put key y xs)) ≡ true) same (ap (λ (o : Option A). is_some o) (at_put_same key y xs x there)))
      (λ differs t. ap (λ (o : Option A). is_some o) (at_put_other key y k xs differs) ∙ some)

  pub entered_some : (le : A → A → Bool) (y : A) (k : ℕ) (xs : List A) → at key (key y) xs ≡ None → is_some (at key k xs) ≡ true → is_some (at key k (entered le y xs)) ≡ true
  entered_some le y k xs none some = by_eq (key y) k
      (λ same t. subst (λ n. is_some (at key n (entered le y xs)) ≡ true) same (ap (λ (o : Option A). is_some o) (at_entered_same le y xs none)))
      (λ differs t. ap (λ (o : Option A). is_some o) (at_entered_other le y k xs differs) ∙ some)
