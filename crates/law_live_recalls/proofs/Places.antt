-- what is found in a list of which the elements of one key are left out

use Rattle.std.proofs.Common.{◌≡◌, ◌≢◌, ℕ, Bool, true, false, List, [], ◌∷◌, Option, None, Some, sym, ◌∙◌, ap, subst, refl, if◌then◌else◌}
use Rattle.std.specs.Prelude.{◌||◌, nat_eq}
use Rattle.std.specs.List.{list_any}
use Rattle.std.proofs.lemmas.Bool.{eq-eqb}
use Rattle.live_model.specs.world_model.Words.{at, put, without}
use Rattle.law_port_facts.specs.ordered_lists.Ordered.{Every}
use Rattle.law_port_facts.proofs.Keyed.{by_eq}

module _ {A : Type 0} (key : A → ℕ) where
  pub at_without_same : (k : ℕ) (xs : List A) → at key k (without key k xs) ≡ None
  at_without_same k [] = refl
  at_without_same k (x ∷ xs) = elim (nat_eq (key x) k) as (λ t. nat_eq (key x) k ≡ t → at key k (if t then without key k xs else x ∷ without key k xs) ≡ None) [
    | true ↦ λ e. at_without_same k xs
    | false ↦ λ e. ap (λ (b : Bool). if b then Some x else at key k (without key k xs)) e ∙ at_without_same k xs
  ] refl

  pub at_without_other : (k j : ℕ) (xs : List A) → k ≢ j → at key j (without key k xs) ≡ at key j xs
  at_without_other k j [] differs = refl
  at_without_other k j (x ∷ xs) differs = by_eq (key x) k
      (λ same t. ap (λ (b : Bool). at key j (if b then without key k xs else x ∷ without key k xs)) t ∙ (at_without_other k j xs differs ∙ sym (passed same)))
      (λ other t. ap (λ (b : Bool). at key j (if b then without key k xs else x ∷ without key k xs)) t
      ∙ ap (λ (o : Option A). if nat_eq (key x) j then Some x else o) (at_without_other k j xs differs))
    where
      passed : key x ≡ k → at key j (x ∷ xs) ≡ at key j xs
      passed same = by_eq (key x) j (λ found t. absurd (differs (sym same ∙ found))) (λ other t. ap (λ (b : Bool). if b then Some x else at key j xs) t)

  pub without_none : (k : ℕ) (xs : List A) → at key k xs ≡ None → without key k xs ≡ xs
  without_none k [] none = refl
  without_none k (x ∷ xs) none = elim (nat_eq (key x) k) as (λ t. (if t then Some x else at key k xs) ≡ None → (if t then without key k xs else x ∷ without key k xs) ≡ x ∷ xs) [
    | true ↦ λ h. absurd (cc h)
    | false ↦ λ h. ap (λ (ys : List A). x ∷ ys) (without_none k xs h)
  ] none

  pub without_put : (y : A) (xs : List A) → without key (key y) (put key y xs) ≡ without key (key y) xs
  without_put y [] = refl
  without_put y (x ∷ xs) = elim (nat_eq (key x) (key y)) as (λ t. nat_eq (key x) (key y) ≡ t → without key (key y) (if t then y ∷ xs else x ∷ put key y xs)
      ≡ (if t then without key (key y) xs else x ∷ without key (key y) xs)) [
        | true ↦ λ e. ap (λ (b : Bool). if b then without key (key y) xs else y ∷ without key (key y) xs) (eq-eqb (key y) (key y) refl)
        | false ↦ λ e. ap (λ (b : Bool). if b then without key (key y) (put key y xs) else x ∷ without key (key y) (put key y xs)) e
            ∙ ap (λ (ys : List A). x ∷ ys) (without_put y xs)
      ] refl

  -- what holds of each other element
  pub without_each : (P Q : A → Type 0) (k : ℕ) (xs : List A) → ((x : A) → k ≢ key x → P x → Q x) → Every P xs → Every Q (without key k xs)
  without_each P Q k [] others h = tt
  without_each P Q k (x ∷ xs) others h = by_eq (key x) k
      (λ same t. subst (λ (b : Bool). Every Q (if b then without key k xs else x ∷ without key k xs)) (sym t) (without_each P Q k xs others h.1))
      (λ differs t. subst (λ (b : Bool). Every Q (if b then without key k xs else x ∷ without key k xs)) (sym t)
      (others x (λ e. differs (sym e)) h.0, without_each P Q k xs others h.1))

  -- and back
  pub without_back : (P : A → Type 0) (k : ℕ) (xs : List A) → Every P (without key k xs) → Every (λ x. (key x ≡ k → ⊥) → P x) xs
  without_back P k [] h = tt
  without_back P k (x ∷ xs) h = by_eq (key x) k
      (λ is t. (λ differs. absurd (differs is), without_back P k xs (subst (λ (b : Bool). Every P (if b then without key k xs else x ∷ without key k xs)) t h)))
      (λ other t. (let parts : P x × Every P (without key k xs) = subst (λ (b : Bool). Every P (if b then without key k xs else x ∷ without key k xs)) t h
      in (λ differs. parts.0, without_back P k xs parts.1)))

  -- an element that is found passes a test
  pub at_any : (test : A → Bool) (k : ℕ) (xs : List A) (x : A) → at key k xs ≡ Some x → test x ≡ true → list_any test xs ≡ true
  at_any test k [] x found passes = absurd (cc found)
  at_any test k (y ∷ xs) x found passes = by_eq (key y) k
      (λ is t. ap (λ (b : Bool). b || list_any test xs) (ap test (one_of y x (sym (ap (λ (b : Bool). if b then Some y else at key k xs) t) ∙ found)) ∙ passes))
      (λ differs t. ap (λ (b : Bool). test y || b) (at_any test k xs x (sym (ap (λ (b : Bool). if b then Some y else at key k xs) t) ∙ found) passes) ∙ or_true (test y))
    where
      one_of : (a b : A) → Some a ≡ Some b → a ≡ b
      one_of a b e = cc

      or_true : (b : Bool) → (b || true) ≡ true
      or_true true = refl
      or_true false = refl
