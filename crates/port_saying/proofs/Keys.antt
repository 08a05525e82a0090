-- Lists by keys: what is found behind a change, and two changes in one place

use Rattle.std.proofs.Common.{◌≡◌, ◌≢◌, ℕ, suc, List, [], ◌∷◌, length, map, refl, sym, ap, ◌∙◌, Some, inl, inr}
use Rattle.std.proofs.lemmas.Bool.{cases_eq, eq-eqb, ne_eqb}
use Rattle.keyed_lists.specs.Keyed.{at, put, without}

module _ {A : Type 0} (key : A → ℕ) where
  pub at_here : (k : ℕ) (x : A) (xs : List A) → key x ≡ k → at key k (x ∷ xs) ≡ Some x
  at_here k x xs e = rw (eq-eqb (key x) k e) refl

  pub at_there : (k : ℕ) (x : A) (xs : List A) → key x ≢ k → at key k (x ∷ xs) ≡ at key k xs
  at_there k x xs n = rw (ne_eqb (key x) k n) refl

  pub put_here : (y x : A) (xs : List A) → key x ≡ key y → put key y (x ∷ xs) ≡ y ∷ xs
  put_here y x xs e = rw (eq-eqb (key x) (key y) e) refl

  pub put_there : (y x : A) (xs : List A) → key x ≢ key y → put key y (x ∷ xs) ≡ x ∷ put key y xs
  put_there y x xs n = rw (ne_eqb (key x) (key y) n) refl

  pub without_here : (k : ℕ) (x : A) (xs : List A) → key x ≡ k → without key k (x ∷ xs) ≡ without key k xs
  without_here k x xs e = rw (eq-eqb (key x) k e) refl

  pub without_there : (k : ℕ) (x : A) (xs : List A) → key x ≢ k → without key k (x ∷ xs) ≡ x ∷ without key k xs
  without_there k x xs n = rw (ne_eqb (key x) k n) refl

  -- what is put is found
  pub at_put : (y x : A) (xs : List A) → at key (key y) xs ≡ Some x → at key (key y) (put key y xs) ≡ Some y
  at_put y x [] e = absurd (cc e)
  at_put y x (z ∷ zs) e = elim (cases_eq (key z) (key y)) [
    | inl same ↦ rw (put_here y z zs same) (at_here (key y) y zs refl)
    | inr other ↦ rw (put_there y z zs other) (at_there (key y) z (put key y zs) other ∙ at_put y x zs (sym (at_there (key y) z zs other) ∙ e))
  ]

  -- the later of two changes stays
  pub put_twice : (x y : A) (xs : List A) → key x ≡ key y → put key y (put key x xs) ≡ put key y xs
  put_twice x y [] same = refl
  put_twice x y (z ∷ zs) same = elim (cases_eq (key z) (key x)) [
    | inl is ↦ ap (put key y) (put_here x z zs is) ∙ put_here y x zs same ∙ sym (put_here y z zs (is ∙ same))
    | inr other ↦ ap (put key y) (put_there x z zs other) ∙ put_there y z (put key x zs) (λ e. other (e ∙ sym same))
        ∙ ap (λ t. z ∷ t) (put_twice x y zs same) ∙ sym (put_there y z zs (λ e. other (e ∙ sym same)))
  ]

  pub without_put : (x : A) (k : ℕ) (xs : List A) → key x ≡ k → without key k (put key x xs) ≡ without key k xs
  without_put x k [] same = refl
  without_put x k (z ∷ zs) same = elim (cases_eq (key z) (key x)) [
    | inl is ↦ ap (without key k) (put_here x z zs is) ∙ without_here k x zs same ∙ sym (without_here k z zs (is ∙ same))
    | inr other ↦ ap (without key k) (put_there x z zs other) ∙ without_there k z (put key x zs) (λ e. other (e ∙ sym same))
        ∙ ap (λ t. z ∷ t) (without_put x k zs same) ∙ sym (without_there k z zs (λ e. other (e ∙ sym same)))
  ]

  -- what is found is put
  pub put_found : (x : A) (xs : List A) → at key (key x) xs ≡ Some x → put key x xs ≡ xs
  put_found x [] e = refl
  put_found x (z ∷ zs) e = elim (cases_eq (key z) (key x)) [
    | inl is ↦ (let same : Some z ≡ Some x = sym (at_here (key x) z zs is) ∙ e in let it : x ≡ z = cc in put_here x z zs is ∙ ap (λ v. v ∷ zs) it)
    | inr other ↦ put_there x z zs other ∙ ap (λ t. z ∷ t) (put_found x zs (sym (at_there (key x) z zs other) ∙ e))
  ]

  pub keys_put : (y : A) (xs : List A) → map key (put key y xs) ≡ map key xs
  keys_put y [] = refl
  keys_put y (z ∷ zs) = elim (cases_eq (key z) (key y)) [
    | inl is ↦ ap (map key) (put_here y z zs is) ∙ ap (λ k. k ∷ map key zs) (sym is)
    | inr other ↦ ap (map key) (put_there y z zs other) ∙ ap (λ t. key z ∷ t) (keys_put y zs)
  ]

  pub length_put : (y : A) (xs : List A) → length (put key y xs) ≡ length xs
  length_put y [] = refl
  length_put y (z ∷ zs) = elim (cases_eq (key z) (key y)) [
    | inl is ↦ ap (λ (t : List A). length t) (put_here y z zs is)
    | inr other ↦ ap (λ (t : List A). length t) (put_there y z zs other) ∙ ap (λ (n : ℕ). suc n) (length_put y zs)
  ]
