-- lists: look-ups by keys, and sums in which one element counts otherwise

use Rattle.std.proofs.Common.{◌≡◌, ◌≢◌, ℕ, zero, suc, ◌<◌, ◌+◌, Bool, true, false, cond, List, [], ◌∷◌, ◌++◌, length, slice_set, slice_index_or, Option, Some, refl, sym, ◌∙◌, ap, arith, sum_by, count_by, if◌then◌else◌}
use Rattle.std.specs.Prelude.{nat_eq}
use Rattle.std.proofs.lemmas.Bool.Decides.{nat_tests}
use Rattle.std.proofs.lemmas.List.Sums.{sum_by-cons, sum_by-append}
use Rattle.network_model.specs.keyed_lists.Keyed.{at, put}

-- a test of two numbers is the one or the other, with the fact
pub by_eq : {P : Type 0} (a b : ℕ) → (a ≡ b → nat_eq a b ≡ true → P) → (a ≢ b → nat_eq a b ≡ false → P) → P
by_eq {P} a b same other = elim (nat_eq a b) as (λ t. nat_eq a b ≡ t → P) [
  | true ↦ λ e. same (grind (arith, nat_tests)) e
  | false ↦ λ e. other (grind (arith, nat_tests)) e
] refl

module _ {A : Type 0} (key : A → ℕ) where
  pub at_put_same : (y : A) (xs : List A) (x : A) → at key (key y) xs ≡ Some x → at key (key y) (put key y xs) ≡ Some y
  at_put_same y [] x e = absurd (cc e)
  at_put_same y (z ∷ xs) x e = elim (nat_eq (key z) (key y)) as (λ t. nat_eq (key z) (key y) ≡ t
      → (if t then Some z else at key (key y) xs) ≡ Some x → at key (key y) (if t then y ∷ xs else z ∷ put key y xs) ≡ Some y) [
        | true ↦ λ t h. grind (arith, nat_tests)
        | false ↦ λ t h. grind (arith, nat_tests, at_put_same y xs x h)
      ] refl e

  pub at_put_other : (y : A) (k : ℕ) (xs : List A) → key y ≢ k → at key k (put key y xs) ≡ at key k xs
  at_put_other y k [] n = refl
  at_put_other y k (z ∷ xs) n = elim (nat_eq (key z) (key y)) as (λ t. nat_eq (key z) (key y) ≡ t
      → at key k (if t then y ∷ xs else z ∷ put key y xs) ≡ at key k (z ∷ xs)) [
        | true ↦ λ t. grind (arith, nat_tests)
        | false ↦ λ t. ap (λ (o : Option A). if nat_eq (key z) k then Some z else o) (at_put_other y k xs n)
      ] refl

  pub at_key : (k : ℕ) (xs : List A) (x : A) → at key k xs ≡ Some x → key x ≡ k
  at_key k [] x e = absurd (cc e)
  at_key k (z ∷ xs) x e = elim (nat_eq (key z) k) as (λ t. nat_eq (key z) k ≡ t → (if t then Some z else at key k xs) ≡ Some x → key x ≡ k) [
    | true ↦ λ t h. grind (arith, nat_tests)
    | false ↦ λ t h. at_key k xs x h
  ] refl e

  -- a sum over all, where one is put in the place of another
  pub sum_put : (f : A → ℕ) (y x : A) (xs : List A) → at key (key y) xs ≡ Some x → sum_by f (put key y xs) + f x ≡ sum_by f xs + f y
  sum_put f y x [] e = absurd (cc e)
  sum_put f y x (z ∷ xs) e = elim (nat_eq (key z) (key y)) as (λ t. (if t then Some z else at key (key y) xs) ≡ Some x
      → sum_by f (if t then y ∷ xs else z ∷ put key y xs) + f x ≡ sum_by f (z ∷ xs) + f y) [
        | true ↦ λ h. (let same : z ≡ x = cc in omega (arith, sum_by-cons f y xs, sum_by-cons f z xs, ap f same))
        | false ↦ λ h. omega (arith, sum_by-cons f z (put key y xs), sum_by-cons f z xs, sum_put f y x xs h)
      ] e

-- *One element of a list by its place*
pub index_set : {A : Type 0} (xs : List A) (i j : ℕ) (y d : A) → i ≢ j → slice_index_or (slice_set xs i y) j d ≡ slice_index_or xs j d
index_set [] i j y d away = refl
index_set (x ∷ xs) zero zero y d away = absurd (away refl)
index_set (x ∷ xs) zero (suc j) y d away = refl
index_set (x ∷ xs) (suc i) zero y d away = refl
index_set (x ∷ xs) (suc i) (suc j) y d away = index_set xs i j y d (λ e. away (ap suc e))

pub index_here : {A : Type 0} (xs : List A) (i : ℕ) (y d : A) → i < length xs → slice_index_or (slice_set xs i y) i d ≡ y
index_here [] i y d low = absurd (omega (arith, low))
index_here (x ∷ xs) zero y d low = refl
index_here (x ∷ xs) (suc i) y d low = index_here xs i y d (omega (arith, low))

pub length_set : {A : Type 0} (xs : List A) (i : ℕ) (y : A) → length (slice_set xs i y) ≡ length xs
length_set [] i y = refl
length_set (x ∷ xs) zero y = refl
length_set (x ∷ xs) (suc i) y = ap suc (length_set xs i y)

-- *Counts and sums*: the elements that a test passes count all alike, and the others as before
module _ {A : Type 0} (test : A → Bool) where
  abbrev one : A → ℕ
  one x = cond (test x) 1 0

  pub count_append : (xs ys : List A) → count_by test (xs ++ ys) ≡ count_by test xs + count_by test ys
  count_append xs ys = sum_by-append one xs ys

  pub count_cons : (x : A) (xs : List A) → count_by test (x ∷ xs) ≡ one x + count_by test xs
  count_cons x xs = sum_by-cons one x xs

  pub count_here : (x : A) (xs : List A) → test x ≡ true → count_by test (x ∷ xs) ≡ suc (count_by test xs)
  count_here x xs is = omega (arith, count_cons x xs, ap {B = ℕ} (λ (b : Bool). cond b 1 0) is)

  pub count_there : (x : A) (xs : List A) → test x ≡ false → count_by test (x ∷ xs) ≡ count_by test xs
  count_there x xs isnt = omega (arith, count_cons x xs, ap {B = ℕ} (λ (b : Bool). cond b 1 0) isnt)

  module _ (f g : A → ℕ) (away : (x : A) → test x ≡ false → g x ≡ f x) where
    pub sum_none : (xs : List A) → count_by test xs ≡ 0 → sum_by g xs ≡ sum_by f xs
    sum_none [] none = refl
    sum_none (x ∷ xs) none = elim (test x) as (λ t. test x ≡ t → sum_by g (x ∷ xs) ≡ sum_by f (x ∷ xs)) [
      | true ↦ λ e. absurd (omega (arith, count_here x xs e, none))
      | false ↦ λ e. omega (arith, sum_by-cons f x xs, sum_by-cons g x xs, away x e, sum_none xs (sym (count_there x xs e) ∙ none))
    ] refl

    module _ (old new : ℕ) (was : (x : A) → test x ≡ true → f x ≡ old) (is : (x : A) → test x ≡ true → g x ≡ new) where
      pub sum_once : (xs : List A) → count_by test xs ≡ 1 → sum_by g xs + old ≡ sum_by f xs + new
      sum_once [] once = absurd (cc once)
      sum_once (x ∷ xs) once = elim (test x) as (λ t. test x ≡ t → sum_by g (x ∷ xs) + old ≡ sum_by f (x ∷ xs) + new) [
        | true ↦ λ e. omega (arith, sum_by-cons f x xs, sum_by-cons g x xs, was x e, is x e, sum_none xs (omega (arith, count_here x xs e, once)))
        | false ↦ λ e. omega (arith, sum_by-cons f x xs, sum_by-cons g x xs, away x e, sum_once xs (sym (count_there x xs e) ∙ once))
      ] refl
