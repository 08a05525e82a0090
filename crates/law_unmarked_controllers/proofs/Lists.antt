-- lists of which each element is changed, where its key stays

use Rattle.std.proofs.Common.{◌≡◌, ℕ, zero, suc, true, false, List, [], ◌∷◌, ◌++◌, length, map, slice_set, slice_index_or, Some, refl, ◌∙◌, ap, arith, sum_by, if◌then◌else◌}
use Rattle.std.specs.Prelude.{nat_eq}
use Rattle.std.specs.Option.{option_map}
use Rattle.std.proofs.lemmas.List.Sums.{sum_by-cons}
use Rattle.world_model.specs.Words.{at, put, without, entered, key_le}

pub length_same : {A B : Type 0} (f : A → B) (xs : List A) → length (map f xs) ≡ length xs
length_same f [] = refl
length_same f (x ∷ xs) = ap suc (length_same f xs)

pub map_join : {A B : Type 0} (f : A → B) (xs ys : List A) → map f (xs ++ ys) ≡ map f xs ++ map f ys
map_join f [] ys = refl
map_join {B = B} f (x ∷ xs) ys = ap (λ (l : List B). f x ∷ l) (map_join f xs ys)

-- changed twice
pub map_then : {A B C : Type 0} (f : A → B) (g : B → C) (h : A → C) → ((x : A) → g (f x) ≡ h x) → (xs : List A) → map g (map f xs) ≡ map h xs
map_then f g h each [] = refl
map_then f g h each (x ∷ xs) = λ i. each x i ∷ map_then f g h each xs i

pub sum_same : {A : Type 0} (f : A → A) (size : A → ℕ) → ((x : A) → size (f x) ≡ size x) → (xs : List A) → sum_by size (map f xs) ≡ sum_by size xs
sum_same f size each [] = refl
sum_same f size each (x ∷ xs) = omega (arith, sum_by-cons size (f x) (map f xs), sum_by-cons size x xs, each x, sum_same f size each xs)

pub index_same : {A B : Type 0} (f : A → B) (xs : List A) (i : ℕ) (d : A) → slice_index_or (map f xs) i (f d) ≡ f (slice_index_or xs i d)
index_same f [] i d = refl
index_same f (x ∷ xs) zero d = refl
index_same f (x ∷ xs) (suc i) d = index_same f xs i d

pub set_same : {A B : Type 0} (f : A → B) (xs : List A) (i : ℕ) (y : A) → slice_set (map f xs) i (f y) ≡ map f (slice_set xs i y)
set_same f [] i y = refl
set_same f (x ∷ xs) zero y = refl
set_same {B = B} f (x ∷ xs) (suc i) y = ap (λ (l : List B). f x ∷ l) (set_same f xs i y)

-- *By keys*, which each change leaves
module _ {A : Type 0} (key : A → ℕ) (f : A → A) (keeps : (x : A) → key (f x) ≡ key x) where
  pub at_same : (k : ℕ) (xs : List A) → at key k (map f xs) ≡ option_map f (at key k xs)
  at_same k [] = refl
  at_same k (x ∷ xs) =
      ap (λ (n : ℕ). if nat_eq n k then Some (f x) else at key k (map f xs)) (keeps x)
      ∙ elim (nat_eq (key x) k) as (λ t. (if t then Some (f x) else at key k (map f xs)) ≡ option_map f (if t then Some x else at key k xs)) [ true ↦ refl | false ↦ at_same k xs ]

  pub put_same : (y : A) (xs : List A) → put key (f y) (map f xs) ≡ map f (put key y xs)
  put_same y [] = refl
  put_same y (x ∷ xs) =
      (λ i. if nat_eq (keeps x i) (keeps y i) then f y ∷ map f xs else f x ∷ put key (f y) (map f xs))
      ∙ elim (nat_eq (key x) (key y)) as (λ t. (if t then f y ∷ map f xs else f x ∷ put key (f y) (map f xs)) ≡ map f (if t then y ∷ xs else x ∷ put key y xs)) [
        | true ↦ refl
        | false ↦ ap (λ (l : List A). f x ∷ l) (put_same y xs)
      ]

  pub without_same : (k : ℕ) (xs : List A) → without key k (map f xs) ≡ map f (without key k xs)
  without_same k [] = refl
  without_same k (x ∷ xs) =
      ap (λ (n : ℕ). if nat_eq n k then without key k (map f xs) else f x ∷ without key k (map f xs)) (keeps x)
      ∙ elim (nat_eq (key x) k) as (λ t. (if t then without key k (map f xs) else f x ∷ without key k (map f xs)) ≡ map f (if t then without key k xs else x ∷ without key k xs)) [
        | true ↦ without_same k xs
        | false ↦ ap (λ (l : List A). f x ∷ l) (without_same k xs)
      ]

  pub entered_same : (y : A) (xs : List A) → entered (key_le key) (f y) (map f xs) ≡ map f (entered (key_le key) y xs)
  entered_same y [] = refl
  entered_same y (x ∷ xs) =
      (λ i. if key_le (λ (n : ℕ). n) (keeps y i) (keeps x i) then f y ∷ f x ∷ map f xs else f x ∷ entered (key_le key) (f y) (map f xs))
      ∙ elim (key_le key y x) as (λ t. (if t then f y ∷ f x ∷ map f xs else f x ∷ entered (key_le key) (f y) (map f xs)) ≡ map f (if t then y ∷ x ∷ xs else x ∷ entered (key_le key) y xs)) [
        | true ↦ refl
        | false ↦ ap (λ (l : List A). f x ∷ l) (entered_same y xs)
      ]
