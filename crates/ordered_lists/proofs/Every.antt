-- what holds of every element: of a part, of a whole, and of a list that was mapped

use Rattle.std.proofs.Common.{List, [], ◌∷◌, ◌++◌, map}
use Rattle.ordered_lists.specs.Ordered.{Every}

module _ {A : Type 0} where
  pub every_left : (P : A → Type 0) (xs ys : List A) → Every P (xs ++ ys) → Every P xs
  every_left P [] ys h = tt
  every_left P (x ∷ xs) ys h = (h.0, every_left P xs ys h.1)

  pub every_right : (P : A → Type 0) (xs ys : List A) → Every P (xs ++ ys) → Every P ys
  every_right P [] ys h = h
  every_right P (x ∷ xs) ys h = every_right P xs ys h.1

  pub every_join : (P : A → Type 0) (xs ys : List A) → Every P xs → Every P ys → Every P (xs ++ ys)
  every_join P [] ys h k = k
  every_join P (x ∷ xs) ys h k = (h.0, every_join P xs ys h.1 k)

  -- what holds of each element of the type
  pub every_all : (P : A → Type 0) (xs : List A) → ((x : A) → P x) → Every P xs
  every_all P [] f = tt
  every_all P (x ∷ xs) f = (f x, every_all P xs f)

  -- what follows for each element
  pub every_map : (P Q : A → Type 0) (xs : List A) → ((x : A) → P x → Q x) → Every P xs → Every Q xs
  every_map P Q [] f h = tt
  every_map P Q (x ∷ xs) f h = (f x h.0, every_map P Q xs f h.1)

  -- what follows for each element from two facts
  pub every_map2 : (P Q S : A → Type 0) (xs : List A) → ((x : A) → P x → Q x → S x) → Every P xs → Every Q xs
      → Every S xs
  every_map2 P Q S [] f h k = tt
  every_map2 P Q S (x ∷ xs) f h k = (f x h.0 k.0, every_map2 P Q S xs f h.1 k.1)

  -- three facts of each element
  pub every_zip3 : (P Q S : A → Type 0) (xs : List A) → Every P xs → Every Q xs → Every S xs
      → Every (λ x. P x × Q x × S x) xs
  every_zip3 P Q S [] h k l = tt
  every_zip3 P Q S (x ∷ xs) h k l = ((h.0, k.0, l.0), every_zip3 P Q S xs h.1 k.1 l.1)

  -- the elements of the one list by those of the other, and the other way round
  pub every_swap : (R : A → A → Type 0) (xs ys : List A) → Every (λ x. Every (R x) ys) xs
      → Every (λ y. Every (λ x. R x y) xs) ys
  every_swap R [] ys h = every_all (λ y. Every (λ x. R x y) []) ys (λ y. tt)
  every_swap R (x ∷ xs) ys h = every_map2 (R x) (λ y. Every (λ z. R z y) xs) (λ y. Every (λ z. R z y) (x ∷ xs)) ys
      (λ y p q. (p, q)) h.0 (every_swap R xs ys h.1)

  -- both lists are parts of longer ones
  pub every_pairs_left : (R : A → A → Type 0) (xs ys zs : List A) → Every (λ x. Every (R x) (ys ++ zs)) xs
      → Every (λ x. Every (R x) ys) xs
  every_pairs_left R xs ys zs h = every_map (λ x. Every (R x) (ys ++ zs)) (λ x. Every (R x) ys) xs
      (λ x k. every_left (R x) ys zs k) h

  pub every_pairs_right : (R : A → A → Type 0) (xs ys zs : List A) → Every (λ x. Every (R x) (ys ++ zs)) xs
      → Every (λ x. Every (R x) zs) xs
  every_pairs_right R xs ys zs h = every_map (λ x. Every (R x) (ys ++ zs)) (λ x. Every (R x) zs) xs
      (λ x k. every_right (R x) ys zs k) h

  pub every_pairs_join : (R : A → A → Type 0) (xs ys zs : List A) → Every (λ x. Every (R x) ys) xs
      → Every (λ x. Every (R x) zs) xs → Every (λ x. Every (R x) (ys ++ zs)) xs
  every_pairs_join R xs ys zs h k = every_map2 (λ x. Every (R x) ys) (λ x. Every (R x) zs)
      (λ x. Every (R x) (ys ++ zs)) xs (λ x p q. every_join (R x) ys zs p q) h k

  -- what follows for each pair
  pub every_pairs_map : (R S : A → A → Type 0) (P Q : A → Type 0) (xs ys : List A)
      → ((x y : A) → P x → Q y → R x y → S x y) → Every P xs → Every Q ys → Every (λ x. Every (R x) ys) xs
      → Every (λ x. Every (S x) ys) xs
  every_pairs_map R S P Q xs ys f h k r = every_map2 P (λ x. Every (R x) ys) (λ x. Every (S x) ys) xs
      (λ x p e. every_map2 Q (R x) (S x) ys (λ y q t. f x y p q t) k e) h r

-- of a list that was mapped
pub every_mapped : {A B : Type 0} (f : A → B) (P : B → Type 0) (xs : List A) → Every (λ x. P (f x)) xs
    → Every P (map f xs)
every_mapped f P [] h = tt
every_mapped f P (x ∷ xs) h = (h.0, every_mapped f P xs h.1)

pub every_unmapped : {A B : Type 0} (f : A → B) (P : B → Type 0) (xs : List A) → Every P (map f xs)
    → Every (λ x. P (f x)) xs
every_unmapped f P [] h = tt
every_unmapped f P (x ∷ xs) h = (h.0, every_unmapped f P xs h.1)
