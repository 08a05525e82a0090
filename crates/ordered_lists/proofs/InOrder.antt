-- what holds of every two elements in order: of a part, of a whole, and of a list that was mapped

use Rattle.std.proofs.Common.{List, [], ◌∷◌, ◌++◌, map}
use Rattle.ordered_lists.specs.Ordered.{Every, InOrder}
use Rattle.ordered_lists.proofs.Every.{every_left, every_right, every_join, every_map2, every_mapped, every_unmapped}

module _ {A : Type 0} where
  pub order_left : (R : A → A → Type 0) (xs ys : List A) → InOrder R (xs ++ ys) → InOrder R xs
  order_left R [] ys h = tt
  order_left R (x ∷ xs) ys h = (every_left (R x) xs ys h.0, order_left R xs ys h.1)

  pub order_right : (R : A → A → Type 0) (xs ys : List A) → InOrder R (xs ++ ys) → InOrder R ys
  order_right R [] ys h = h
  order_right R (x ∷ xs) ys h = order_right R xs ys h.1

  -- each element of the first part with each of the second
  pub order_across : (R : A → A → Type 0) (xs ys : List A) → InOrder R (xs ++ ys)
      → Every (λ x. Every (R x) ys) xs
  order_across R [] ys h = tt
  order_across R (x ∷ xs) ys h = (every_right (R x) xs ys h.0, order_across R xs ys h.1)

  pub order_join : (R : A → A → Type 0) (xs ys : List A) → InOrder R xs → Every (λ x. Every (R x) ys) xs
      → InOrder R ys → InOrder R (xs ++ ys)
  order_join R [] ys h k l = l
  order_join R (x ∷ xs) ys h k l = (every_join (R x) xs ys h.0 k.0, order_join R xs ys h.1 k.1 l)

  -- what follows for each two elements
  pub order_map : (R S : A → A → Type 0) (P : A → Type 0) (xs : List A)
      → ((x y : A) → P x → P y → R x y → S x y) → Every P xs → InOrder R xs → InOrder S xs
  order_map R S P [] f h r = tt
  order_map R S P (x ∷ xs) f h
      r = (every_map2 P (R x) (S x) xs (λ y q t. f x y h.0 q t) h.1 r.0, order_map R S P xs f h.1 r.1)

-- of a list that was mapped
pub order_mapped : {A B : Type 0} (f : A → B) (R : B → B → Type 0) (xs : List A)
    → InOrder (λ x y. R (f x) (f y)) xs → InOrder R (map f xs)
order_mapped f R [] h = tt
order_mapped f R (x ∷ xs) h = (every_mapped f (R (f x)) xs h.0, order_mapped f R xs h.1)

pub order_unmapped : {A B : Type 0} (f : A → B) (R : B → B → Type 0) (xs : List A) → InOrder R (map f xs)
    → InOrder (λ x y. R (f x) (f y)) xs
order_unmapped f R [] h = tt
order_unmapped f R (x ∷ xs) h = (every_unmapped f (R (f x)) xs h.0, order_unmapped f R xs h.1)
