-- a list without some of its elements

use Rattle.std.proofs.Common.{ℕ, zero, suc, Bool, true, false, List, [], ◌∷◌, ◌++◌, map, filter, remove, if◌then◌else◌}
use Rattle.ordered_lists.specs.Ordered.{Every, InOrder, Holds}

-- the first list is the second without some of its elements
pub data IsPart {A : Type 0} : List A → List A → Type 0 where
  none : IsPart [] []
  kept : {x : A} {xs ys : List A} → IsPart xs ys → IsPart (x ∷ xs) (x ∷ ys)
  left : {x : A} {xs ys : List A} → IsPart xs ys → IsPart xs (x ∷ ys)

pub part_whole : {A : Type 0} (xs : List A) → IsPart xs xs
part_whole [] = none
part_whole (x ∷ xs) = kept (part_whole xs)

pub part_none : {A : Type 0} (xs : List A) → IsPart [] xs
part_none [] = none
part_none (x ∷ xs) = left (part_none xs)

pub part_join : {A : Type 0} {xs ys vs ws : List A} → IsPart xs ys → IsPart vs ws → IsPart (xs ++ vs) (ys ++ ws)
part_join none q = q
part_join (kept p) q = kept (part_join p q)
part_join (left p) q = left (part_join p q)

pub part_mapped : {A B : Type 0} (f : A → B) {xs ys : List A} → IsPart xs ys → IsPart (map f xs) (map f ys)
part_mapped f none = none
part_mapped f (kept p) = kept (part_mapped f p)
part_mapped f (left p) = left (part_mapped f p)

-- the element at a place is removed
pub part_removed : {A : Type 0} (xs : List A) (place : ℕ) → IsPart (remove xs place) xs
part_removed [] zero = none
part_removed [] (suc place) = none
part_removed (x ∷ xs) zero = left (part_whole xs)
part_removed (x ∷ xs) (suc place) = kept (part_removed xs place)

-- the elements that pass a test are kept
pub part_filtered : {A : Type 0} (test : A → Bool) (xs : List A) → IsPart (filter test xs) xs
part_filtered test [] = none
part_filtered test (x ∷ xs) = elim (test x)
    as (λ passes. IsPart (if passes then (x ∷ filter test xs) else filter test xs) (x ∷ xs)) [
      | true ↦ kept (part_filtered test xs)
      | false ↦ left (part_filtered test xs)
    ]

pub every_part : {A : Type 0} (P : A → Type 0) {xs ys : List A} → IsPart xs ys → Every P ys → Every P xs
every_part P none h = tt
every_part P (kept p) h = (h.0, every_part P p h.1)
every_part P (left p) h = every_part P p h.1

pub order_part : {A : Type 0} (R : A → A → Type 0) {xs ys : List A} → IsPart xs ys → InOrder R ys → InOrder R xs
order_part R none h = tt
order_part R (kept {x} p) h = (every_part (R x) p h.0, order_part R p h.1)
order_part R (left p) h = order_part R p h.1

pub holds_part : {A : Type 0} (P : A → Type 0) (R : A → A → Type 0) {xs ys : List A} → IsPart xs ys
    → Holds P R ys → Holds P R xs
holds_part P R p h = record { each = every_part P p h.each; order = order_part R p h.order }
