-- lists that are put together of one list for each element

use Rattle.std.proofs.Common.{◌≡◌, ◌≤◌, Bool, true, false, cond, List, [], ◌∷◌, ◌++◌, map, filter, flat_map, refl, ap, if◌then◌else◌}
use Rattle.net_types.specs.declared.node.PortNo.{PortNo}

pub flat_none : {A B : Type 0} (f : A → List B) (xs : List A) → ((x : A) → f x ≡ []) → flat_map f xs ≡ []
flat_none f [] none = refl
flat_none f (x ∷ xs) none = λ i. none x i ++ flat_none f xs none i

pub flat_mapped : {A B C : Type 0} (f : B → List C) (g : A → B) (xs : List A) → flat_map f (map g xs) ≡ flat_map (λ x. f (g x)) xs
flat_mapped f g [] = refl
flat_mapped f g (x ∷ xs) = ap (λ rest. f (g x) ++ rest) (flat_mapped f g xs)

-- those that a test chooses alone
pub flat_chosen : {A B : Type 0} (test : A → Bool) (f : A → List B) (xs : List A) → flat_map f (filter test xs) ≡ flat_map (λ x. if test x then f x else []) xs
flat_chosen {A} {B} test f [] = refl
flat_chosen {A} {B} test f (x ∷ xs) = elim (test x) as (λ t. flat_map f (cond t (x ∷ filter test xs) (filter test xs)) ≡ (if t then f x else []) ++ flat_map (λ x. if test x then f x else []) xs) [
  | true ↦ ap (λ rest. f x ++ rest) (flat_chosen test f xs)
  | false ↦ flat_chosen test f xs
]

-- of ports up to 8
abbrev pub AreLow : List PortNo → Type 0
AreLow [] = Unit {0}
AreLow (port ∷ ports) = (port.0 ≤ 8) × AreLow ports

pub flat_same : {B : Type 0} (f g : PortNo → List B) → ((port : PortNo) → port.0 ≤ 8 → f port ≡ g port) → (ports : List PortNo) → AreLow ports → flat_map f ports ≡ flat_map g ports
flat_same f g same [] low = refl
flat_same f g same (port ∷ ports) low = λ i. same port low.0 i ++ flat_same f g same ports low.1 i
