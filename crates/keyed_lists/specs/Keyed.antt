-- Lists whose elements have a number as their key, as ports by their number and labels by theirs

use Rattle.std.specs.Prelude.{ℕ, Bool, nat_eq, nat_le, List, [], ◌∷◌, Option, None, Some, if◌then◌else◌}

-- the first element with this key
abbrev pub at : {A : Type 0} → (A → ℕ) → ℕ → List A → Option A
at key k [] = None
at key k (x ∷ xs) = if nat_eq (key x) k then Some x else at key k xs

-- the first element with y's key is replaced by y; nothing changes where there is none
abbrev pub put : {A : Type 0} → (A → ℕ) → A → List A → List A
put key y [] = []
put key y (x ∷ xs) = if nat_eq (key x) (key y) then y ∷ xs else x ∷ put key y xs

-- all elements with this key are left out
abbrev pub without : {A : Type 0} → (A → ℕ) → ℕ → List A → List A
without key k [] = []
without key k (x ∷ xs) = if nat_eq (key x) k then without key k xs else x ∷ without key k xs

-- y stands in front of the first element that it comes before, or is equal to
abbrev pub entered : {A : Type 0} → (le : A → A → Bool) → A → List A → List A
entered le y [] = y ∷ []
entered le y (x ∷ xs) = if le y x then y ∷ x ∷ xs else x ∷ entered le y xs

-- the elements in order
abbrev pub in_order : {A : Type 0} → (le : A → A → Bool) → List A → List A
in_order le [] = []
in_order le (x ∷ xs) = entered le x (in_order le xs)

-- by key, the lowest first
abbrev pub key_le : {A : Type 0} → (A → ℕ) → A → A → Bool
key_le key x y = nat_le (key x) (key y)
