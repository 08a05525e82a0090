-- lists of which every element has a property, and every two, in order, stand in a relation

use Rattle.std.specs.Prelude.{List, [], ◌∷◌}

-- every element has P
abbrev pub Every : {A : Type 0} → (A → Type 0) → List A → Type 0
Every P [] = Unit {0}
Every P (x ∷ xs) = P x × Every P xs

-- R holds of each element and each later one
abbrev pub InOrder : {A : Type 0} → (A → A → Type 0) → List A → Type 0
InOrder R [] = Unit {0}
InOrder R (x ∷ xs) = Every (R x) xs × InOrder R xs

-- both
pub record Holds {A : Type 0} (P : A → Type 0) (R : A → A → Type 0) (xs : List A) : Type 0 where
  pub each : Every P xs
  pub order : InOrder R xs
