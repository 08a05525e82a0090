-- how a reader of lines gives the next one

use Rattle.std.specs.Prelude.{◌≡◌, ℕ, Bool, true, false, List, [], ◌∷◌, ◌++◌, Result, Ok, Err}

-- of these lines the first is put behind a text and the others are left, or there is none and nothing changes; where
-- memory is wanting there is one, and none is taken
abbrev pub Gives : {E : Type 0} → (lines left : List (List ℕ)) → (text longer : List ℕ) → Result Bool E → Type 0
Gives [] left text longer (Ok given) = (given ≡ false) × (left ≡ []) × (longer ≡ text)
Gives (line ∷ lines) left text longer (Ok given) = (given ≡ true) × (left ≡ lines) × (longer ≡ text ++ line)
Gives [] left text longer (Err error) = ⊥
Gives (line ∷ lines) left text longer (Err error) = left ≡ line ∷ lines
