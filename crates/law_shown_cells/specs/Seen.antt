-- What a list of cells shows, as words of any kind: some cells show nothing, and each other one a word

use Rattle.std.specs.Prelude.{◌≡◌, ℕ, ◌<◌, List, [], ◌∷◌, None, Some}
use Rattle.world_model.specs.Words.{Mark, Cell, Frame, payload_of}

-- what one cell shows. Of a cell that bears on a line and whose frame isn't known, or isn't in the words of its
-- sender, nothing can be told: no list with such a cell shows anything
pub data Seen (W : Type 0) : Type 0 where
  Nothing : Seen W
  Word : W → Seen W
  Unknown : Seen W

-- the cells show these words, told apart by what is left of them (`erased`)
pub data Shows {W : Type 0} (erased : W → W) (seen : Cell → Seen W) : List Cell → List W → Type 0 where
  nothing : Shows erased seen [] []
  hidden : {cell : Cell} {cells : List Cell} {words : List W} → seen cell ≡ Nothing → Shows erased seen cells words
      → Shows erased seen (cell ∷ cells) words
  word : {cell : Cell} {cells : List Cell} {w : W} {words : List W} → seen cell ≡ Word (erased w) → Shows erased seen cells words
      → Shows erased seen (cell ∷ cells) (w ∷ words)

-- what was made under a mark stays, while frames are made
pub record Extends (old new : List Frame) : Type 0 where
  pub kept : (mark : Mark) (payload : List ℕ) → payload_of old mark ≡ Some payload → payload_of new mark ≡ Some payload

-- nothing is made under the control marks that weren't given out
abbrev pub IsUnmade : (controls : ℕ) → List Frame → Type 0
IsUnmade controls frames = (k : ℕ) → controls < k → payload_of frames (record { packet = 0; frame = k }) ≡ None
