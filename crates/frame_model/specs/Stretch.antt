-- The stretches of a channel: the cells that it takes between two ends. A last cell is an end, since
-- it ends a chain or a skipping, and so is a cut.

use Rattle.std.specs.Prelude.{List, [], ◌∷◌, ◌++◌, if◌then◌else◌}
use Rattle.atm_cells.specs.declared.cell.Cell.{Cell}

-- what happens to a channel
pub data Turn : Type 0 where
  Takes : Cell → Turn
  IsCut : Turn

-- the stretch that is open after these turns, where these cells were open before them
abbrev pub stretch_from : List Cell → List Turn → List Cell
stretch_from begun [] = begun
stretch_from begun (Takes cell ∷ turns) = stretch_from (if cell.header.last then [] else begun ++ cell ∷ []) turns
stretch_from begun (IsCut ∷ turns) = stretch_from [] turns

-- the cells of a channel since the last end
abbrev pub open_stretch : List Turn → List Cell
open_stretch turns = stretch_from [] turns
