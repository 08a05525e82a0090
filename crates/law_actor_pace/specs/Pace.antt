-- The frame numbers of cells, and the changes of routes that came

use Rattle.std.specs.Prelude.{ℕ, ◌+◌, ◌≤◌, List, length}
use Rattle.world_model.specs.Words.{Cell, Controller}
use Rattle.ordered_lists.specs.Ordered.{Every}

-- no cell's frame has a greater number
abbrev pub IsUpTo : (most : ℕ) → Cell → Type 0
IsUpTo most cell = cell.mark.frame ≤ most

abbrev pub AreUpTo : (most : ℕ) → List Cell → Type 0
AreUpTo most cells = Every (IsUpTo most) cells

abbrev pub AreAllUpTo : (most : ℕ) → List (List Cell) → Type 0
AreAllUpTo most queues = Every (AreUpTo most) queues

-- how many changes of routes came to a controller
abbrev pub changes_of : Controller → ℕ
changes_of c = c.changes + length c.waiting
