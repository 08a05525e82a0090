-- A reassembly whose chain lives in a region, and what a cell leaves of it (I.363.5 9.2)

use Rattle.std.specs.Prelude.{ℕ, Bool, List, [], ◌∷◌, Option, None, if◌then◌else◌}
use Rattle.atm_cells.specs.declared.cell.Cell.{Cell}
use Rattle.link_model.specs.Notes.{Journal}
use Rattle.cell_pool.specs.Region.{Region, Line, cells_of}
use Rattle.frame_model.specs.Reassembly.{Reassembly, Taken, taken, too_long, without_slot}
use Rattle.frame_model.specs.Frame.{Tested, tested}

-- the chain, and whether the channel skips
pub record Gathering : Type 0 where
  pub chain : Line
  pub is_skipping : Bool

-- with its region it is the definition's reassembly
abbrev pub reassembly_in : Region → Gathering → Reassembly
reassembly_in region g = record { chain = cells_of region g.chain; is_skipping = g.is_skipping }

-- what a cell leaves: the reassembly, the notes, and the payload of a frame that it ended and that
-- passed its test
pub record Received : Type 0 where
  pub reassembly : Reassembly
  pub notes : Journal
  pub payload : Option (List ℕ)

-- a chain that a last cell ended is tested
abbrev pub ended : Journal → List Cell → Tested
ended notes [] = record { notes = notes; payload = None }
ended notes (cell ∷ cells) = tested notes (cell ∷ cells)

abbrev pub received_by : Taken → Received
received_by t = record { reassembly = t.reassembly; notes = (ended t.notes t.ended).notes; payload = (ended t.notes t.ended).payload }

-- a channel takes a cell
abbrev pub received : Journal → (has_slot : Bool) → Reassembly → Cell → Received
received notes has_slot r cell = received_by (taken notes has_slot r cell)

-- a cell that can't join its chain: no slot is free for it, or the chain has 32 cells already
abbrev pub refused : Journal → (has_slot : Bool) → Reassembly → Cell → Taken
refused notes has_slot r cell = if has_slot then too_long notes r cell else without_slot notes r cell
