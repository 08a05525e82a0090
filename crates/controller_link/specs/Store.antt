-- A queue and reassemblies in one region of slots. No claim needs this file.

use Rattle.std.specs.Prelude.{◌≡◌, ℕ, ◌+◌, ◌-◌, List, ◌∷◌, length, map, slice_index_or, slice_set}
use Rattle.std.specs.List.{sum_by}
use Rattle.atm_cells.specs.declared.cell.Cell.{Cell}
use Rattle.cell_pool.specs.Region.{Line, Region, cells_of, size}
use Rattle.cell_pool.specs.Shares.{ShareRegion, len_of_all}
use Rattle.frame_model.specs.Reassembly.{Reassembly, nothing_taken}
use Rattle.reassembly.specs.Receipt.{Gathering, reassembly_in}

-- how many slots there are, the cells of the queue, and the reassembly at each place
pub record Stored : Type 0 where
  pub cells : ℕ
  pub queue : List Cell
  pub chains : List Reassembly

abbrev pub stored : Region → (queue : Line) → List Gathering → Stored
stored region queue chains = record {
  cells = size region;
  queue = cells_of region queue;
  chains = map (reassembly_in region) chains;
}

abbrev pub reassembly_at : Stored → (place : ℕ) → Reassembly
reassembly_at s place = slice_index_or s.chains place nothing_taken

abbrev pub with_chain : Stored → (place : ℕ) → Reassembly → Stored
with_chain s place r = record s { chains = slice_set s.chains place r }

-- each slot that isn't free holds a cell
abbrev pub free_in : Stored → ℕ
free_in s = s.cells - (length s.queue + sum_by (λ r. length r.chain) s.chains)

-- the queue and the chains share the region, and have all slots that aren't free
abbrev pub lines : (queue : Line) → List Gathering → List Line
lines queue chains = queue ∷ map (λ g. g.chain) chains

pub record AreOneRegion (region : Region) (queue : Line) (chains : List Gathering) : Type 0 where
  pub share : ShareRegion region (lines queue chains)
  pub counted : length region.free + len_of_all (lines queue chains) ≡ size region
