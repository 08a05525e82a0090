-- The channels of a control link as they stand in one list. No claim needs this file.

use Rattle.std.specs.Prelude.{◌≡◌, ℕ, Bool, ◌+◌, ◌-◌, ◌||◌, nat_lt, List, [], ◌∷◌, drop, length, slice_index_or, take, if◌then◌else◌}
use Rattle.frame_model.specs.Reassembly.{Reassembly, nothing_taken}
use Rattle.world_model.specs.controller_model.declared.range.PortRange.{PortRange}
use Rattle.world_model.specs.Controller.{LabelChain, chain_slots}
use Rattle.controller_link.specs.Cells.{ControlCells, PortCells}
use Rattle.controller_link.specs.Layout.{count_of, width}
use Rattle.controller_link.specs.Store.{Stored}

-- the channels of the labels from one on that have cells or skip
abbrev pub has_cells : Reassembly → Bool
has_cells r = r.is_skipping || nat_lt 0 (chain_slots r)

abbrev pub chains_from : (label : ℕ) → List Reassembly → List LabelChain
chains_from label [] = []
chains_from label (r ∷ rs) =
    if has_cells r then record { label = label; reassembly = r } ∷ chains_from (label + 1) rs else chains_from (label + 1) rs

-- a port, whose channels stand at the front
abbrev pub port_in : PortRange → List Reassembly → PortCells
port_in range rs = record {
  range = range;
  reassembly = slice_index_or rs 0 nothing_taken;
  chains = chains_from range.lo (take (width range - 1) (drop 1 rs));
}

abbrev pub ports_in : List PortRange → List Reassembly → List PortCells
ports_in [] rs = []
ports_in (range ∷ ranges) rs = port_in range rs ∷ ports_in ranges (drop (width range) rs)

abbrev pub cells_in : List PortRange → Stored → ControlCells
cells_in ranges s = record {
  cells = s.cells;
  queue = s.queue;
  reassembly = slice_index_or s.chains 0 nothing_taken;
  ports = ports_in ranges (drop 1 s.chains);
}

-- each channel has a place, and no other place is there
abbrev pub AreChannels : List PortRange → Stored → Type 0
AreChannels ranges s = length s.chains ≡ count_of ranges
