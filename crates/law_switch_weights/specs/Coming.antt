-- A cell that comes to a switch in a run, as the measure sees it

use Rattle.std.specs.Prelude.{◌≡◌, ℕ, ◌≤◌, ◌+◌, true, false, nat_lt, List, ◌∷◌, length, Some, if◌then◌else◌}
use Rattle.world_model.specs.Words.{NodeId, PortNo, Mark, End, Cell, on_channel_of, Frame, payload_of, payload_in, is_gsmp, Topology}
use Rattle.world_model.specs.crossbar_model.Crossbar.{output_of, input_of}
use Rattle.world_model.specs.frame_model.Frame.{octets_of}
use Rattle.world_model.specs.frame_model.Reassembly.{taken}
use Rattle.world_model.specs.Switch.{ActedSwitch, free_slots}
use Rattle.world_model.specs.Conduct.{cell_comes}
use Rattle.law_frame_weights.specs.claims_model.Weights.{Bound, ToSwitch, cost_of, cell_weight, port_place, queues_weight}
use Rattle.law_run_facts.specs.law_shown_cells.Seen.{Extends, IsUnmade}

-- a chain that passes its test is the frame of its last cell
abbrev pub Passes : ActedSwitch → Cell → Type 0
Passes a cell = (first : Cell) (rest : List Cell) (payload : List ℕ)
    → (taken a.notes (nat_lt 0 (free_slots a.switch)) a.switch.reassembly cell).ended ≡ first ∷ rest
    → payload_in (octets_of (first ∷ rest)) ≡ Some payload → payload_of a.notes.frames cell.mark ≡ Some payload

-- what the frame that a last cell of GSMP's channel ends may cause at a switch
abbrev pub asking_weight : List Frame → Bound → Cell → ℕ
asking_weight frames bound cell = if cell.header.last then cost_of bound (payload_of frames cell.mark) ToSwitch else 0

-- where a branch leads a cell it weighs so much at most
abbrev pub LeadsTo : Topology → NodeId → List Frame → Bound → ActedSwitch → PortNo → Cell → (count : ℕ) → Type 0
LeadsTo topology node frames bound a port cell count = (output : End) → output_of a.switch.crossbar.branches (input_of port cell) ≡ Some output
    → cell_weight topology frames bound (port_place node output.port.0) (on_channel_of cell output) ≤ count

-- *The law*: the queues of a switch are heavier behind a cell by `count` at most, where so much pays for the frame that it ends
-- on GSMP's channel, or for the cell where its branch leads it
abbrev pub acted_weight : Topology → NodeId → List Frame → Bound → ActedSwitch → ℕ
acted_weight topology node frames bound a = queues_weight (cell_weight topology frames bound) node 0 a.switch.crossbar.queues

abbrev pub AreShort : List Frame → Type 0
AreShort frames = (mark : Mark) (payload : List ℕ) → payload_of frames mark ≡ Some payload → length payload ≤ 1528

pub record Pays (topology : Topology) (node : NodeId) (frames : List Frame) (bound : Bound) (a : ActedSwitch) (port : PortNo) (cell : Cell) (count : ℕ) : Type 0 where
  pub asks : is_gsmp port cell.header.channel ≡ true → Passes a cell × (asking_weight frames bound cell ≤ count)
  pub leads : is_gsmp port cell.header.channel ≡ false → LeadsTo topology node frames bound a port cell count

abbrev pub CellsArePaid : Type 0
CellsArePaid = (topology : Topology) (node : NodeId) (bound : Bound) (frames : List Frame) (a : ActedSwitch) (port : PortNo) (cell : Cell) (count : ℕ)
    → AreShort frames → IsUnmade a.numbers.controls a.notes.frames → Pays topology node frames bound a port cell count
    → Extends (cell_comes a port cell).notes.frames frames
    → acted_weight topology node frames bound (cell_comes a port cell) ≤ acted_weight topology node frames bound a + count
