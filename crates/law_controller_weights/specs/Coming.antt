-- A cell that comes to a controller in a run, as the measure sees it

use Rattle.std.specs.Prelude.{◌≡◌, ◌≢◌, ℕ, ◌≤◌, ◌<◌, ◌+◌, true, nat_lt, List, ◌∷◌, length, None, Some, Ok, if◌then◌else◌}
use Rattle.world_model.specs.Words.{NodeId, PortNo, Up, Down, Mark, is_label_number, ttl_of, flow_ttl, hop_of, On, unwrapped, Cell, Frame, payload_of, payload_in, next_mark, Setup, Label, Grant, Linked, ForLabel, taker_of, reassembly_of, Topology}
use Rattle.world_model.specs.frame_model.Frame.{octets_of}
use Rattle.world_model.specs.frame_model.Reassembly.{taken}
use Rattle.law_run_facts.specs.ordered_lists.Ordered.{Every}
use Rattle.law_run_facts.specs.law_shown_cells.Seen.{Extends}
use Rattle.law_run_facts.specs.law_controller_facts.Sound.{IsSound}
use Rattle.world_model.specs.Controller.{Acted, free_slots}
use Rattle.world_model.specs.Cells.{Taker, cell_comes}
use Rattle.world_model.specs.Topology.{peer_of}
use Rattle.law_action_weights.specs.claims_model.Weights.{Bound, hops_at, bearing_of, cost_of, cell_weight, controller_weight}
use Rattle.law_action_weights.specs.claims_model.Costs.{total_weight}
use Rattle.law_action_weights.specs.Fine.{IsFine}

-- the grants of a port are of labels, whose cells have the hops that their flows' packets have
abbrev pub IsToldGrant : Topology → NodeId → Bound → PortNo → Grant → Type 0
IsToldGrant topology node bound port grant =
    (is_label_number grant.label ≡ true) × (hops_at bound (peer_of topology node port) grant.label ≡ flow_ttl grant.flow)

abbrev pub HasToldGrants : Topology → NodeId → Bound → Linked → Type 0
HasToldGrants topology node bound linked = Every (IsToldGrant topology node bound linked.setup.port) linked.port.grants

pub record Brings (topology : Topology) (node : NodeId) (bound : Bound) (a : Acted) (cell : Cell) : Type 0 where
  -- a chain that passes its test is the frame of its last cell
  pub passes : (taker : Taker) (first : Cell) (rest : List Cell) (payload : List ℕ) → taker_of a.controller cell.header.channel ≡ Some taker
      → (taken a.notes (nat_lt 0 (free_slots a.controller)) (reassembly_of a.controller taker) cell).ended ≡ first ∷ rest
      → payload_in (octets_of (first ∷ rest)) ≡ Some payload → payload_of a.notes.frames cell.mark ≡ Some payload
  -- on a label that is bound, the hops that its packets have
  pub labels : (linked : Linked) (label : Label) → taker_of a.controller cell.header.channel ≡ Some (ForLabel linked label)
      → hops_at bound (Some (record { node = node; port = linked.setup.port })) label.number ≡ flow_ttl label.flow
  pub carries : (linked : Linked) (label : Label) (payload packet : List ℕ) → taker_of a.controller cell.header.channel ≡ Some (ForLabel linked label)
      → payload_of a.notes.frames cell.mark ≡ Some payload → unwrapped label.flow payload ≡ Ok packet → ttl_of packet ≡ flow_ttl label.flow
  pub grants : Every (HasToldGrants topology node bound) a.controller.ports
  pub onward : (packet : List ℕ) (port : PortNo) → hop_of a.controller.table packet ≡ On port → 1 ≤ port.0
  -- no later frame of its packet was made, and control frames are counted from 1
  pub newest : cell.header.last ≡ true → cell.mark.packet ≢ 0 → payload_of a.notes.frames (next_mark cell.mark) ≡ None
  pub counted : cell.mark.packet ≡ 0 → 0 < cell.mark.frame

-- what the frame that a last cell ends may cause there
abbrev pub coming_cost : Topology → NodeId → Bound → List Frame → Cell → ℕ
coming_cost topology node bound frames cell =
    if cell.header.last then cost_of bound (payload_of frames cell.mark) (bearing_of topology (Up node) cell.header.channel) else 0

-- *The law*: a controller with the cells that wait for its switch is heavier behind the cell by what the frame that it ends
-- may cause at most. Cells are weighed by frames in which those that it leaves stand, none of which is too long
abbrev pub acted_weight : Topology → NodeId → Bound → List Frame → Acted → ℕ
acted_weight topology node bound frames a = controller_weight a.controller + total_weight (cell_weight topology frames bound (Down node)) a.controller.queue

abbrev pub AreShort : List Frame → Type 0
AreShort frames = (mark : Mark) (payload : List ℕ) → payload_of frames mark ≡ Some payload → length payload ≤ 1528

abbrev pub CellsArePaid : Type 0
CellsArePaid = (topology : Topology) (node : NodeId) (bound : Bound) (frames : List Frame) (setups : List Setup) (a : Acted) (cell : Cell)
    → AreShort frames → IsSound setups a.controller → IsFine a → Brings topology node bound a cell
    → Extends (cell_comes a cell).notes.frames frames
    → acted_weight topology node bound frames (cell_comes a cell) ≤ acted_weight topology node bound frames a + coming_cost topology node bound frames cell
