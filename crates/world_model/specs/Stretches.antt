-- The stretches of every channel that takes cells: a channel of a controller's control link, and the GSMP channel of a
-- switch

use Rattle.std.specs.Prelude.{◌≡◌, ℕ, ◌==◌, Bool, true, false, not, ◌&&◌, nat_lt, List, [], ◌∷◌, ◌++◌, length, Option, None, Some, option_map, if◌then◌else◌}
use Rattle.std.specs.Option.{option_map_or, option_and_then}
use Rattle.network_model.specs.net_types.declared.node.NodeId.{NodeId}
use Rattle.network_model.specs.net_types.declared.node.Place.TheVariants.{Down, Up}
use Rattle.network_model.specs.net_types.declared.channel.Channel.{Channel}
use Rattle.network_model.specs.atm_cells.declared.cell.Cell.{Cell}
use Rattle.network_model.specs.frame_model.Reassembly.{Reassembly, Taken, taken}
use Rattle.network_model.specs.frame_model.Stretch.{Turn, Takes, IsCut}
use Rattle.network_model.specs.frame_model.Frame.{payload_in, octets_of, last_mark}
use Rattle.network_model.specs.link_model.Ledger.{payload_of}
use Rattle.network_model.specs.switch_model.Switch as switch
use Rattle.network_model.specs.switch_model.Switch.{gsmp_channel}
use Rattle.network_model.specs.controller_model.Controller.{free_slots}
use Rattle.network_model.specs.controller_model.Cells.{same_channel, taker_of, reassembly_of}
use Rattle.network_model.specs.declared.event.Event.{Event}
use Rattle.network_model.specs.declared.event.Event.TheVariants.{Carry}
use Rattle.network_model.specs.Topology.{Topology}
use Rattle.network_model.specs.World.{World, site_at, controller_at}
use Rattle.network_model.specs.Places.{queue_at}
use Rattle.network_model.specs.Run.{next}

pub data Reassembler : Type 0 where
  OfController : NodeId → Channel → Reassembler
  OfSwitch : NodeId → Reassembler

abbrev pub same_reassembler : Reassembler → Reassembler → Bool
same_reassembler (OfController node channel) (OfController other far) = (node.0 == other.0) && same_channel channel far
same_reassembler (OfSwitch node) (OfSwitch other) = node.0 == other.0
same_reassembler taker other = false

-- what a channel has made of its cells; none where nobody takes its cells
abbrev pub reassembly_at : World → Reassembler → Option Reassembly
reassembly_at w (OfController node channel) =
    option_and_then (λ c. option_map (reassembly_of c) (taker_of c channel)) (controller_at w node)
reassembly_at w (OfSwitch node) = option_map (λ site. site.switch.reassembly) (site_at w node)

-- whether a slot is free for a cell
abbrev pub has_slot : World → Reassembler → Bool
has_slot w (OfController node channel) = option_map_or (λ c. nat_lt 0 (free_slots c)) (controller_at w node) false
has_slot w (OfSwitch node) = option_map_or (λ site. nat_lt 0 (switch.free_slots site.switch)) (site_at w node) false

-- *The cell that comes to a channel* at an event
pub record Arrival : Type 0 where
  pub taker : Reassembler
  pub cell : Cell

abbrev pub controller_arrival : NodeId → List Cell → Option Arrival
controller_arrival node [] = None
controller_arrival node (cell ∷ cells) = Some (record { taker = OfController node cell.header.channel; cell = cell })

abbrev pub switch_arrival : NodeId → List Cell → Option Arrival
switch_arrival node [] = None
switch_arrival node (cell ∷ cells) =
    if same_channel cell.header.channel gsmp_channel then Some (record { taker = OfSwitch node; cell = cell }) else None

abbrev pub arrival : World → Event → Option Arrival
arrival w (Carry (Up node)) = controller_arrival node (queue_at w (Up node))
arrival w (Carry (Down node)) = switch_arrival node (queue_at w (Down node))
arrival w event = None

abbrev pub cell_for : Reassembler → Option Arrival → Option Cell
cell_for taker None = None
cell_for taker (Some a) = if same_reassembler a.taker taker then Some a.cell else None

-- *What the cell leaves there*, before anything else happens in the event
abbrev pub taken_at : World → Reassembler → Option Reassembly → Option Cell → Option Taken
taken_at w taker None cell = None
taken_at w taker (Some r) None = None
taken_at w taker (Some r) (Some cell) = Some (taken w.notes (has_slot w taker) r cell)

abbrev pub taken_by : World → Event → Reassembler → Option Taken
taken_by w event taker = taken_at w taker (reassembly_at w taker) (cell_for taker (arrival w event))

abbrev pub left_by : Option Reassembly → Option Taken → Option Reassembly
left_by r None = r
left_by r (Some t) = Some t.reassembly

-- *A cut* leaves a channel with nothing that had something
abbrev pub is_nothing : Option Reassembly → Bool
is_nothing None = true
is_nothing (Some r) = (length r.chain == 0) && not r.is_skipping

abbrev pub cut_turn : (left after : Option Reassembly) → List Turn
cut_turn left after = if is_nothing after && not (is_nothing left) then IsCut ∷ [] else []

abbrev pub cell_turn : Option Reassembly → Option Cell → List Turn
cell_turn (Some r) (Some cell) = Takes cell ∷ []
cell_turn r cell = []

-- what happens to a channel at an event, and in a run from a world on
abbrev pub turns_at : (before : World) → Event → (after : World) → Reassembler → List Turn
turns_at before event after taker =
    cell_turn (reassembly_at before taker) (cell_for taker (arrival before event))
    ++ cut_turn (left_by (reassembly_at before taker) (taken_by before event taker)) (reassembly_at after taker)

abbrev pub turns_of : Topology → World → List Event → Reassembler → List Turn
turns_of topology w [] taker = []
turns_of topology w (event ∷ events) taker =
    turns_at w event (next topology w event) taker ++ turns_of topology (next topology w event) events taker

-- *A chain that passed its test* has the payload of its last cell's frame, so it counts as that frame alone
abbrev pub ended_at : World → Event → Reassembler → List Cell
ended_at w event taker = option_map_or (λ t. t.ended) (taken_by w event taker) []

abbrev pub CountsAsItsFrame : World → Event → Type 0
CountsAsItsFrame w event =
    (taker : Reassembler) (payload : List ℕ) → payload_in (octets_of (ended_at w event taker)) ≡ Some payload
    → payload_of w.notes.frames (last_mark (ended_at w event taker)) ≡ Some payload
