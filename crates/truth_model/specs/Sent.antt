-- What an event puts into queues: a cell that goes on by its branch, and the frames that the event makes, each of them whole or
-- not at all

use Rattle.std.specs.Prelude.{◌≡◌, ℕ, zero, suc, Bool, true, false, nat_lt, List, [], ◌∷◌, ◌++◌, length, map, flat_map, Option, None, Some, if◌then◌else◌}
use Rattle.std.specs.Option.{option_map_or}
use Rattle.std.specs.FinMap.{get}
use Rattle.claims_model.specs.world_model.Words.{NodeId, PortNo, Place, Down, Up, Out, Channel, Cell, on_channel_of, frame_cells, Entry, Frame, PoolFull, control_port, is_gsmp, Topology, World, Site, site_at, place_node, queue_at, same_queue, with_queue}
use Rattle.claims_model.specs.world_model.crossbar_model.declared.branch.Branch.{Branch}
use Rattle.claims_model.specs.world_model.crossbar_model.Crossbar.{input_of}
use Rattle.claims_model.specs.world_model.Switch.{free_slots}
use Rattle.claims_model.specs.world_model.network_model.declared.event.Event.{Event}
use Rattle.claims_model.specs.world_model.network_model.declared.event.Event.TheVariants.{Carry, Forge}
use Rattle.claims_model.specs.world_model.network_model.declared.link.LinkEnd.{LinkEnd}
use Rattle.claims_model.specs.world_model.Topology.{peer_of}
use Rattle.telling_model.specs.Passing.{frames_made, cells_put_at}
use Rattle.telling_model.specs.declared.reached.Reached.{Reached}
use Rattle.telling_model.specs.declared.reached.Reached.TheVariants.{Nobody, Controller, Switch}
use Rattle.telling_model.specs.Reached.{reached}
use Rattle.truth_model.specs.Way.{entry_unless}

-- *A frame is sent* on a channel: all its cells are put, or none, and it has an entry
pub record Sending : Type 0 where
  pub frame : Frame
  pub channel : Channel
  pub is_put : Bool

abbrev pub frame_of : Sending → Frame
frame_of s = s.frame

abbrev pub cells_of : Sending → List Cell
cells_of s = if s.is_put then frame_cells s.channel s.frame.mark s.frame.payload else []

abbrev pub entry_of : Sending → List Entry
entry_of s = entry_unless s.is_put s.frame.mark PoolFull

-- cells that are for a queue: what each queue gets of them
abbrev pub put_in : Option Place → (place : Place) → List Cell → List Cell
put_in None place cells = []
put_in (Some queue) place cells = if same_queue queue place then cells else []

-- the queues that there are: of a controller, and of each port that a switch has
abbrev pub has_queue_in : Site → Place → Bool
has_queue_in site (Down node) = true
has_queue_in site (Up node) = nat_lt control_port.0 (length site.switch.crossbar.queues)
has_queue_in site (Out node port) = nat_lt port.0 (length site.switch.crossbar.queues)

-- how many ports the switch of a node has a queue for: in a run nine, 0 to 8, as where there is no such node
abbrev pub rooms_in : Option Site → ℕ
rooms_in None = 9
rooms_in (Some site) = length site.switch.crossbar.queues

abbrev pub rooms_at : World → NodeId → ℕ
rooms_at w node = rooms_in (site_at w node)

abbrev pub has_queue : World → Place → Bool
has_queue w place = option_map_or (λ site. has_queue_in site place) (site_at w (place_node place)) false

-- *The queue that frames are for*: the one at which a frame is forged; else the actor that the event reaches sends to the other
-- actor of its node
abbrev pub queue_to : Reached → Option Place
queue_to Nobody = None
queue_to (Controller node) = Some (Down node)
queue_to (Switch node) = Some (Up node)

abbrev pub queue_for : Topology → World → Event → Option Place
queue_for topology w (Forge place channel payload) = Some place
queue_for topology w event = queue_to (reached topology w event)

-- *A cell is switched* that comes to a switch at an input with a branch, where a slot is free: it goes on to the branch's
-- output, on the channel there
abbrev pub by_branch : NodeId → Option Branch → (free : ℕ) → Cell → (place : Place) → List Cell
by_branch node None free cell place = []
by_branch node (Some branch) zero cell place = []
by_branch node (Some branch) (suc free) cell place = put_in (Some (Out node branch.output.port)) place (on_channel_of cell branch.output ∷ [])

abbrev pub switched_at : NodeId → Option Site → PortNo → Cell → (place : Place) → List Cell
switched_at node None port cell place = []
switched_at node (Some site) port cell place =
    if is_gsmp port cell.header.channel then []
    else by_branch node (get site.switch.crossbar.branches (input_of port cell)) (free_slots site.switch) cell place

abbrev pub switched_far : World → Cell → Option LinkEnd → (place : Place) → List Cell
switched_far w cell None place = []
switched_far w cell (Some far) place = switched_at far.node (site_at w far.node) far.port cell place

abbrev pub switched_from : Topology → World → (source : Place) → Cell → (place : Place) → List Cell
switched_from topology w (Down node) cell place = switched_at node (site_at w node) control_port cell place
switched_from topology w (Up node) cell place = []
switched_from topology w (Out node port) cell place = switched_far w cell (peer_of topology node port) place

abbrev pub switched_head : Topology → World → (source : Place) → List Cell → (place : Place) → List Cell
switched_head topology w source [] place = []
switched_head topology w source (cell ∷ cells) place = switched_from topology (with_queue w source cells) source cell place

abbrev pub switched_cells : Topology → World → Event → (place : Place) → List Cell
switched_cells topology w (Carry source) place = switched_head topology w source (queue_at w source) place
switched_cells topology w event place = []

-- *What an event puts* into the queues that there are: a cell that is switched, and the cells of those frames that are put.
-- These are the frames that it makes, in order
pub record AreSent (topology : Topology) (w : World) (event : Event) (sendings : List Sending) : Type 0 where
  pub frames : frames_made topology w event ≡ map frame_of sendings
  pub nowhere : queue_for topology w event ≡ None → sendings ≡ []
  pub cells : (place : Place) → has_queue w place ≡ true
      → cells_put_at topology w event place ≡ switched_cells topology w event place ++ put_in (queue_for topology w event) place (flat_map cells_of sendings)
