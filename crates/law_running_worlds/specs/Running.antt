-- What is so of a network before each event of a run, so that the event is moves of the line of each input

use Rattle.std.specs.Prelude.{◌≡◌, true, nat_lt, List, [], ◌∷◌, ◌++◌, Some}
use Rattle.law_branch_shapes.specs.world_model.Words.{NodeId, Down, Up, Cell, Policy, default_channel, same_channel, taker_of, reassembly_of, Topology, World, Site, site_at, queue_at, next, past_of, IsTame}
use Rattle.law_branch_shapes.specs.world_model.Switch as switches
use Rattle.law_branch_shapes.specs.world_model.Controller.{free_slots}
use Rattle.law_branch_shapes.specs.world_model.Cells.{Taker}
use Rattle.law_branch_shapes.specs.world_model.network_model.declared.event.Event.{Event}
use Rattle.law_branch_shapes.specs.world_model.network_model.declared.event.Event.TheVariants.{Carry}
use Rattle.law_input_events.specs.law_input_steps.Hearing.{IsEnded, PassesTrue}
use Rattle.law_input_events.specs.Coming.{IsRunning, IsOrdinary}
use Rattle.law_frame_readings.specs.law_world_views.Between.{IsWorld}
use Rattle.law_frame_readings.specs.law_world_views.Kept.{Comes}

-- *A chain that the event ends* and that passes its test is the frame of its last cell: at a controller, whoever takes its
-- cells there, and at a switch
pub record ChainsAreTrue (w : World) (event : Event) : Type 0 where
  pub at_controller : (node : NodeId) (site : Site) (taker : Taker) (cell : Cell) (cells : List Cell) → event ≡ Carry (Up node)
      → queue_at w (Up node) ≡ cell ∷ cells → site_at w node ≡ Some site → taker_of site.controller cell.header.channel ≡ Some taker
      → IsEnded (nat_lt 0 (free_slots site.controller)) (reassembly_of site.controller taker) cell
      → PassesTrue w.notes.frames ((reassembly_of site.controller taker).chain ++ cell ∷ [])
  pub at_switch : (node : NodeId) (site : Site) (cell : Cell) (cells : List Cell) → event ≡ Carry (Down node)
      → queue_at w (Down node) ≡ cell ∷ cells → site_at w node ≡ Some site → same_channel cell.header.channel default_channel ≡ true
      → IsEnded (nat_lt 0 (switches.free_slots site.switch)) site.switch.reassembly cell
      → PassesTrue w.notes.frames (site.switch.reassembly.chain ++ cell ∷ [])

-- so it is in each event whose records have no chance
abbrev pub TameEventsAreTrue : Type 0
TameEventsAreTrue = (policy : Policy) (topology : Topology) (before : List Event) (event : Event)
    → IsTame (next topology (past_of policy topology before).now event).notes.records
    → ChainsAreTrue (past_of policy topology before).now event

-- *Each event comes to a network that runs*, and is an ordinary one
abbrev pub EventsAreOrdinary : Type 0
EventsAreOrdinary = (policy : Policy) (topology : Topology) (before : List Event) (event : Event) → Comes policy topology before event
    → IsWorld (past_of policy topology before)
    → IsRunning (past_of policy topology before).now × IsOrdinary topology (past_of policy topology before).now event
