-- What is open on a branch: the frame of the last cell that went over it since it leads where it does, unless that cell was the
-- frame's last

use Rattle.std.specs.Prelude.{ℕ, zero, suc, ◌==◌, ◌&&◌, List, [], ◌∷◌, Option, None, Some, option_map, if◌then◌else◌}
use Rattle.std.specs.Option.{option_and_then}
use Rattle.std.specs.FinMap.{get}
use Rattle.claims_model.specs.world_model.Words.{End, NodeId, PortNo, Place, Down, Up, Out, Mark, Cell, same_end, control_port, is_gsmp, Topology, World, Site, site_at, queue_at, with_queue}
use Rattle.claims_model.specs.world_model.crossbar_model.declared.branch.Branch.{Branch}
use Rattle.claims_model.specs.world_model.crossbar_model.Crossbar.{input_of}
use Rattle.claims_model.specs.world_model.Switch.{free_slots}
use Rattle.claims_model.specs.world_model.network_model.declared.event.Event.{Event}
use Rattle.claims_model.specs.world_model.network_model.declared.event.Event.TheVariants.{Carry}
use Rattle.claims_model.specs.world_model.network_model.declared.link.LinkEnd.{LinkEnd}
use Rattle.claims_model.specs.world_model.Topology.{peer_of}
use Rattle.truth_model.specs.Cut.{leads_on}

-- *The branch of an input*, where it leads, and what the switch keeps of it
abbrev pub branch_in : End → Site → Option Branch
branch_in input site = get site.switch.crossbar.branches input

abbrev pub branch_at : World → NodeId → End → Option Branch
branch_at w node input = option_and_then (branch_in input) (site_at w node)

abbrev pub led_by : Option Branch → Option End
led_by branch = option_map (λ b. b.output) branch

abbrev pub open_of : Option Branch → Option Mark
open_of branch = option_and_then (λ b. b.unfinished) branch

-- *A cell goes over a branch* that comes to a switch, not of the GSMP channel, at an input with a branch, where a slot is free
pub record Over : Type 0 where
  pub node : NodeId
  pub input : End
  pub cell : Cell

abbrev pub over_by : NodeId → (input : End) → Option Branch → (free : ℕ) → Cell → Option Over
over_by node input None free cell = None
over_by node input (Some branch) zero cell = None
over_by node input (Some branch) (suc free) cell = Some (record { node = node; input = input; cell = cell })

abbrev pub over_at : NodeId → Option Site → PortNo → Cell → Option Over
over_at node None port cell = None
over_at node (Some site) port cell =
    if is_gsmp port cell.header.channel then None
    else over_by node (input_of port cell) (get site.switch.crossbar.branches (input_of port cell)) (free_slots site.switch) cell

abbrev pub over_far : World → Cell → Option LinkEnd → Option Over
over_far w cell None = None
over_far w cell (Some far) = over_at far.node (site_at w far.node) far.port cell

abbrev pub over_from : Topology → World → (source : Place) → Cell → Option Over
over_from topology w (Down node) cell = over_at node (site_at w node) control_port cell
over_from topology w (Up node) cell = None
over_from topology w (Out node port) cell = over_far w cell (peer_of topology node port)

abbrev pub over_head : Topology → World → (source : Place) → List Cell → Option Over
over_head topology w source [] = None
over_head topology w source (cell ∷ cells) = over_from topology (with_queue w source cells) source cell

abbrev pub over : Topology → World → Event → Option Over
over topology w (Carry source) = over_head topology w source (queue_at w source)
over topology w event = None

-- the cell that goes over the branch of this input, if one does
abbrev pub over_it : NodeId → End → Option Over → Option Cell
over_it node input None = None
over_it node input (Some o) = if (o.node.0 == node.0) && same_end o.input input then Some o.cell else None

-- *Behind an event*: that cell's frame, unless the cell was its last; of a branch that leads on, what was open there; of one that
-- is new or leads elsewhere, none
abbrev pub unless_last : Cell → Option Mark
unless_last cell = if cell.header.last then None else Some cell.mark

abbrev pub open_behind : Option Cell → (before after : Option Branch) → Option Mark
open_behind (Some cell) before after = unless_last cell
open_behind None before after = if leads_on (led_by before) (led_by after) then open_of before else None
