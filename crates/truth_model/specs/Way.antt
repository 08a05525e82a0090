-- Which cells are lost on their way: those that links lose, those that come where nothing takes them, and those that find no
-- slot where they need one

use Rattle.std.specs.Prelude.{zero, suc, ◌||◌, Bool, true, false, nat_lt, ℕ, List, [], ◌∷◌, Option, None, Some, if◌then◌else◌}
use Rattle.std.specs.FinMap.{get}
use Rattle.claims_model.specs.world_model.Words.{Place, Down, Up, Out, PortNo, Mark, Cell, Reassembly, Entry, Cause, Lost, Unconnected, PoolFull, Unbound, control_port, is_gsmp, Controller, taker_of, reassembly_of, Topology, World, Site, site_at, queue_at, with_queue}
use Rattle.claims_model.specs.world_model.crossbar_model.declared.branch.Branch.{Branch}
use Rattle.claims_model.specs.world_model.crossbar_model.Crossbar.{input_of}
use Rattle.claims_model.specs.world_model.Switch as switch
use Rattle.claims_model.specs.world_model.Controller.{free_slots}
use Rattle.claims_model.specs.world_model.Cells.{Taker}
use Rattle.claims_model.specs.world_model.network_model.declared.event.Event.{Event}
use Rattle.claims_model.specs.world_model.network_model.declared.event.Event.TheVariants.{Carry, Lose}
use Rattle.claims_model.specs.world_model.network_model.declared.link.LinkEnd.{LinkEnd}
use Rattle.claims_model.specs.world_model.Topology.{peer_of}

-- *Four causes* are of a cell on its way, the last of them of a frame too that finds no slots. The others are of a chain
abbrev pub is_of_way : Cause → Bool
is_of_way Lost = true
is_of_way Unconnected = true
is_of_way Unbound = true
is_of_way PoolFull = true
is_of_way cause = false

abbrev pub is_on_way : Entry → Bool
is_on_way entry = is_of_way entry.cause

abbrev pub entry_unless : (is_taken : Bool) → Mark → Cause → List Entry
entry_unless true mark cause = []
entry_unless false mark cause = record { mark = mark; cause = cause } ∷ []

-- *A link loses* the first cell of a queue, where one waits
abbrev pub lost_from : List Cell → List Entry
lost_from [] = []
lost_from (cell ∷ cells) = entry_unless false cell.mark Lost

-- *A chain* needs a slot for each cell, but while its channel skips
abbrev pub lost_at_chain : Reassembly → (free : ℕ) → Mark → List Entry
lost_at_chain r free mark = entry_unless (r.is_skipping || nat_lt 0 free) mark PoolFull

-- *A switch* takes a cell of the GSMP channel itself, and connects those of an input that has a branch, each of which needs a
-- slot
abbrev pub lost_at_branch : Option Branch → (free : ℕ) → Mark → List Entry
lost_at_branch None free mark = entry_unless false mark Unconnected
lost_at_branch (Some branch) zero mark = entry_unless false mark PoolFull
lost_at_branch (Some branch) (suc free) mark = []

abbrev pub lost_at_input : Option Site → PortNo → Cell → List Entry
lost_at_input None port cell = []
lost_at_input (Some site) port cell =
    if is_gsmp port cell.header.channel
    then lost_at_chain site.switch.reassembly (switch.free_slots site.switch) cell.mark
    else lost_at_branch (get site.switch.crossbar.branches (input_of port cell)) (switch.free_slots site.switch) cell.mark

-- *A controller* takes the cells of the GSMP channel, of the default channel of each linked port, and of each label that is
-- bound
abbrev pub lost_at_taker : Controller → Option Taker → Mark → List Entry
lost_at_taker c None mark = entry_unless false mark Unbound
lost_at_taker c (Some taker) mark = lost_at_chain (reassembly_of c taker) (free_slots c) mark

abbrev pub lost_at_controller : Option Site → Cell → List Entry
lost_at_controller None cell = []
lost_at_controller (Some site) cell = lost_at_taker site.controller (taker_of site.controller cell.header.channel) cell.mark

-- *A cell is carried* to a switch, to a controller, or to the other end of a link. It has left its queue then
abbrev pub lost_at_far_end : World → Cell → Option LinkEnd → List Entry
lost_at_far_end w cell None = []
lost_at_far_end w cell (Some far) = lost_at_input (site_at w far.node) far.port cell

abbrev pub lost_carried_to : Topology → World → Place → Cell → List Entry
lost_carried_to topology w (Down node) cell = lost_at_input (site_at w node) control_port cell
lost_carried_to topology w (Up node) cell = lost_at_controller (site_at w node) cell
lost_carried_to topology w (Out node port) cell = lost_at_far_end w cell (peer_of topology node port)

abbrev pub lost_carried_from : Topology → World → Place → List Cell → List Entry
lost_carried_from topology w place [] = []
lost_carried_from topology w place (cell ∷ cells) = lost_carried_to topology (with_queue w place cells) place cell

-- *The losses on the way* that an event is, by the world before it
abbrev pub lost_on_way : Topology → World → Event → List Entry
lost_on_way topology w (Carry place) = lost_carried_from topology w place (queue_at w place)
lost_on_way topology w (Lose place) = lost_from (queue_at w place)
lost_on_way topology w event = []
