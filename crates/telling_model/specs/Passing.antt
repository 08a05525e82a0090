-- What an event takes from the queues of a network, what it puts there, and which frames it makes

use Rattle.std.specs.Prelude.{List, drop, flat_map, length, map, slice_get, Option, None, Some, if◌then◌else◌}
use Rattle.std.specs.Option.{option_map}
use Rattle.atm_cells.specs.declared.cell.Cell.{Cell}
use Rattle.link_model.specs.declared.frames.Frame.{Frame}
use Rattle.net_types.specs.declared.node.Place.{Place}
use Rattle.script_model.specs.world_model.network_model.declared.event.Event.{Event}
use Rattle.script_model.specs.world_model.network_model.declared.event.Event.TheVariants.{Carry, Lose}
use Rattle.script_model.specs.world_model.Places.{places, queue_at, same_queue}
use Rattle.script_model.specs.world_model.Run.{next}
use Rattle.script_model.specs.world_model.Topology.{Topology}
use Rattle.script_model.specs.world_model.World.{World}
use Rattle.telling_model.specs.declared.standing.Standing.{Standing}

-- a cell that stands, or stood, in a queue
abbrev pub standing : Place → Cell → Standing
standing place cell = record { place = place; cell = cell }

-- *The queue that an event takes from*: a carry and a loss, each from its own
abbrev pub source_of : Event → Option Place
source_of (Carry place) = Some place
source_of (Lose place) = Some place
source_of event = None

-- *What it takes*: the first cell that waits there
abbrev pub taken_from : World → Option Place → Option Standing
taken_from w None = None
taken_from w (Some place) = option_map (standing place) (slice_get (queue_at w place) 0)

abbrev pub cell_taken : World → Event → Option Standing
cell_taken w event = taken_from w (source_of event)

-- *What is left* in a queue behind that
abbrev pub left_from : World → Option Place → Place → List Cell
left_from w None place = queue_at w place
left_from w (Some source) place = if same_queue source place then drop 1 (queue_at w place) else queue_at w place

abbrev pub left : World → Event → Place → List Cell
left w event place = left_from w (source_of event) place

-- *What it puts*: the cells that stand in a queue then behind what was left there; queue by queue in the order of a round
abbrev pub cells_put_at : Topology → World → Event → Place → List Cell
cells_put_at topology w event place = drop (length (left w event place)) (queue_at (next topology w event) place)

abbrev pub cells_put : Topology → World → Event → List Standing
cells_put topology w event = flat_map (λ place. map (standing place) (cells_put_at topology w event place)) (places w)

-- *The frames that it makes*, in order
abbrev pub frames_made : Topology → World → Event → List Frame
frames_made topology w event = drop (length w.notes.frames) (next topology w event).notes.frames
