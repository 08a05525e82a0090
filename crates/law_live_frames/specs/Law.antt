-- A frame of whose channel nothing was lost is whole when its last cell comes

use Rattle.std.specs.Prelude.{◌≡◌, ℕ, true, false, List, [], ◌∷◌, ◌++◌, Some}
use Rattle.world_model.specs.Words.{Mark, Cell, Policy, has_entry, payload_of, last_mark, payload_in, Reassembly, open_stretch, Topology, World, world_after, has_mark, Arrival, CountsAsItsFrame, HasCauses, arrival, cell_for, has_slot, reassembly_at, turns_of}
use Rattle.world_model.specs.frame_model.Frame.{octets_of}
use Rattle.world_model.specs.network_model.declared.event.Event.{Event}
use Rattle.world_model.specs.World.{opened}
use Rattle.world_model.specs.Stretches.{Reassembler, ended_at}

abbrev pub world_at : Policy → Topology → (before : List Event) → World
world_at policy topology before = world_after topology (opened policy topology) before

-- *Nothing was lost* of the frames whose cells stand in the stretch of the channel that an event brings a cell, this one among
-- them
abbrev pub NothingIsLost : Policy → Topology → (before : List Event) → Event → Type 0
NothingIsLost policy topology before event = (taker : Reassembler) (cell : Cell) (mark : Mark)
    → cell_for taker (arrival (world_at policy topology before) event) ≡ Some cell
    → has_mark (open_stretch (turns_of topology (opened policy topology) before taker) ++ cell ∷ []) mark ≡ true
    → has_entry (world_at policy topology before).notes.entries mark ≡ false

-- *A last cell comes* to a channel that takes cells, and finds a slot
pub record IsLastCell (w : World) (event : Event) (a : Arrival) : Type 0 where
  pub comes : arrival w event ≡ Some a
  pub last : a.cell.header.last ≡ true
  pub reassembly : Reassembly
  pub taken : reassembly_at w a.taker ≡ Some reassembly
  pub slot : has_slot w a.taker ≡ true

-- *Its frame is whole*: the chain that it ends passes its test, with the payload that was made under its mark
pub record IsWhole (w : World) (event : Event) (a : Arrival) : Type 0 where
  pub payload : List ℕ
  pub passes : payload_in (octets_of (ended_at w event a.taker)) ≡ Some payload
  pub own : last_mark (ended_at w event a.taker) ≡ a.cell.mark
  pub made : payload_of w.notes.frames a.cell.mark ≡ Some payload

abbrev pub FramesAreWhole : Type 0
FramesAreWhole = (policy : Policy) (topology : Topology) (before : List Event) (event : Event) (a : Arrival)
    → HasCauses policy topology (before ++ event ∷ []) → CountsAsItsFrame (world_at policy topology before) event
    → NothingIsLost policy topology before event → IsLastCell (world_at policy topology before) event a
    → IsWhole (world_at policy topology before) event a
