-- Which losses have a cause beside them: the law of frames that are reported as broken

use Rattle.std.specs.Prelude.{◌≡◌, ℕ, ◌≤◌, List, [], ◌∷◌, ◌++◌, length, slice_get, Some, IsSome}
use Rattle.network_model.specs.atm_cells.declared.cell.Cell.{Cell}
use Rattle.network_model.specs.link_model.declared.entries.Entry.{Entry}
use Rattle.network_model.specs.link_model.declared.record.Cause.TheVariants.{Broken}
use Rattle.network_model.specs.frame_model.Stretch.{open_stretch}
use Rattle.world_model.specs.Beside.{StandsBesideCause}
use Rattle.network_model.specs.port_model.Setup.{Policy}
use Rattle.network_model.specs.declared.event.Event.{Event}
use Rattle.network_model.specs.Topology.{Topology}
use Rattle.network_model.specs.World.{World, opened}
use Rattle.network_model.specs.Run.{next, world_after}
use Rattle.world_model.specs.Stretches.{Reassembler, arrival, cell_for, reassembly_at, turns_of}

abbrev pub HasReassembly : World → Reassembler → Type 0
HasReassembly w taker = IsSome (reassembly_at w taker)

-- the event brings a channel a cell, and the entry stands beside its cause in the stretch that the cell belongs to
pub record HasCause (policy : Policy) (topology : Topology) (events : List Event) (event : Event) (place : ℕ) (entry : Entry) : Type 0 where
  pub taker : Reassembler
  pub cell : Cell
  pub comes : cell_for taker (arrival (world_after topology (opened policy topology) events) event) ≡ Some cell
  pub taken : HasReassembly (world_after topology (opened policy topology) events) taker
  pub cause : StandsBesideCause (open_stretch (turns_of topology (opened policy topology) events taker) ++ cell ∷ [])
      (next topology (world_after topology (opened policy topology) events) event).notes.entries place entry

-- so it is with each entry Broken that an event of the run adds to the ledger
pub record HasCauses (policy : Policy) (topology : Topology) (events : List Event) : Type 0 where
  pub causes : (before after : List Event) (event : Event) → events ≡ before ++ event ∷ after
      → (place : ℕ) (entry : Entry)
      → length (world_after topology (opened policy topology) before).notes.entries ≤ place
      → slice_get (next topology (world_after topology (opened policy topology) before) event).notes.entries place ≡ Some entry
      → entry.cause ≡ Broken → HasCause policy topology before event place entry
