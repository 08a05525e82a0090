-- Which losses an event is. The ledger has an entry of each, and no other entry of these causes

use Rattle.std.specs.Prelude.{◌≡◌, ◌≢◌, List, [], ◌∷◌, ◌++◌, filter, flat_map, None}
use Rattle.claims_model.specs.world_model.Words.{Mark, Entry, Broken, End, NodeId, losses_of, Policy, Topology, World, run, next, records_of}
use Rattle.claims_model.specs.world_model.network_model.declared.event.Event.{Event}
use Rattle.claims_model.specs.world_model.World.{opened}
use Rattle.truth_model.specs.Way.{is_on_way, lost_on_way}
use Rattle.truth_model.specs.Sent.{Sending, entry_of, rooms_at, AreSent}
use Rattle.truth_model.specs.Open.{branch_at, open_of, over, over_it, open_behind}
use Rattle.truth_model.specs.Cut.{Held, AreCut, is_of_cut, cut_entries}
use Rattle.claims_model.specs.Fronts.{world_at}

-- none of these has the mark
abbrev pub HasNone : List Entry → Mark → Type 0
HasNone [] mark = Unit {0}
HasNone (entry ∷ entries) mark = (entry.mark ≢ mark) × HasNone entries mark

-- *A frame is broken* that has no entry yet, of whatever cause
abbrev pub AreFirst : (earlier entries : List Entry) → Type 0
AreFirst earlier [] = Unit {0}
AreFirst earlier (entry ∷ entries) = (entry.cause ≡ Broken → HasNone earlier entry.mark) × AreFirst (earlier ++ entry ∷ []) entries

-- *An event* enters into the ledger, behind what is there, the losses that its records tell, in their order. Those with a cause
-- of the way are the cells that are lost on it, and then the frames that the event makes and doesn't put into a queue. Those that
-- are Cut are the marks of the frames that it cuts. And what is open on each branch behind it is as the cell that goes over the
-- branch says, or as it was
pub record EntersLosses (topology : Topology) (before : World) (event : Event) : Type 0 where
  pub entered : (next topology before event).notes.entries ≡ before.notes.entries ++ losses_of (next topology before event).notes.records
  pub sendings : List Sending
  pub sent : AreSent topology before event sendings
  pub on_way : filter is_on_way (losses_of (next topology before event).notes.records) ≡ lost_on_way topology before event ++ flat_map entry_of sendings
  pub cuts : List Held
  pub are_cut : AreCut topology before event cuts
  pub cut : filter is_of_cut (losses_of (next topology before event).notes.records) ≡ flat_map (cut_entries before) cuts
  pub left_open : (node : NodeId) (input : End)
      → open_of (branch_at (next topology before event) node input)
      ≡ open_behind (over_it node input (over topology before event)) (branch_at before node input) (branch_at (next topology before event) node input)

pub record AreTrueLosses (policy : Policy) (topology : Topology) (events : List Event) : Type 0 where
  pub ledger : (before after : List Event) → events ≡ before ++ after
      → (world_at policy topology before).notes.entries ≡ losses_of (records_of (run policy topology before))
  pub first : (before after : List Event) → events ≡ before ++ after → AreFirst [] (world_at policy topology before).notes.entries
  pub rooms : (before after : List Event) → events ≡ before ++ after → (node : NodeId) → rooms_at (world_at policy topology before) node ≡ 9
  pub bare : (node : NodeId) (input : End) → branch_at (opened policy topology) node input ≡ None
  pub each : (before after : List Event) (event : Event) → events ≡ before ++ event ∷ after
      → EntersLosses topology (world_at policy topology before) event
