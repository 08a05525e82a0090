-- Where cells wait in a network

use Rattle.std.specs.Prelude.{◌≡◌, ℕ, ◌+◌, ◌-◌, ◌≤◌, ◌<◌, false, List, [], length, slice_get, slice_index_or, Option, None, Some}
use Rattle.net_types.specs.declared.node.Place.{Place}
use Rattle.world_model.specs.Controller.{Controller}
use Rattle.world_model.specs.Places.{place_node, queue_at}
use Rattle.world.specs.declared.world.World.{World as Network}
use Rattle.world.specs.Network.{no_notes, world_of}
use Rattle.world.specs.NodeSet.{is_in}

-- *The first queue that holds a cell*, by its place in the order of a round: from here on, below the end
abbrev pub IsEmptyIn : {C : Type 0} → (C → Controller) → Network C → (from end : ℕ) → Type 0
IsEmptyIn seen n from end = (i : ℕ) (place : Place) → from ≤ i → i < end → slice_get n.round.items i ≡ Some place
    → queue_at (world_of seen n no_notes) place ≡ []

abbrev pub HoldsAt : {C : Type 0} → (C → Controller) → Network C → (i : ℕ) → Type 0
HoldsAt seen n i = (place : Place) → slice_get n.round.items i ≡ Some place → 1 ≤ length (queue_at (world_of seen n no_notes) place)

abbrev pub IsFirstHolding : {C : Type 0} → (C → Controller) → Network C → (from end : ℕ) → Option ℕ → Type 0
IsFirstHolding seen n from end None = IsEmptyIn seen n from end
IsFirstHolding seen n from end (Some i) = (from ≤ i) × (i < end) × HoldsAt seen n i × IsEmptyIn seen n from i

-- *The node of a queue*, by its place in the order of the nodes
abbrev pub node_place : Place → ℕ
node_place place = (place_node place).0 - 1

-- the queues of the node at place k stand in the round from `starts[k]` up to `starts[k + 1]`
pub record Stands (starts : List ℕ) (nodes k i : ℕ) : Type 0 where
  pub node : k < nodes
  pub start : slice_index_or starts k 0 ≤ i
  pub end : i < slice_index_or starts (k + 1) 0

pub record HaveStarts (round : List Place) (starts : List ℕ) (nodes : ℕ) : Type 0 where
  pub size : length starts ≡ 65
  pub last : slice_index_or starts nodes 0 ≡ length round
  pub order : (one other : ℕ) → one ≤ other → other ≤ nodes → slice_index_or starts one 0 ≤ slice_index_or starts other 0
  pub stand : (i : ℕ) (place : Place) → slice_get round i ≡ Some place → Stands starts nodes (node_place place) i

-- *Marks*: no cell waits at a node that isn't marked
abbrev pub AreMarked : {C : Type 0} → (C → Controller) → Network C → Type 0
AreMarked seen n = (i : ℕ) (place : Place) → slice_get n.round.items i ≡ Some place → is_in n.waiting (node_place place) ≡ false
    → queue_at (world_of seen n no_notes) place ≡ []
