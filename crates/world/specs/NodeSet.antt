-- Sets of nodes, by their places in the order of their numbers

use Rattle.std.specs.Prelude.{◌≡◌, ◌≢◌, ◌≤◌, ◌<◌, ◌==◌, ℕ, Bool, true, false, Option, None, Some}
use Rattle.std.specs.Int.{bit_at}
use Rattle.world.specs.declared.node_set.NodeSet.{NodeSet}

-- the node at this place is one of them
abbrev pub is_in : NodeSet → (place : ℕ) → Bool
is_in set place = bit_at set.bits place == 1

-- one joins, or leaves
pub record IsInserted (old new : NodeSet) (place : ℕ) : Type 0 where
  pub here : is_in new place ≡ true
  pub others : (other : ℕ) → other ≢ place → is_in new other ≡ is_in old other

pub record IsRemoved (old new : NodeSet) (place : ℕ) : Type 0 where
  pub here : is_in new place ≡ false
  pub others : (other : ℕ) → other ≢ place → is_in new other ≡ is_in old other

-- *The first of them* from here on, below the end
abbrev pub HasNoneIn : NodeSet → (from end : ℕ) → Type 0
HasNoneIn set from end = (place : ℕ) → from ≤ place → place < end → is_in set place ≡ false

abbrev pub IsFirstIn : NodeSet → (from end : ℕ) → Option ℕ → Type 0
IsFirstIn set from end None = HasNoneIn set from end
IsFirstIn set from end (Some place) = (from ≤ place) × (place < end) × (is_in set place ≡ true) × HasNoneIn set from place
