-- Joins by their inputs

use Rattle.std.specs.Prelude.{◌≡◌, ◌≢◌, ℕ, ◌<◌, ◌≤◌, List, length, slice_index_or}
use Rattle.std.specs.List.{AllPairs}
use Rattle.std.specs.declared.cmp.Ordering.TheVariants.{Less, Greater}
use Rattle.net_types.specs.declared.channel.End.{End}
use Rattle.crossbar_model.specs.Channels.{end_cmp}
use Rattle.world_model.specs.Joins.{Join}
use Rattle.controller_joins.specs.declared.places.Joined.{Joined}

-- a join by its input, and by the port and the label of its grant
abbrev pub joined_of : Join → Joined
joined_of join = record { input = join.input; port = join.port; label = join.grant.label }

-- *Order*: ascending by the inputs, none twice
pub record AreInOrder (joins : List Joined) : Type 0 where
  pub ascending : AllPairs (λ a b. end_cmp a.input b.input ≡ Less) joins

-- how the code finds a join: that of the input stands at place i
pub record IsPlaceOf (joins : List Joined) (input : End) (i : ℕ) : Type 0 where
  pub within : i < length joins
  pub here : (d : Joined) → (slice_index_or joins i d).input ≡ input

-- the input isn't joined; its join would stand at place i
pub record IsGapFor (joins : List Joined) (input : End) (i : ℕ) : Type 0 where
  pub within : i ≤ length joins
  pub before : (j : ℕ) (d : Joined) → j < i → end_cmp (slice_index_or joins j d).input input ≡ Less
  pub after : (j : ℕ) (d : Joined) → i ≤ j → j < length joins → end_cmp (slice_index_or joins j d).input input ≡ Greater

-- the first join whose input doesn't come before the end stands at place i, or i is the place behind the last
pub record IsFirstFrom (joins : List Joined) (end : End) (i : ℕ) : Type 0 where
  pub within : i ≤ length joins
  pub before : (j : ℕ) (d : Joined) → j < i → end_cmp (slice_index_or joins j d).input end ≡ Less
  pub behind : (j : ℕ) (d : Joined) → i ≤ j → j < length joins → end_cmp (slice_index_or joins j d).input end ≢ Less
