-- How the code keeps the spare labels of a pool: a truth value for each number of its range. No claim
-- needs this file.

use Rattle.std.specs.Prelude.{◌≡◌, ℕ, Bool, true, false, ◌+◌, ◌-◌, ◌<◌, ◌≤◌, ◌&&◌, IsTrue, List, [], ◌∷◌, length, slice_index_or}
use Rattle.net_types.specs.Label.{is_label_number, label_channel_of}
use Rattle.branch_desk.specs.port_model.Setup.{is_between}
use Rattle.label_pool.specs.declared.between.Between.{Between}

-- the numbers that are marked, where the first mark is that of `first`
abbrev pub marked : (first : ℕ) → List Bool → List ℕ
marked first [] = []
marked first (true ∷ marks) = first ∷ marked (first + 1) marks
marked first (false ∷ marks) = marked (first + 1) marks

-- the label at a place is spare, and lies between the two channels
abbrev pub is_open : (least : ℕ) → Between → List Bool → (place : ℕ) → Bool
is_open least between marks place =
    slice_index_or marks place false && is_between between.from between.to (label_channel_of (least + place))

-- what holds of the marks of a pool: there is one for each number of its range, marked numbers are those
-- of labels and are counted, and below `low` no label can be handed out
pub record AreMarks (least greatest : ℕ) (between : Between) (marks : List Bool) (count low : ℕ) : Type 0 where
  pub sized : length marks ≡ greatest + 1 - least
  pub labels : (k : ℕ) → slice_index_or marks k false ≡ true → IsTrue (is_label_number (least + k))
  pub counted : length (marked least marks) ≡ count
  pub inside : low ≤ length marks
  pub closed : (k : ℕ) → k < low → is_open least between marks k ≡ false
