-- What a step over a grant leaves of the others. No claim needs this file.

use Rattle.std.specs.Prelude.{◌≡◌, ℕ, ◌+◌, ◌<◌, List, length, drop}
use Rattle.port_model.specs.Grants.{Grant}

-- those behind a place stand from the next place on as they were, and fewer are left to do
pub record IsOver (old new : List Grant) (place next : ℕ) : Type 0 where
  pub rest : drop next new ≡ drop (place + 1) old
  pub fewer : length new + place < length old + next
