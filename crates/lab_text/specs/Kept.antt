-- What is left of a text where memory was wanting

use Rattle.std.specs.Prelude.{ℕ, List}
use Rattle.std.specs.Io.{StartsWith}

-- the writing of a whole broke off: what stood there is still in front, and all that stands there is a front of the whole
pub record BreaksOff (old whole new : List ℕ) : Type 0 where
  pub kept : StartsWith new old
  pub front : StartsWith whole new
