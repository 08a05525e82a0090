-- What a sink that keeps all is seen as

use Rattle.std.specs.Prelude.{ℕ, List}

-- the octets that it took, in order, and how often a write failed
pub record Kept : Type 0 where
  pub taken : List ℕ
  pub faults : ℕ
