-- Two sides of an adjacency that have met (RFC 1953, RFC 1987)

use Rattle.std.specs.Prelude.{◌≡◌, Some}
use Rattle.world_model.specs.Words.{Estab, Side}

-- both are in Estab, and each has stored the other as it is now
pub record HaveMet {P : Type 0} (one other : Side P) : Type 0 where
  pub one_is_up : one.state ≡ Estab
  pub other_is_up : other.state ≡ Estab
  pub one_knows : one.stored ≡ Some other.own
  pub other_knows : other.stored ≡ Some one.own
