-- What a writer of a report has written and what it holds

use Rattle.std.specs.Prelude.{◌≡◌, ℕ, ◌≤◌, ◌++◌, List, length, take, Option}
use Rattle.std.specs.Io.KnownBytes.{Appends}

-- what a writer is seen as: the octets that it holds, and the most that it holds at a time
pub record Writer : Type 0 where
  pub held : List ℕ
  pub room : ℕ

-- what was written and what is held now are what was held and what was put
pub record IsPut (old new : Writer) (written_old written_new : Option (List ℕ)) (octets : List ℕ) : Type 0 where
  pub written : List ℕ
  pub appended : Appends written_old written_new written
  pub all : written ++ new.held ≡ old.held ++ octets

-- a write failed: the sink took what stands before the octets that are held, and some of these from
-- their front; what stands behind them was never held
pub record IsStuck (old new : Writer) (written_old written_new : Option (List ℕ)) (octets : List ℕ) : Type 0 where
  pub written : List ℕ
  pub count : ℕ
  pub rest : List ℕ
  pub within : count ≤ length new.held
  pub appended : Appends written_old written_new (written ++ take count new.held)
  pub all : written ++ new.held ++ rest ≡ old.held ++ octets
