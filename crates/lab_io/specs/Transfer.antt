-- what a whole input or output leaves of what a source or a sink tells

use Rattle.std.specs.Prelude.{ℕ, ◌≤◌, List, length, take, Bool, true, false, Option, Result, Ok, Err}
use Rattle.std.specs.Io.KnownBytes.{Appends, Consumes}
use Rattle.lab_io.specs.declared.transfer.InputFault.{InputFault}
use Rattle.lab_io.specs.declared.transfer.InputFault.TheVariants.{Failed, OutOfMemory}

-- an input wasn't had because a read failed
abbrev pub input_failed : {A : Type 0} → Result A InputFault → Bool
input_failed (Ok _) = false
input_failed (Err Failed) = true
input_failed (Err (OutOfMemory _)) = false

-- some of these octets, from the front, were appended to the known ones
pub record AppendsFront (old new : Option (List ℕ)) (octets : List ℕ) : Type 0 where
  pub count : ℕ
  pub within : count ≤ length octets
  pub appended : Appends old new (take count octets)

-- the known octets lost some from their front
pub record ConsumesSome (old new : Option (List ℕ)) : Type 0 where
  pub octets : List ℕ
  pub consumed : Consumes old new octets
