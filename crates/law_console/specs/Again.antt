-- Why a copy does no harm: a command that comes again right after itself is answered as the first time, and changes nothing

use Rattle.std.specs.Prelude.{◌≡◌, ℕ}
use Rattle.std.specs.FinMap.{get}
use Rattle.world_model.specs.Words.{End, Request}
use Rattle.console_model.specs.Plain.{Links, answer, after}

-- each input leads where it does in the other
abbrev pub IsSame : Links → Links → Type 0
IsSame m other = (input : End) → get m input ≡ get other input

pub record ComesAgain (ports : ℕ) (m : Links) (command : Request) : Type 0 where
  pub answer : answer ports (after ports m command) command ≡ answer ports m command
  pub map : IsSame (after ports (after ports m command) command) (after ports m command)

abbrev pub CommandsComeTwice : Type 0
CommandsComeTwice = (ports : ℕ) (m : Links) (command : Request) → ComesAgain ports m command
