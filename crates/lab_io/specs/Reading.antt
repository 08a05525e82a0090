-- What a call of a reader of lines leaves of the source and of the reader

use Rattle.std.specs.Prelude.{◌≡◌, ℕ, ◌+◌, ◌++◌, Bool, true, List, [], length, Option, None, Some}
use Rattle.std.specs.Io.KnownBytes.{Consumes}
use Rattle.lab_io.specs.Lines.{Reader, Answer, Given, Long, Past, Over, answer_in}

-- the octets seen in a call: those that were held, and behind them those that the source lost in it
pub record Saw (held : List ℕ) (left_old left_new : Option (List ℕ)) (seen : List ℕ) : Type 0 where
  pub read : List ℕ
  pub consumed : Consumes left_old left_new read
  pub behind : seen ≡ held ++ read

-- what the reader is behind a line that was given, or at the input's end; so many octets were given
-- before
abbrev pub IsKept : (given : ℕ) → (new : Reader) → (seen : List ℕ) → Answer → Type 0
IsKept given new seen (Given line) = (seen ≡ line ++ new.held) × (new.given ≡ given + length line)
IsKept given new seen Over = (new.held ≡ []) × (new.given ≡ given)
IsKept given new seen Long = Unit {0}
IsKept given new seen Past = Unit {0}

-- the answer is that of the octets seen
pub record IsNext (old new : Reader) (left_old left_new : Option (List ℕ)) (answer : Answer) : Type 0 where
  pub seen : List ℕ
  pub saw : Saw old.held left_old left_new seen
  pub answered : answer_in old.given new.is_ended seen ≡ Some answer
  pub kept : IsKept old.given new seen answer

-- a read failed, and no line had been seen whole
pub record IsCutOff (old : Reader) (left_old left_new : Option (List ℕ)) : Type 0 where
  pub seen : List ℕ
  pub saw : Saw old.held left_old left_new seen
  pub unanswered : answer_in old.given old.is_ended seen ≡ None

-- a source that said its end is known to have said it
abbrev pub KnowsEnd : (is_ended said_end : Bool) → Type 0
KnowsEnd is_ended said_end = said_end ≡ true → is_ended ≡ true
