-- What a task makes of lines

use Rattle.std.specs.Prelude.{◌≡◌, ℕ, ◌++◌, Bool, false, List, [], if◌then◌else◌}

-- what the lines cause to be written, what is written last, how the task ends, and whether one of the lines ends it, so
-- that those behind it aren't read. Else the input's end does
pub record Account (O : Type 0) : Type 0 where
  pub body : List ℕ
  pub last : List ℕ
  pub outcome : O
  pub is_ended : Bool

-- *The report* of the lines
abbrev pub report : {O : Type 0} → Account O → List ℕ
report account = account.body ++ account.last

-- what the lines have caused, whatever follows: the last part belongs to it where one of them ends the task
abbrev pub caused : {O : Type 0} → Account O → List ℕ
caused account = if account.is_ended then report account else account.body

-- the same, behind some octets
abbrev pub led_by : {O : Type 0} → List ℕ → Account O → Account O
led_by octets account = record account { body = octets ++ account.body }

-- no line caused anything or ended it: what is written is the last part alone
pub record IsOpen {O : Type 0} (account : Account O) : Type 0 where
  pub body : account.body ≡ []
  pub is_ended : account.is_ended ≡ false
