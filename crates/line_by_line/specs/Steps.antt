-- What a task does with a line, and at the end: each is said by what it makes of the lines to come

use Rattle.std.specs.Prelude.{◌≡◌, ℕ, ◌+◌, ◌<◌, ◌≤◌, true, List, [], ◌∷◌, length, Option, Result, Ok, Err}
use Rattle.lab_io.specs.Report.{IsPut, Writer}
use Rattle.lab_text.specs.Line.{input_limit, line_limit}
use Rattle.lab_text.specs.Words.{line_text}
use Rattle.lab_io.specs.declared.stop.Stop.{Stop}
use Rattle.line_by_line.specs.declared.task.Step.{Step}
use Rattle.line_by_line.specs.declared.task.Step.TheVariants.{Goes, Ends}
use Rattle.line_by_line.specs.Account.{Account, caused, led_by, report}
use Rattle.lab_io.specs.Puts.{StopsIn}

-- *Another line may follow*: what the line causes is put, and what is made of the lines behind it is what is made of
-- them now
pub record GoesOn {O : Type 0} (before behind : List (List ℕ) → Account O) (line : List ℕ) (old new : Writer) (written_old written_new : Option (List ℕ)) : Type 0 where
  pub octets : List ℕ
  pub same : (others : List (List ℕ)) → before (line ∷ others) ≡ led_by octets (behind others)
  pub put : IsPut old new written_old written_new octets

-- *The end*: the report of what was still to come is put, or it stopped in it
abbrev pub Concludes : {O : Type 0} → Account O → Result O Stop → (old new : Writer) → (written_old written_new : Option (List ℕ)) → Type 0
Concludes account (Ok outcome) old new written_old written_new = (outcome ≡ account.outcome) × IsPut old new written_old written_new (report account)
Concludes account (Err stop) old new written_old written_new = StopsIn stop old new written_old written_new (report account)

-- *The line ends the task*, whatever follows
pub record Settles {O : Type 0} (before : List (List ℕ) → Account O) (line : List ℕ) (result : Result O Stop) (old new : Writer) (written_old written_new : Option (List ℕ)) : Type 0 where
  pub account : Account O
  pub same : (others : List (List ℕ)) → before (line ∷ others) ≡ account
  pub is_ended : account.is_ended ≡ true
  pub concluded : Concludes account result old new written_old written_new

-- *A line is taken*: another may follow, or it ends the task, or it stopped in what the line has caused
abbrev pub Takes : {O : Type 0} → (before behind : List (List ℕ) → Account O) → (line : List ℕ) → Result (Step O) Stop → (old new : Writer) → (written_old written_new : Option (List ℕ)) → Type 0
Takes before behind line (Ok Goes) old new written_old written_new = GoesOn before behind line old new written_old written_new
Takes before behind line (Ok (Ends outcome)) old new written_old written_new = Settles before line (Ok outcome) old new written_old written_new
Takes before behind line (Err stop) old new written_old written_new = StopsIn stop old new written_old written_new (caused (before (line ∷ [])))

-- *Lines that aren't kept*, behind so many octets of the input: one has too many octets, the other reaches past the
-- greatest input
pub record IsTooLong (octets : ℕ) (line : List ℕ) : Type 0 where
  pub within : octets + length line < input_limit
  pub long : line_limit < length (line_text line)

pub record IsPast (octets : ℕ) (line : List ℕ) : Type 0 where
  pub within : octets < input_limit
  pub past : input_limit ≤ octets + length line
