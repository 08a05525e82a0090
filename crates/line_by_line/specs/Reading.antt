-- Where a task stands in its input. No claim needs this file.

use Rattle.std.specs.Prelude.{◌≡◌, ℕ, ◌+◌, ◌-◌, ◌<◌, ◌==◌, ◌++◌, Bool, true, false, List, [], ◌∷◌, length, slice_get, Option, Result, Ok, Err}
use Rattle.std.specs.Option.{option_map_or}
use Rattle.std.specs.Io.KnownBytes.{Consumes, IsAtEnd}
use Rattle.lab_io.specs.Lines.{feed}
use Rattle.lab_io.specs.Report.{IsPut, Writer}
use Rattle.lab_text.specs.Line.{input_limit}
use Rattle.lab_text.specs.Lines.{lines_of}
use Rattle.line_by_line.specs.declared.fault.LineFault.{LineFault}
use Rattle.line_by_line.specs.declared.fault.LineFault.TheVariants.{Read, Write, OutOfMemory}
use Rattle.line_by_line.specs.declared.line_run.LineRun.{LineRun}
use Rattle.lab_io.specs.declared.stop.Stop.{Stop}
use Rattle.lab_io.specs.declared.stop.Stop.TheVariants as stop
use Rattle.line_by_line.specs.declared.task.Step.{Step}
use Rattle.line_by_line.specs.declared.task.Step.TheVariants.{Goes, Ends}
use Rattle.line_by_line.specs.Account.{Account, caused, led_by, report}
use Rattle.lab_io.specs.Puts.{StopsIn}
use Rattle.line_by_line.specs.Report.{AreWholeLines, IsDone, IsLeft, IsReadOut, account_of}

-- nothing is read
pub record IsBegun (run : LineRun) : Type 0 where
  pub held : run.reader.held ≡ []
  pub given : run.reader.given ≡ 0
  pub is_open : run.reader.is_ended ≡ true → ⊥
  pub writer : run.writer ≡ record { held = []; room = 65536 }

-- the count of the octets taken is that of the reader
pub record IsCounted (octets : ℕ) (run : LineRun) : Type 0 where
  pub octets_are : octets ≡ run.reader.given
  pub low : run.reader.given < input_limit

-- these octets are these whole lines, whatever octets follow
abbrev pub IsSplit : (given : List ℕ) → (lines : List (List ℕ)) → Type 0
IsSplit given lines = (others : List ℕ) → lines_of (given ++ others) ≡ lines ++ lines_of others

-- whole lines were taken, whatever octets follow, and what they cause was put; the source has these octets left, where it
-- tells them
pub record IsAtLine {O : Type 0} (account : List (List ℕ) → Account O) (first : Writer) (start from : Option (List ℕ)) (now : List (List ℕ) → Account O)
    (run : LineRun) (left written : Option (List ℕ)) : Type 0 where
  pub lines : List (List ℕ)
  pub given : List ℕ
  pub octets : List ℕ
  pub read : Consumes from left (given ++ run.reader.held)
  pub split : IsSplit given lines
  pub size : length given ≡ run.reader.given
  pub ended : run.reader.is_ended ≡ true → IsAtEnd left
  pub same : (others : List (List ℕ)) → account (lines ++ others) ≡ led_by octets (now others)
  pub put : IsPut first run.writer start written octets

-- the report was put whole, though its end may be held
pub record IsSettled {O : Type 0} (account : List (List ℕ) → Account O) (first : Writer) (start from : Option (List ℕ)) (outcome : O) (writer : Writer) (left written : Option (List ℕ)) : Type 0 where
  pub input : List ℕ
  pub is_read : IsReadOut account from left input
  pub at_end : (account_of account input).is_ended ≡ false → IsAtEnd left
  pub put : IsPut first writer start written (report (account_of account input))
  pub outcome_is : outcome ≡ (account_of account input).outcome

-- a read failed in the midst of a line
pub record IsInMidst {O : Type 0} (account : List (List ℕ) → Account O) (first : Writer) (start from : Option (List ℕ)) (writer : Writer) (left written : Option (List ℕ)) : Type 0 where
  pub whole : List ℕ
  pub rest : List ℕ
  pub lines : AreWholeLines from left whole rest
  pub no_line : feed rest ≡ length rest
  pub unended : (account_of account whole).is_ended ≡ false
  pub put : IsPut first writer start written (account_of account whole).body

-- it stopped in what whole lines have caused, or in the last part of a report
pub data Stops {O : Type 0} (account : List (List ℕ) → Account O) (first : Writer) (start from : Option (List ℕ)) (stop : Stop) (writer : Writer) (left written : Option (List ℕ)) : Type 0 where
  in_lines : (whole rest : List ℕ) → AreWholeLines from left whole rest → StopsIn stop first writer start written (caused (account_of account whole)) → Stops account first start from stop writer left written
  at_last : (input : List ℕ) → IsReadOut account from left input → StopsIn stop first writer start written (report (account_of account input)) → Stops account first start from stop writer left written

-- what a fault leaves
abbrev pub Halts : {O : Type 0} → (List (List ℕ) → Account O) → Writer → (start from : Option (List ℕ)) → LineFault → Writer → (left written : Option (List ℕ)) → Type 0
Halts account first start from Read writer left written = IsInMidst account first start from writer left written
Halts account first start from Write writer left written = Stops account first start from stop.Failed writer left written
Halts account first start from (OutOfMemory error) writer left written = Stops account first start from (stop.OutOfMemory error) writer left written

-- *What a line leads to*
abbrev pub Advances : {O : Type 0} → (List (List ℕ) → Account O) → Writer → (start from : Option (List ℕ)) → Result (Step O) LineFault → (now : List (List ℕ) → Account O) → LineRun → (left written : Option (List ℕ)) → Type 0
Advances account first start from (Ok Goes) now run left written = IsAtLine account first start from now run left written
Advances account first start from (Ok (Ends outcome)) now run left written = IsSettled account first start from outcome run.writer left written
Advances account first start from (Err fault) now run left written = Halts account first start from fault run.writer left written

-- the input was read to where the task ends
abbrev pub Finishes : {O : Type 0} → (List (List ℕ) → Account O) → Writer → (start from : Option (List ℕ)) → Result O LineFault → Writer → (left written : Option (List ℕ)) → Type 0
Finishes account first start from (Ok outcome) writer left written = IsSettled account first start from outcome writer left written
Finishes account first start from (Err fault) writer left written = Halts account first start from fault writer left written

-- and what was held is written
abbrev pub Finished : {O : Type 0} → (List (List ℕ) → Account O) → (start from : Option (List ℕ)) → Result O LineFault → (left written : Option (List ℕ)) → Type 0
Finished account start from (Ok outcome) left written = IsDone account from left start written outcome
Finished account start from (Err fault) left written = IsLeft fault account from left start written

-- *The next line* stands in the buffer, and is held no longer: it has its end; or it is all that was left
abbrev pub ends_line : List ℕ → Bool
ends_line line = option_map_or (λ octet. octet == 10) (slice_get line (length line - 1)) false

abbrev pub HasShape : (has_end : Bool) → (line held : List ℕ) → (left : Option (List ℕ)) → Type 0
HasShape true line held left = (others : List ℕ) → lines_of (line ++ others) ≡ line ∷ lines_of others
HasShape false line held left = (lines_of line ≡ line ∷ []) × (held ≡ []) × IsAtEnd left

pub record HasNext {O : Type 0} (account : List (List ℕ) → Account O) (first : Writer) (start from : Option (List ℕ)) (line : List ℕ) (now : List (List ℕ) → Account O)
    (run : LineRun) (left written : Option (List ℕ)) : Type 0 where
  pub lines : List (List ℕ)
  pub given : List ℕ
  pub octets : List ℕ
  pub read : Consumes from left ((given ++ line) ++ run.reader.held)
  pub split : IsSplit given lines
  pub size : length given + length line ≡ run.reader.given
  pub low : run.reader.given < input_limit
  pub shape : HasShape (ends_line line) line run.reader.held left
  pub ended : run.reader.is_ended ≡ true → IsAtEnd left
  pub same : (others : List (List ℕ)) → account (lines ++ others) ≡ led_by octets (now others)
  pub put : IsPut first run.writer start written octets
