-- What a task that takes lines reads and writes. It is given by what it makes of lines

use Rattle.std.specs.Prelude.{◌≡◌, ℕ, ◌≤◌, ◌++◌, false, List, length, take, Option, Some}
use Rattle.std.specs.Io.KnownBytes.{Appends, Consumes, IsAtEnd}
use Rattle.lab_io.specs.Lines.{feed}
use Rattle.lab_io.specs.Transfer.{AppendsFront}
use Rattle.lab_text.specs.Line.{input_limit}
use Rattle.lab_text.specs.Lines.{lines_of}
use Rattle.line_by_line.specs.declared.fault.LineFault.{LineFault}
use Rattle.line_by_line.specs.declared.fault.LineFault.TheVariants.{Read, Write, OutOfMemory}
use Rattle.line_by_line.specs.Account.{Account, caused, report}

-- *What is made of an input*: nothing is read past the octet that no input may hold
abbrev pub account_of : {O : Type 0} → (List (List ℕ) → Account O) → (input : List ℕ) → Account O
account_of account input = account (lines_of (take input_limit input))

-- *The octets that were read* settle it: whatever is left of the source, it is theirs
pub record IsReadOut {O : Type 0} (account : List (List ℕ) → Account O) (left_old left_new : Option (List ℕ)) (input : List ℕ) : Type 0 where
  pub read : Consumes left_old left_new input
  pub settled : (others : List ℕ) → left_new ≡ Some others → account_of account (input ++ others) ≡ account_of account input

-- or some of them, from the front, are whole lines
pub record AreWholeLines (left_old left_new : Option (List ℕ)) (whole rest : List ℕ) : Type 0 where
  pub read : Consumes left_old left_new (whole ++ rest)
  pub lines : (others : List ℕ) → left_new ≡ Some others → lines_of (whole ++ (rest ++ others)) ≡ lines_of whole ++ lines_of (rest ++ others)

-- *The task is done*: what is written is its report
pub record IsDone {O : Type 0} (account : List (List ℕ) → Account O) (left_old left_new written_old written_new : Option (List ℕ)) (outcome : O) : Type 0 where
  pub input : List ℕ
  pub is_read : IsReadOut account left_old left_new input
  pub at_end : (account_of account input).is_ended ≡ false → IsAtEnd left_new
  pub written : Appends written_old written_new (report (account_of account input))
  pub outcome_is : outcome ≡ (account_of account input).outcome

-- where the source tells its input: this is made of it
pub record IsAccountOf {O : Type 0} (account : List (List ℕ) → Account O) (input : List ℕ) (outcome : O) (written_old written_new : Option (List ℕ)) : Type 0 where
  pub written : Appends written_old written_new (report (account_of account input))
  pub outcome_is : outcome ≡ (account_of account input).outcome

-- *A read failed*: no line of what was read ended the task, and what is written lacks at most the last 65,536 octets of
-- what its whole lines have caused. Behind these lines no line has its end
pub record IsCutOff {O : Type 0} (account : List (List ℕ) → Account O) (left_old left_new written_old written_new : Option (List ℕ)) : Type 0 where
  pub whole : List ℕ
  pub rest : List ℕ
  pub lines : AreWholeLines left_old left_new whole rest
  pub no_line : feed rest ≡ length rest
  pub unended : (account_of account whole).is_ended ≡ false
  pub told : List ℕ
  pub lacking : List ℕ
  pub written : Appends written_old written_new told
  pub all : told ++ lacking ≡ (account_of account whole).body
  pub few : length lacking ≤ 65536

-- *A write failed, or memory was wanting*: what is written is a front of what whole lines that were read have caused; or
-- of the report, where it was settled
pub data IsFront {O : Type 0} (account : List (List ℕ) → Account O) (left_old left_new written_old written_new : Option (List ℕ)) : Type 0 where
  in_lines : (whole rest : List ℕ) → AreWholeLines left_old left_new whole rest → AppendsFront written_old written_new (caused (account_of account whole)) → IsFront account left_old left_new written_old written_new
  at_last : (input : List ℕ) → IsReadOut account left_old left_new input → AppendsFront written_old written_new (report (account_of account input)) → IsFront account left_old left_new written_old written_new

abbrev pub IsLeft : {O : Type 0} → LineFault → (account : List (List ℕ) → Account O) → (left_old left_new written_old written_new : Option (List ℕ)) → Type 0
IsLeft Read account left_old left_new written_old written_new = IsCutOff account left_old left_new written_old written_new
IsLeft Write account left_old left_new written_old written_new = IsFront account left_old left_new written_old written_new
IsLeft (OutOfMemory error) account left_old left_new written_old written_new = IsFront account left_old left_new written_old written_new
