-- What a replay reads and writes

use Rattle.std.specs.Prelude.{◌≡◌, ℕ, ◌≤◌, ◌++◌, false, Bool, List, length, is_some, Option, None, Some, Result, Ok, Err}
use Rattle.std.specs.Io.KnownBytes.{Appends, Consumes, IsAtEnd}
use Rattle.lab_io.specs.Lines.{feed}
use Rattle.lab_io.specs.Transfer.{AppendsFront}
use Rattle.lab_text.specs.Lines.{lines_of}
use Rattle.port_model.specs.Setup.{Policy}
use Rattle.world_model.specs.Topology.{Topology}
use Rattle.world_model.specs.World.{opened}
use Rattle.script_model.specs.Reports.{body_under, report_under}
use Rattle.script_model.specs.Script.{Script, script_of}
use Rattle.network_run.specs.telling_model.Placed.{Placed, placed_of}
use Rattle.network_run.specs.telling_model.Tale as tales
use Rattle.network_run.specs.telling_model.Tale.{Tale}
use Rattle.world.specs.declared.counts.Meter.{Meter}
use Rattle.network_run.specs.Telling.{meter_behind}
use Rattle.network_replay.specs.Along.{IsMetered}
use Rattle.line_by_line.specs.declared.fault.LineFault.{LineFault}
use Rattle.line_by_line.specs.declared.fault.LineFault.TheVariants.{Read, Write, OutOfMemory}

-- *The report* of a script, and its lines but the last, under the policy that is chosen for its topology, whatever lines its
-- events come of
abbrev pub report_by : (Topology → Policy) → Script → List Placed → List ℕ
report_by choice script placed = report_under (choice script.topology) script

abbrev pub body_by : (Topology → Policy) → Script → List Placed → List ℕ
body_by choice script placed = body_under (choice script.topology) script

-- *What a tale tells* of a script, and what it tells before the end
abbrev pub account_by : {S : Type 0} → Tale S → (Topology → Policy) → Script → List Placed → List ℕ
account_by tale choice script placed = tales.account tale (choice script.topology) script placed

abbrev pub telling_by : {S : Type 0} → Tale S → (Topology → Policy) → Script → List Placed → List ℕ
telling_by tale choice script placed = tales.body tale (choice script.topology) script placed

-- *The octets that were read* settle the script, and the lines that its events come of: whatever is left of the source, it
-- is theirs
pub record IsReadOut (left_old left_new : Option (List ℕ)) (input : List ℕ) : Type 0 where
  pub read : Consumes left_old left_new input
  pub settled : (others : List ℕ) → left_new ≡ Some others → script_of (input ++ others) ≡ script_of input
  pub placed : (others : List ℕ) → left_new ≡ Some others → placed_of (input ++ others) ≡ placed_of input

-- or some of them, from the front, are whole lines
pub record AreWholeLines (left_old left_new : Option (List ℕ)) (whole rest : List ℕ) : Type 0 where
  pub read : Consumes left_old left_new (whole ++ rest)
  pub lines : (others : List ℕ) → left_new ≡ Some others → lines_of (whole ++ (rest ++ others)) ≡ lines_of whole ++ lines_of (rest ++ others)

-- *A script was replayed*: what is written is its account, as its report, and the meter is at the last of its events
pub record IsDone (choice : Topology → Policy) (account : Script → List Placed → List ℕ) (left_old left_new written_old written_new : Option (List ℕ)) (before meter : Meter) (refused : Bool) : Type 0 where
  pub input : List ℕ
  pub is_read : IsReadOut left_old left_new input
  pub at_end : refused ≡ false → IsAtEnd left_new
  pub written : Appends written_old written_new (account (script_of input) (placed_of input))
  pub outcome : refused ≡ is_some (script_of input).refused
  pub meter_is : meter ≡ meter_behind before (script_of input).topology (opened (choice (script_of input).topology) (script_of input).topology) (script_of input).events

-- *A read failed*: no line of what was read is refused, and what is written lacks at most the last 65,536 octets of what is
-- told of its whole lines, as the lines of records. Behind these lines no line has its end
pub record IsCutOff (body : Script → List Placed → List ℕ) (left_old left_new written_old written_new : Option (List ℕ)) : Type 0 where
  pub whole : List ℕ
  pub rest : List ℕ
  pub lines : AreWholeLines left_old left_new whole rest
  pub no_line : feed rest ≡ length rest
  pub accepted : (script_of whole).refused ≡ None
  pub told : List ℕ
  pub lacking : List ℕ
  pub written : Appends written_old written_new told
  pub all : told ++ lacking ≡ body (script_of whole) (placed_of whole)
  pub few : length lacking ≤ 65536

-- *A write failed, or memory was wanting*: what is written is a front of what is told of whole lines that were read; or of
-- the account, where the script was settled
pub data IsFront (account body : Script → List Placed → List ℕ) (left_old left_new written_old written_new : Option (List ℕ)) : Type 0 where
  in_lines : (whole rest : List ℕ) → AreWholeLines left_old left_new whole rest → AppendsFront written_old written_new (body (script_of whole) (placed_of whole)) → IsFront account body left_old left_new written_old written_new
  at_last : (input : List ℕ) → IsReadOut left_old left_new input → AppendsFront written_old written_new (account (script_of input) (placed_of input)) → IsFront account body left_old left_new written_old written_new

abbrev pub IsLeft : LineFault → (account body : Script → List Placed → List ℕ) → (left_old left_new written_old written_new : Option (List ℕ)) → Type 0
IsLeft Read account body left_old left_new written_old written_new = IsCutOff body left_old left_new written_old written_new
IsLeft Write account body left_old left_new written_old written_new = IsFront account body left_old left_new written_old written_new
IsLeft (OutOfMemory error) account body left_old left_new written_old written_new = IsFront account body left_old left_new written_old written_new

-- *The meter, whatever the result*: where the source told these octets, it is at one of the events of the script that they
-- are, or as it was before the first
abbrev pub IsMeteredFrom : (Topology → Policy) → (from : Option (List ℕ)) → (before meter : Meter) → Type 0
IsMeteredFrom choice from before meter = (input : List ℕ) → from ≡ Some input → IsMetered choice before (script_of input) meter

-- *What a replay comes to*
abbrev pub Finished : (Topology → Policy) → (account body : Script → List Placed → List ℕ) → (start : Option (List ℕ)) → (before : Meter) → (from : Option (List ℕ)) → Result Bool LineFault → (left written : Option (List ℕ)) → (meter : Meter) → Type 0
Finished choice account body start before from (Ok refused) left written meter = IsDone choice account from left start written before meter refused
Finished choice account body start before from (Err fault) left written meter = IsLeft fault account body from left start written
