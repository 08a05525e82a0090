-- Where a replay stands in its input. No claim needs this file.

use Rattle.std.specs.Prelude.{◌≡◌, ℕ, ◌+◌, ◌-◌, ◌^◌, ◌<◌, ◌≤◌, ◌==◌, ◌++◌, Bool, true, false, List, [], ◌∷◌, length, slice_get, Option, None, Result, Ok, Err}
use Rattle.std.specs.Option.{option_map_or}
use Rattle.std.specs.Io.KnownBytes.{Consumes, IsAtEnd}
use Rattle.lab_io.specs.Lines.{feed}
use Rattle.lab_io.specs.Report.{IsPut, Writer}
use Rattle.lab_text.specs.Lines.{lines_of}
use Rattle.port_model.specs.Setup.{Policy}
use Rattle.world_model.specs.Controller.{Controller}
use Rattle.world_model.specs.Topology.{Topology}
use Rattle.world_model.specs.World.{opened}
use Rattle.script_model.specs.declared.refusal.Refused.{Refused}
use Rattle.script_model.specs.Limits.{input_limit}
use Rattle.script_model.specs.Reading.{line_says}
use Rattle.script_model.specs.Script.{Script, script_of}
use Rattle.script_model.specs.State.{ScriptState}
use Rattle.network_run.specs.telling_model.Placed.{Placed, placed_of}
use Rattle.network_run.specs.telling_model.Tale.{Tale}
use Rattle.world.specs.declared.counts.Meter.{Meter}
use Rattle.lab_io.specs.declared.stop.Stop.{Stop}
use Rattle.lab_io.specs.declared.stop.Stop.TheVariants as stop
use Rattle.lab_io.specs.Puts.{StopsIn}
use Rattle.network_run.specs.Telling.{meter_behind}
use Rattle.network_replay.specs.Along as along
use Rattle.network_replay.specs.Along.{IsAlong, IsAtLast, IsGoing}
use Rattle.line_by_line.specs.declared.fault.LineFault.{LineFault}
use Rattle.line_by_line.specs.declared.fault.LineFault.TheVariants.{Read, Write, OutOfMemory}
use Rattle.script_replay.specs.declared.script_run.ScriptRun.{ScriptRun}
use Rattle.script_replay.specs.declared.script_run.Step.{Step}
use Rattle.script_replay.specs.declared.script_run.Step.TheVariants.{Goes, Ends}
use Rattle.script_replay.specs.Report.{AreWholeLines, IsReadOut, telling_by}

-- nothing is read
pub record IsBegun {C T : Type 0} (run : ScriptRun C T) : Type 0 where
  pub held : run.reader.held ≡ []
  pub given : run.reader.given ≡ 0
  pub is_open : run.reader.is_ended ≡ true → ⊥
  pub writer : run.told.writer ≡ record { held = []; room = 65536 }
  pub replay : along.IsBegun run.replay

-- the counts of the lines taken are those of the reader
pub record IsCounted {C T : Type 0} (run : ScriptRun C T) : Type 0 where
  pub octets : run.replay.state.octets ≡ run.reader.given
  pub lines : run.replay.state.lines ≤ run.reader.given
  pub low : run.reader.given < input_limit

-- whole lines were taken, whatever octets follow; the source has these octets left, where it tells them
pub record IsAtLine {C T S : Type 0} (seen : C → Controller) (known : T → S) (tale : Tale S) (choice : Topology → Policy) (first : Writer) (start : Option (List ℕ)) (before : Meter) (from : Option (List ℕ))
    (run : ScriptRun C T) (left written : Option (List ℕ)) (meter : Meter) : Type 0 where
  pub lines : List (List ℕ)
  pub given : List ℕ
  pub read : Consumes from left (given ++ run.reader.held)
  pub split : (others : List ℕ) → lines_of (given ++ others) ≡ lines ++ lines_of others
  pub size : length given ≡ run.reader.given
  pub ended : run.reader.is_ended ≡ true → IsAtEnd left
  pub along : IsAlong seen known tale choice line_says first start before lines run.replay run.told written meter

-- the script is at its end, or something in it is refused
pub record IsSettled {C T S : Type 0} (seen : C → Controller) (tale : Tale S) (choice : Topology → Policy) (first : Writer) (start : Option (List ℕ)) (before : Meter) (from : Option (List ℕ)) (refused : Option Refused)
    (run : ScriptRun C T) (left written : Option (List ℕ)) (meter : Meter) : Type 0 where
  pub input : List ℕ
  pub is_read : IsReadOut from left input
  pub at_end : refused ≡ None → IsAtEnd left
  pub last : IsAtLast seen tale choice first start before (script_of input) (placed_of input) refused run.replay run.told.writer written meter

-- a read failed in the midst of a line
pub record IsInMidst (body : Script → List Placed → List ℕ) (first : Writer) (start : Option (List ℕ)) (from : Option (List ℕ)) (writer : Writer) (left written : Option (List ℕ)) : Type 0 where
  pub whole : List ℕ
  pub rest : List ℕ
  pub lines : AreWholeLines from left whole rest
  pub no_line : feed rest ≡ length rest
  pub accepted : (script_of whole).refused ≡ None
  pub put : IsPut first writer start written (body (script_of whole) (placed_of whole))

-- the lines of records stopped
pub record IsStopped (body : Script → List Placed → List ℕ) (first : Writer) (start : Option (List ℕ)) (from : Option (List ℕ)) (stop : Stop) (writer : Writer) (left written : Option (List ℕ)) : Type 0 where
  pub whole : List ℕ
  pub rest : List ℕ
  pub lines : AreWholeLines from left whole rest
  pub put : StopsIn stop first writer start written (body (script_of whole) (placed_of whole))

-- what a fault leaves
abbrev pub Halts : (body : Script → List Placed → List ℕ) → Writer → Option (List ℕ) → Option (List ℕ) → LineFault → Writer → (left written : Option (List ℕ)) → Type 0
Halts body first start from Read writer left written = IsInMidst body first start from writer left written
Halts body first start from Write writer left written = IsStopped body first start from stop.Failed writer left written
Halts body first start from (OutOfMemory error) writer left written = IsStopped body first start from (stop.OutOfMemory error) writer left written

abbrev pub Advances : {C T S : Type 0} → (C → Controller) → (T → S) → Tale S → (Topology → Policy) → Writer → Option (List ℕ) → Meter → Option (List ℕ) → Result Step LineFault → ScriptRun C T → (left written : Option (List ℕ)) → Meter → Type 0
Advances seen known tale choice first start before from (Ok Goes) run left written meter = IsAtLine seen known tale choice first start before from run left written meter
Advances seen known tale choice first start before from (Ok (Ends refused)) run left written meter = IsSettled seen tale choice first start before from refused run left written meter
Advances seen known tale choice first start before from (Err fault) run left written meter = Halts (telling_by tale choice) first start from fault run.told.writer left written

-- the script was read to where it ends
abbrev pub Finishes : {C T S : Type 0} → (C → Controller) → (T → S) → Tale S → (Topology → Policy) → Writer → Option (List ℕ) → Meter → Option (List ℕ) → Result (Option Refused) LineFault → ScriptRun C T → (left written : Option (List ℕ)) → Meter → Type 0
Finishes seen known tale choice first start before from (Ok refused) run left written meter = IsSettled seen tale choice first start before from refused run left written meter
Finishes seen known tale choice first start before from (Err fault) run left written meter = Halts (telling_by tale choice) first start from fault run.told.writer left written

-- and told whole, though the end of the report may be held
pub record IsTold (choice : Topology → Policy) (account : Script → List Placed → List ℕ) (first : Writer) (start : Option (List ℕ)) (before : Meter) (from : Option (List ℕ)) (refused : Option Refused)
    (writer : Writer) (left written : Option (List ℕ)) (meter : Meter) : Type 0 where
  pub input : List ℕ
  pub is_read : IsReadOut from left input
  pub at_end : refused ≡ None → IsAtEnd left
  pub put : IsPut first writer start written (account (script_of input) (placed_of input))
  pub outcome : (script_of input).refused ≡ refused
  pub meter_is : meter ≡ meter_behind before (script_of input).topology (opened (choice (script_of input).topology) (script_of input).topology) (script_of input).events

-- or it stopped, in the lines of records or in the last line
pub data Stops (account body : Script → List Placed → List ℕ) (first : Writer) (start : Option (List ℕ)) (from : Option (List ℕ)) (stop : Stop) (writer : Writer) (left written : Option (List ℕ)) : Type 0 where
  in_lines : IsStopped body first start from stop writer left written → Stops account body first start from stop writer left written
  at_last : (input : List ℕ) → IsReadOut from left input → StopsIn stop first writer start written (account (script_of input) (placed_of input)) → Stops account body first start from stop writer left written

abbrev pub Tells : (Topology → Policy) → (account body : Script → List Placed → List ℕ) → Writer → Option (List ℕ) → Meter → Option (List ℕ) → Result (Option Refused) LineFault → Writer → (left written : Option (List ℕ)) → Meter → Type 0
Tells choice account body first start before from (Ok refused) writer left written meter = IsTold choice account first start before from refused writer left written meter
Tells choice account body first start before from (Err Read) writer left written meter = IsInMidst body first start from writer left written
Tells choice account body first start before from (Err Write) writer left written meter = Stops account body first start from stop.Failed writer left written
Tells choice account body first start before from (Err (OutOfMemory error)) writer left written meter = Stops account body first start from (stop.OutOfMemory error) writer left written

-- *The next line* stands in the buffer, and is held no longer: it has its end; or it is all that was left
abbrev pub ends_line : List ℕ → Bool
ends_line line = option_map_or (λ octet. octet == 10) (slice_get line (length line - 1)) false

abbrev pub HasShape : (has_end : Bool) → (line held : List ℕ) → (left : Option (List ℕ)) → Type 0
HasShape true line held left = (others : List ℕ) → lines_of (line ++ others) ≡ line ∷ lines_of others
HasShape false line held left = (lines_of line ≡ line ∷ []) × (held ≡ []) × IsAtEnd left

pub record HasNext {C T S : Type 0} (seen : C → Controller) (known : T → S) (tale : Tale S) (choice : Topology → Policy) (first : Writer) (start : Option (List ℕ)) (before : Meter) (from : Option (List ℕ)) (line : List ℕ)
    (run : ScriptRun C T) (left written : Option (List ℕ)) (meter : Meter) : Type 0 where
  pub lines : List (List ℕ)
  pub given : List ℕ
  pub read : Consumes from left ((given ++ line) ++ run.reader.held)
  pub split : (others : List ℕ) → lines_of (given ++ others) ≡ lines ++ lines_of others
  pub size : length given + length line ≡ run.reader.given
  pub low : run.reader.given < input_limit
  pub shape : HasShape (ends_line line) line run.reader.held left
  pub ended : run.reader.is_ended ≡ true → IsAtEnd left
  pub along : IsAlong seen known tale choice line_says first start before lines run.replay run.told written meter

-- a line of this length counts
abbrev pub HasLineRoom : ScriptState → (len : ℕ) → Type 0
HasLineRoom state len = (state.octets + len < 2 ^ 32) × (state.lines + 1 < 2 ^ 32)
