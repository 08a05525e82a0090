-- The faults that end a task

use Rattle.std.specs.Prelude.{Bool, true, false, Result, Ok, Err}
use Rattle.lab_io.specs.declared.stop.Stop.{Stop}
use Rattle.lab_io.specs.declared.stop.Stop.TheVariants as stop
use Rattle.line_by_line.specs.declared.fault.LineFault.{LineFault}
use Rattle.line_by_line.specs.declared.fault.LineFault.TheVariants as fault
use Rattle.line_by_line.specs.declared.task.Step.{Step}
use Rattle.line_by_line.specs.declared.task.Step.TheVariants.{Ends}

abbrev pub fault_of : Stop → LineFault
fault_of stop.Failed = fault.Write
fault_of (stop.OutOfMemory error) = fault.OutOfMemory error

-- a read, or a write, failed
abbrev pub is_read_fault : {A : Type 0} → Result A LineFault → Bool
is_read_fault (Ok value) = false
is_read_fault (Err fault.Read) = true
is_read_fault (Err fault.Write) = false
is_read_fault (Err (fault.OutOfMemory error)) = false

abbrev pub is_write_fault : {A : Type 0} → Result A LineFault → Bool
is_write_fault (Ok value) = false
is_write_fault (Err fault.Read) = false
is_write_fault (Err fault.Write) = true
is_write_fault (Err (fault.OutOfMemory error)) = false

-- the end of a task, among the steps to it
abbrev pub ended_as : {O : Type 0} → Result O Stop → Result (Step O) LineFault
ended_as (Ok outcome) = Ok (Ends outcome)
ended_as (Err stop) = Err (fault_of stop)
