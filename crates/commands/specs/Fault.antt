-- The faults that end a task, and their statuses

use Rattle.std.specs.Prelude.{◌≡◌, ℕ, Bool, true, false, Result, Err}
use Rattle.lab_io.specs.Fault.{count_after}
use Rattle.net_types.specs.declared.memory.OutOfMemory.{OutOfMemory}
use Rattle.lab_io.specs.declared.transfer.InputFault.{InputFault}
use Rattle.lab_io.specs.declared.transfer.InputFault.TheVariants as input
use Rattle.line_by_line.specs.declared.fault.LineFault.{LineFault}
use Rattle.line_by_line.specs.declared.fault.LineFault.TheVariants as line
use Rattle.lab_io.specs.declared.stop.Stop.{Stop}
use Rattle.lab_io.specs.declared.stop.Stop.TheVariants as stop
use Rattle.commands.specs.declared.fault.RunFault.{RunFault}
use Rattle.commands.specs.declared.fault.RunFault.TheVariants as fault

abbrev pub no_memory : OutOfMemory → RunFault
no_memory error = fault.OutOfMemory error

abbrev pub fault_of_input : InputFault → RunFault
fault_of_input input.Failed = fault.Read
fault_of_input (input.OutOfMemory error) = fault.OutOfMemory error

abbrev pub fault_of_line : LineFault → RunFault
fault_of_line line.Read = fault.Read
fault_of_line line.Write = fault.Write
fault_of_line (line.OutOfMemory error) = fault.OutOfMemory error

abbrev pub fault_of_stop : Stop → RunFault
fault_of_stop stop.Failed = fault.Write
fault_of_stop (stop.OutOfMemory error) = fault.OutOfMemory error

abbrev pub fault_status : RunFault → ℕ
fault_status fault.Read = 3
fault_status fault.Write = 4
fault_status (fault.OutOfMemory _) = 5

-- a read, or a write, ended the task
abbrev pub read_failed : {A : Type 0} → Result A RunFault → Bool
read_failed (Err fault.Read) = true
read_failed _ = false

abbrev pub write_failed : {A : Type 0} → Result A RunFault → Bool
write_failed (Err fault.Write) = true
write_failed _ = false

-- *The outside*, as a task meets it: each fault of a source and of a sink is told, and no other; and a source that hadn't said
-- its end is never read after it
pub record MeetsOutside {A : Type 0} (result : Result A RunFault) (read_old read_new write_old write_new : ℕ) (said_end : Bool) (late_old late_new : ℕ) : Type 0 where
  pub read : read_new ≡ count_after (read_failed result) read_old
  pub write : write_new ≡ count_after (write_failed result) write_old
  pub late : said_end ≡ false → late_new ≡ late_old
