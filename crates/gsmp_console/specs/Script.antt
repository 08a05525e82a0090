-- What a script of a console keeps of its lines, and what lines can say

use Rattle.std.specs.Prelude.{◌≡◌, ℕ, ◌+◌, ◌^◌, ◌<◌, ◌≤◌, ◌⊎◌, List, length, nat_lt, None, Some, Result, Ok, Err, if◌then◌else◌}
use Rattle.lab_text.specs.declared.line.LineFault.{LineFault}
use Rattle.console_model.specs.declared.fault.ConsoleFault.{ConsoleFault}
use Rattle.console_model.specs.declared.line.ConsoleLine.{ConsoleLine}
use Rattle.console_model.specs.declared.line.ConsoleLine.TheVariants.{Blank, Ports, Event, Run}
use Rattle.console_model.specs.Law.{CanCome}
use Rattle.console_model.specs.Lines.{ConsoleState, fault_name}

-- *What an accepted line says*: 1 to 8 ports, ends of VPI 0 at ports 1 to 8, 1 to 100,000 rounds
abbrev pub IsSayable : ConsoleLine → Type 0
IsSayable Blank = Unit {0}
IsSayable (Ports n) = (1 ≤ n) × (n ≤ 8)
IsSayable (Event event) = CanCome event
IsSayable (Run rounds) = (1 ≤ rounds) × (rounds ≤ 100000)

-- *The counts* of octets and lines are numbers of 32 bits, and stay at the greatest once there
abbrev pub at_most : (greatest n : ℕ) → ℕ
at_most greatest n = if nat_lt n greatest then n else greatest

abbrev pub counted_up_to : ConsoleState → (line : List ℕ) → ConsoleState
counted_up_to state line =
    record state {
      octets = at_most 4294967295 (state.octets + length line);
      lines = at_most 4294967295 (state.lines + 1);
    }

-- they don't come there
abbrev pub HasRoom : ConsoleState → (line : List ℕ) → Type 0
HasRoom state line = (state.octets + length line < 2 ^ 32) × (state.lines + 1 < 2 ^ 32)

-- *A refusal* by its name
abbrev pub refused_by : LineFault → ConsoleFault → Type 0
refused_by fault name = (fault_name fault ≡ Some name) ⊎ (fault_name fault ≡ None)

abbrev pub ok_as : {A B : Type 0} → (A → B) → Result A ConsoleFault → Result B ConsoleFault
ok_as view (Ok value) = Ok (view value)
ok_as view (Err fault) = Err fault
