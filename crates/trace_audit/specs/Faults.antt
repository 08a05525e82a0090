-- how an answer is told: what the definitions say, or the refusal by the same name; want of memory is free

use Rattle.std.specs.Prelude.{◌≡◌, Result, Ok, Err}
use Rattle.trace_model.specs.declared.refusal.TraceRefusal.{TraceRefusal}
use Rattle.lab_text.specs.declared.line.LineFault.{LineFault}
use Rattle.lab_text.specs.declared.line.LineFault.TheVariants as fault
use Rattle.trace_model.specs.declared.refusal.TraceRefusal.TheVariants as refusal
use Rattle.trace_model.specs.declared.verdict.Step.{Step}
use Rattle.trace_model.specs.declared.verdict.Step.TheVariants.{Good}
use Rattle.ipv4_packet.specs.Flow.{IsFlow}
use Rattle.trace_model.specs.declared.line.TraceLine.{TraceLine}
use Rattle.trace_model.specs.declared.line.TraceLine.TheVariants.{Bind}
use Rattle.trace_audit.specs.declared.fault.AuditFault.{AuditFault}
use Rattle.trace_audit.specs.declared.fault.AuditFault.TheVariants.{Refused, OutOfMemory}

abbrev pub Tells : {A : Type 0} → (says : Result A TraceRefusal) → Result A AuditFault → Type 0
Tells says (Ok value) = says ≡ Ok value
Tells says (Err (Refused refusal)) = says ≡ Err refusal
Tells says (Err (OutOfMemory error)) = Unit {0}

-- a flow that is bound is one that packets can be of
abbrev pub HasLiving : TraceLine → Type 0
HasLiving (Bind label flow) = IsFlow flow
HasLiving line = Unit {0}

-- what holds where a line is good
abbrev pub WhenGood : Result Step AuditFault → Type 0 → Type 0
WhenGood (Ok Good) holds = holds
WhenGood answer holds = Unit {0}

-- the answer to a fault of a line's text: no line of an input has the last ones
abbrev pub refused_text : LineFault → AuditFault
refused_text fault.ScriptTooLong = Refused refusal.ScriptTooLong
refused_text fault.LineTooLong = Refused refusal.LineTooLong
refused_text fault.BadByte = Refused refusal.BadByte
refused_text fault.Arity = Refused refusal.Arity
refused_text fault.BadHex = Refused refusal.BadHex
refused_text (fault.OutOfMemory error) = OutOfMemory error
