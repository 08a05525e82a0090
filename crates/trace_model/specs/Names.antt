-- The names of refusals and verdicts

use Rattle.std.specs.Prelude.{ℕ, List, codes}
use Rattle.trace_model.specs.declared.refusal.TraceRefusal.{TraceRefusal}
use Rattle.trace_model.specs.declared.refusal.TraceRefusal.TheVariants as refusal
use Rattle.trace_model.specs.declared.verdict.Breach.{Breach}
use Rattle.trace_model.specs.declared.verdict.Breach.TheVariants as breach

abbrev pub refusal_name : TraceRefusal → List ℕ
refusal_name refusal.ScriptTooLong = codes "ScriptTooLong"
refusal_name refusal.LineTooLong = codes "LineTooLong"
refusal_name refusal.BadByte = codes "BadByte"
refusal_name refusal.UnknownWord = codes "UnknownWord"
refusal_name refusal.Arity = codes "Arity"
refusal_name refusal.BadName = codes "BadName"
refusal_name refusal.BadPlace = codes "BadPlace"
refusal_name refusal.BadNumber = codes "BadNumber"
refusal_name refusal.BadChannel = codes "BadChannel"
refusal_name refusal.BadMark = codes "BadMark"
refusal_name refusal.BadHex = codes "BadHex"
refusal_name refusal.BadLength = codes "BadLength"
refusal_name refusal.BadFlow = codes "BadFlow"
refusal_name refusal.Late = codes "Late"
refusal_name refusal.PortTaken = codes "PortTaken"
refusal_name refusal.SelfLink = codes "SelfLink"
refusal_name refusal.NoLink = codes "NoLink"

abbrev pub breach_name : Breach → List ℕ
breach_name breach.Empty = codes "Empty"
breach_name breach.Reuse = codes "Reuse"
breach_name breach.Frame = codes "Frame"
breach_name breach.NoFlow = codes "NoFlow"
breach_name breach.Flow = codes "Flow"
breach_name breach.Hop = codes "Hop"
