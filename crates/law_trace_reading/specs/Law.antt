-- The trace of every script is good, and an audit of it says yes

use Rattle.std.specs.Prelude.{◌≡◌, ℕ, ◌<◌, List, [], length, None}
use Rattle.law_trace_truth.specs.lab_text.Line.{input_limit}
use Rattle.world_model.specs.Words.{Policy, IsTame, past_of}
use Rattle.law_trace_truth.specs.script_model.Script.{Script, script_of}
use Rattle.law_passing.specs.telling_model.Placed.{placed_of}
use Rattle.law_passing.specs.telling_model.Tale.{account}
use Rattle.law_trace_truth.specs.trace_model.Audit.{Outcome, Yes, audit_of}
use Rattle.tell_trace.specs.Trace.{trace_tale}
use Rattle.law_trace_truth.specs.Told.{trace_told}
use Rattle.law_trace_truth.specs.Law.{AreGood}

-- no frame of its run was forged, and none passed its test by chance
abbrev pub IsTameScript : Policy → Script → Type 0
IsTameScript policy script = IsTame (past_of policy script.topology script.events).records

-- *Line by line*
abbrev pub ScriptTracesAreGood : Type 0
ScriptTracesAreGood = (policy : Policy) (octets : List ℕ) → IsTameScript policy (script_of octets)
    → AreGood [] (trace_told policy (script_of octets).topology (script_of octets).events)

-- *Its octets*
abbrev pub trace_of_script : Policy → (octets : List ℕ) → List ℕ
trace_of_script policy octets = account trace_tale policy (script_of octets) (placed_of octets)

abbrev pub SaysYes : Outcome → Type 0
SaysYes (Yes links puts binds) = Unit {0}
SaysYes outcome = ⊥

-- *As an audit reads it*, where no line of the script was refused and the trace is no longer than an audit may read
abbrev pub TracesAreAudited : Type 0
TracesAreAudited = (policy : Policy) (octets : List ℕ) → (script_of octets).refused ≡ None → IsTameScript policy (script_of octets)
    → length (trace_of_script policy octets) < input_limit → SaysYes (audit_of (trace_of_script policy octets))
