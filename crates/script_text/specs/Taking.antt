-- What a line makes of a state

use Rattle.std.specs.Prelude.{◌≡◌, ℕ, List, None, Some, Result, Ok, Err, IsOk}
use Rattle.net_types.specs.declared.node.NodeId.{NodeId}
use Rattle.world_model.specs.Conditions.{IsNode}
use Rattle.world_model.specs.Lines.{node_named}
use Rattle.world_model.specs.Topology.{Topology}
use Rattle.script_model.specs.declared.line.Line.{Line}
use Rattle.script_model.specs.declared.refusal.LineRefusal.{LineRefusal}
use Rattle.script_model.specs.declared.refusal.LineRefusal.TheVariants.{UnknownName}
use Rattle.script_model.specs.State.{ScriptState, with_said, with_counted}
use Rattle.script_model.specs.Reading.{state_after}
use Rattle.script_text.specs.declared.fault.ReadFault.{ReadFault}
use Rattle.script_text.specs.declared.fault.ReadFault.TheVariants.{Refused, OutOfMemory}

-- what is said is what the line says, and the state behind it is the definition's; or it is refused by the same name,
-- and the state is as it was. Where memory is wanting the line isn't refused, and the state is as it was too
abbrev pub Takes : (old : ScriptState) → (said : Result Line LineRefusal) → (now : ScriptState) → Result Line ReadFault → Type 0
Takes old said now (Ok line) = (said ≡ Ok line) × (now ≡ with_said old line)
Takes old said now (Err (Refused refusal)) = (said ≡ Err refusal) × (now ≡ old)
Takes old said now (Err (OutOfMemory error)) = IsOk said × (now ≡ old)

-- the state is the definition's behind this line, said or refused; where memory is wanting the line is counted, as a
-- refused one
abbrev pub IsAfter : (old : ScriptState) → (line : List ℕ) → (now : ScriptState) → Result Line ReadFault → Type 0
IsAfter old line now (Ok said) = now ≡ state_after old line (Ok said)
IsAfter old line now (Err (Refused refusal)) = now ≡ state_after old line (Err refusal)
IsAfter old line now (Err (OutOfMemory error)) = now ≡ with_counted old line

-- the node of a name, or there is none
abbrev pub FindsNode : Topology → (name : List ℕ) → Result NodeId LineRefusal → Type 0
FindsNode topology name (Ok node) = (node_named topology name ≡ Some node) × IsNode topology node
FindsNode topology name (Err refusal) = (node_named topology name ≡ None) × (refusal ≡ UnknownName)
