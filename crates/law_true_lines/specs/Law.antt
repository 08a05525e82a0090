-- Each line of a report is true: of each front of it, where the run is true to routing

use Rattle.std.specs.Prelude.{◌≡◌, ℕ, List, ◌++◌, slice_get, Some}
use Rattle.world_model.specs.Words.{Policy, Topology, Node, past_of, HasCauses, IsTame, Headline, IsInHarmony}
use Rattle.world_model.specs.network_model.declared.event.Event.{Event}
use Rattle.script_model.specs.Sayable.{IsName}
use Rattle.script_model.specs.Reports.{report_under, last_line}
use Rattle.script_model.specs.Script.{Script, script_of}
use Rattle.script_model.specs.Documents.{document_script}
use Rattle.script_model.specs.Drill.{drill_script}
use Rattle.truth_model.specs.Lines.{AreTrueLines}

-- *The names of nodes* are names that a script can give, which have no LF
abbrev pub HasNames : Topology → Type 0
HasNames topology = (place : ℕ) (node : Node) → slice_get topology.nodes place ≡ Some node → IsName node.name

-- *What is true of the run*: the headline, and that in its fronts before the first frame that was forged or passed its test
-- by chance nothing is refused and each frame that is broken stands beside its cause
pub record IsTrueOf (policy : Policy) (script : Script) : Type 0 where
  pub names : HasNames script.topology
  pub routing : Headline policy script.topology script.events
  pub harmony : (before after : List Event) → script.events ≡ before ++ after → IsTame (past_of policy script.topology before).records
      → IsInHarmony (past_of policy script.topology before)
  pub causes : (before after : List Event) → script.events ≡ before ++ after → IsTame (past_of policy script.topology before).records
      → HasCauses policy script.topology before

-- *The law*: each front of its report has true lines alone, wherever it ends
abbrev pub FrontsAreTrue : Type 0
FrontsAreTrue = (policy : Policy) (script : Script) → IsTrueOf policy script
    → (front rest : List ℕ) → front ++ rest ≡ report_under policy script → AreTrueLines policy script front

-- so has each front of the last line alone
abbrev pub LastLinesAreTrue : Type 0
LastLinesAreTrue = (policy : Policy) (script : Script) (front rest : List ℕ) → front ++ rest ≡ last_line policy script
    → AreTrueLines policy script front

-- *Scripts, documents and drills* give such names
abbrev pub ScriptsHaveNames : Type 0
ScriptsHaveNames = (octets : List ℕ) → HasNames (script_of octets).topology

abbrev pub DocumentsHaveNames : Type 0
DocumentsHaveNames = (octets : List ℕ) → HasNames (document_script octets).topology

abbrev pub DrillsHaveNames : Type 0
DrillsHaveNames = (drill : ℕ) → HasNames (drill_script drill).topology
