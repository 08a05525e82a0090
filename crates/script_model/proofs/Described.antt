-- the topology of a script is one that lines make

use Rattle.std.proofs.Common.{◌≡◌, ℕ, List, [], ◌∷◌, take, Option, None, Some, Result, Ok, Err, refl, option_and_then}
use Rattle.rule_model.specs.lab_text.Line.{text_fault, line_fault}
use Rattle.rule_model.specs.lab_text.Lines.{lines_of}
use Rattle.rule_model.specs.lab_text.Words.{line_text}
use Rattle.world_model.specs.Conditions.{IsTopology}
use Rattle.world_model.proofs.Kept.{line_keeps, empty_is}
use Rattle.script_model.specs.declared.line.Line.{Line}
use Rattle.script_model.specs.declared.line.Line.TheVariants.{Blank, Topology as TopologyIs, Event as EventComes, TickAll, Run}
use Rattle.script_model.specs.declared.refusal.LineRefusal.{LineRefusal}
use Rattle.script_model.specs.Limits.{input_limit}
use Rattle.script_model.specs.State.{ScriptState, nothing_read}
use Rattle.script_model.specs.Reading.{fault_name, says_by, text_says, line_says, string_says, state_after}
use Rattle.script_model.specs.Sayable.{IsSayable}
use Rattle.script_model.specs.Script.{Script, script_from, script_by, script_of}
use Rattle.script_model.specs.declared.refusal.Refused.{Refused}
use Rattle.script_model.specs.declared.refusal.DocumentRefusal.{DocumentRefusal}
use Rattle.script_model.specs.Documents.{Lines, document_of, document_script, script_of_lines as document_by_rules, script_in, script_texts, rule_refused, rules_read}
use Rattle.script_model.proofs.ReadLines.{text_is}

-- a line that is said leaves a topology
said_keeps : (state : ScriptState) (line : List ℕ) (said : Line) → IsTopology state.topology → IsSayable state said
    → IsTopology (state_after state line (Ok said)).topology
said_keeps state line Blank is can = is
said_keeps state line (TopologyIs topology_line) is can = line_keeps state.topology topology_line is can.0.0 can.2
said_keeps state line (EventComes event) is can = is
said_keeps state line TickAll is can = is
said_keeps state line (Run rounds) is can = is

-- whatever reads its lines, if what is read can be said
abbrev ReadsSayable : (ScriptState → List ℕ → Result Line LineRefusal) → Type 0
ReadsSayable says = (state : ScriptState) (line : List ℕ) (said : Line) → says state line ≡ Ok said → IsSayable state said

by_keeps : (state : ScriptState) (line : List ℕ) (onward : ScriptState → Script) (answer : Result Line LineRefusal)
    → IsTopology state.topology → ((said : Line) → answer ≡ Ok said → IsSayable state said)
    → ((next : ScriptState) → IsTopology next.topology → IsTopology (onward next).topology)
    → IsTopology (script_by state line onward answer).topology
by_keeps state line onward (Ok said) is can rest =
    rest (state_after state line (Ok said)) (said_keeps state line said is (can said refl))
by_keeps state line onward (Err name) is can rest = is

from_keeps : (says : ScriptState → List ℕ → Result Line LineRefusal) → ReadsSayable says → (state : ScriptState)
    (lines : List (List ℕ)) → IsTopology state.topology → IsTopology (script_from says state lines).topology
from_keeps says reads state [] is = is
from_keeps says reads state (line ∷ lines) is =
    by_keeps state line (λ next. script_from says next lines) (says state line) is (reads state line)
    (λ next next_is. from_keeps says reads next lines next_is)

-- lines of an input, and of a document
unless_refused : (refusal : Option LineRefusal) (said : Result Line LineRefusal) (line : Line)
    → says_by refusal said ≡ Ok line → said ≡ Ok line
unless_refused None said line e = e
unless_refused (Some name) said line e = absurd (cc)

line_reads : ReadsSayable line_says
line_reads state line said e =
    text_is state (line_text line) said
    (unless_refused (option_and_then fault_name (line_fault state.octets line)) (text_says state (line_text line)) said e)

string_reads : ReadsSayable string_says
string_reads state text said e =
    text_is state text said (unless_refused (option_and_then fault_name (text_fault text)) (text_says state text) said e)

pub script_makes : (octets : List ℕ) → IsTopology (script_of octets).topology
unfolding script_of
script_makes octets = from_keeps line_says line_reads nothing_read (lines_of (take input_limit octets)) empty_is

document_by : (lines : Lines) (refused : Option Refused) → IsTopology (document_by_rules lines refused).topology
document_by lines None = from_keeps string_says string_reads nothing_read (script_texts lines) empty_is
document_by lines (Some refused) = empty_is

document_in : (found : Result Lines DocumentRefusal) → IsTopology (script_in found).topology
document_in (Ok lines) = document_by lines (rule_refused (rules_read lines))
document_in (Err name) = empty_is

pub document_makes : (octets : List ℕ) → IsTopology (document_script octets).topology
document_makes octets = document_in (document_of octets)
