-- scripts, documents and drills give names that a script can give

use Rattle.std.proofs.Common.{◌≡◌, ℕ, zero, suc, List, [], ◌∷◌, ◌++◌, map, take, Option, None, Some, Result, Ok, Err, refl, subst, slice_get, slice_set, option_and_then}
use Rattle.lab_text.specs.Line.{text_fault, line_fault}
use Rattle.lab_text.specs.Lines.{lines_of}
use Rattle.lab_text.specs.Text.{line_of}
use Rattle.lab_text.specs.Words.{line_text}
use Rattle.world_model.specs.Words.{NodeId, PortNo, Local, Via, Topology, Node, new_node, node_named, changed_at, with_changed, changes_named, with_link, with_route, with_line}
use Rattle.ordered_lists.specs.Ordered.{Every}
use Rattle.ordered_lists.proofs.Every.{every_join}
use Rattle.world_model.specs.network_model.declared.line.TopologyLine.{TopologyLine}
use Rattle.world_model.specs.network_model.declared.line.TopologyLine.TheVariants as lines
use Rattle.script_model.specs.declared.line.Line.{Line}
use Rattle.script_model.specs.declared.line.Line.TheVariants.{Blank, Topology as TopologyIs, Event as EventComes, TickAll, Run}
use Rattle.script_model.specs.declared.refusal.LineRefusal.{LineRefusal}
use Rattle.script_model.specs.declared.refusal.DocumentRefusal.{DocumentRefusal}
use Rattle.script_model.specs.declared.refusal.Refused.{Refused}
use Rattle.script_model.specs.Documents.{Lines, document_of, document_script, rule_refused, rules_read, script_of_lines as document_by_rules, script_in, script_texts}
use Rattle.script_model.specs.Drill.{drill_words, drill_script}
use Rattle.script_model.specs.Limits.{input_limit}
use Rattle.script_model.specs.Reading.{fault_name, says_by, text_says, line_says, string_says, state_after}
use Rattle.script_model.specs.Sayable.{IsName, IsSayable, HasTexts}
use Rattle.script_model.specs.Script.{Script, script_from, script_by, script_of}
use Rattle.script_model.specs.State.{ScriptState, nothing_read}
use Rattle.script_model.proofs.ReadLines.{text_is}
use Rattle.law_true_lines.specs.Law.{HasNames, ScriptsHaveNames, DocumentsHaveNames, DrillsHaveNames}

abbrev IsNamed : Node → Type 0
IsNamed node = IsName node.name

abbrev AreNamed : Topology → Type 0
AreNamed topology = Every IsNamed topology.nodes

some_same : {A : Type 0} (x y : A) → Some x ≡ Some y → x ≡ y
some_same x y e = cc

every_get : {A : Type 0} (P : A → Type 0) (xs : List A) (k : ℕ) (x : A) → Every P xs → slice_get xs k ≡ Some x → P x
every_get P [] k x h e = absurd (cc e)
every_get P (y ∷ xs) zero x h e = subst P (some_same y x e) h.0
every_get P (y ∷ xs) (suc k) x h e = every_get P xs k x h.1 e

every_put : {A : Type 0} (P : A → Type 0) (xs : List A) (k : ℕ) (y : A) → P y → Every P xs → Every P (slice_set xs k y)
every_put P [] k y p h = tt
every_put P (x ∷ xs) zero y p h = (p, h.1)
every_put P (x ∷ xs) (suc k) y p h = (h.0, every_put P xs k y p h.1)

-- *A topology line* leaves names
changed_named : (topology : Topology) (name : List ℕ) (change : Node → Node) → ((node : Node) → IsNamed node → IsNamed (change node)) → AreNamed topology → AreNamed (changes_named topology name change)
changed_named topology name change keeps h = by (node_named topology name)
  where
    at : (place : ℕ) (o : Option Node) → slice_get topology.nodes place ≡ o → Every IsNamed (changed_at change topology.nodes place o)
    at place None e = h
    at place (Some node) e = every_put IsNamed topology.nodes place (change node) (keeps node (every_get IsNamed topology.nodes place node h e)) h

    by : (o : Option NodeId) → Every IsNamed (with_changed topology change o).nodes
    by None = h
    by (Some node) = at _ (slice_get topology.nodes _) refl

linked_named : (topology : Topology) (first second : PortNo) (one other : Option NodeId) → AreNamed topology → AreNamed (with_link topology first second one other)
linked_named topology first second None other h = h
linked_named topology first second (Some one) None h = h
linked_named topology first second (Some one) (Some other) h = h

line_named : (topology : Topology) (line : TopologyLine) → HasTexts topology line → AreNamed topology → AreNamed (with_line topology line)
line_named topology (lines.Node name address) texts h = every_join IsNamed topology.nodes (new_node name address ∷ []) h (texts.0, tt)
line_named topology (lines.Cells name cells) texts h = changed_named topology name (λ node. record node { cells = cells }) (λ node is. is) h
line_named topology (lines.Labels name port lo hi) texts h =
    changed_named topology name (λ node. record node { ranges = node.ranges ++ record { port = port; lo = lo; hi = hi } ∷ [] }) (λ node is. is) h
line_named topology (lines.Link first second) texts h = linked_named topology first.1 second.1 (node_named topology first.0) (node_named topology second.0) h
line_named topology (lines.RouteVia name prefix port) texts h = changed_named topology name (with_route prefix (Via port)) (λ node is. is) h
line_named topology (lines.RouteLocal name prefix) texts h = changed_named topology name (with_route prefix Local) (λ node is. is) h
line_named topology (lines.PolicyXy x y) texts h = h
line_named topology lines.PolicyNever texts h = h
line_named topology (lines.Timers lifetime refresh idle) texts h = h
line_named topology (lines.Version version) texts h = h

said_named : (state : ScriptState) (line : List ℕ) (said : Line) → IsSayable state said → AreNamed state.topology → AreNamed (state_after state line (Ok said)).topology
said_named state line Blank can h = h
said_named state line (TopologyIs topology_line) can h = line_named state.topology topology_line can.0.1 h
said_named state line (EventComes event) can h = h
said_named state line TickAll can h = h
said_named state line (Run rounds) can h = h

-- *Lines*, whatever reads them, if what is read can be said
abbrev ReadsSayable : (ScriptState → List ℕ → Result Line LineRefusal) → Type 0
ReadsSayable says = (state : ScriptState) (line : List ℕ) (said : Line) → says state line ≡ Ok said → IsSayable state said

by_named : (state : ScriptState) (line : List ℕ) (onward : ScriptState → Script) (answer : Result Line LineRefusal) → AreNamed state.topology
    → ((said : Line) → answer ≡ Ok said → IsSayable state said) → ((next : ScriptState) → AreNamed next.topology → AreNamed (onward next).topology)
    → AreNamed (script_by state line onward answer).topology
by_named state line onward (Err name) h can rest = h
by_named state line onward (Ok said) h can rest = rest (state_after state line (Ok said)) (said_named state line said (can said refl) h)

from_named : (says : ScriptState → List ℕ → Result Line LineRefusal) → ReadsSayable says → (texts : List (List ℕ)) (state : ScriptState) → AreNamed state.topology
    → AreNamed (script_from says state texts).topology
from_named says reads [] state h = h
from_named says reads (line ∷ texts) state h = by_named state line (λ next. script_from says next texts) (says state line) h (reads state line)
    (λ next named. from_named says reads texts next named)

names_of : (topology : Topology) → AreNamed topology → HasNames topology
names_of topology h place node found = every_get IsNamed topology.nodes place node h found

-- those of an input, and of a document
unless_refused : (refusal : Option LineRefusal) (said : Result Line LineRefusal) (line : Line) → says_by refusal said ≡ Ok line → said ≡ Ok line
unless_refused None said line e = e
unless_refused (Some name) said line e = absurd (cc)

line_reads : ReadsSayable line_says
line_reads state line said e =
    text_is state (line_text line) said (unless_refused (option_and_then fault_name (line_fault state.octets line)) (text_says state (line_text line)) said e)

string_reads : ReadsSayable string_says
string_reads state text said e = text_is state text said (unless_refused (option_and_then fault_name (text_fault text)) (text_says state text) said e)

pub scripts : ScriptsHaveNames
unfolding script_of
scripts octets = names_of (script_of octets).topology (from_named line_says line_reads (lines_of (take input_limit octets)) nothing_read tt)

document_by : (found : Lines) (refused : Option Refused) → AreNamed (document_by_rules found refused).topology
document_by found None = from_named string_says string_reads (script_texts found) nothing_read tt
document_by found (Some refused) = tt

document_in : (found : Result Lines DocumentRefusal) → AreNamed (script_in found).topology
document_in (Ok found) = document_by found (rule_refused (rules_read found))
document_in (Err name) = tt

pub documents : DocumentsHaveNames
documents octets = names_of (document_script octets).topology (document_in (document_of octets))

pub drills : DrillsHaveNames
unfolding drill_script
drills n = names_of (drill_script n).topology (from_named line_says line_reads (map line_of (drill_words n)) nothing_read tt)
