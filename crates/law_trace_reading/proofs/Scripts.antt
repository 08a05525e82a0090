-- no port has two links in what lines make of a network

use Rattle.std.proofs.Common.{◌≡◌, ℕ, zero, suc, Bool, true, false, ◌||◌, List, [], ◌∷◌, ◌++◌, take, append_assoc, append-nil, is_some, Option, None, Some, Result, Ok, Err, refl, sym, subst, slice_get, option_and_then, All, arith, if◌then◌else◌}
use Rattle.law_trace_truth.specs.lab_text.Forms.{is_name}
use Rattle.law_trace_truth.specs.lab_text.Line.{line_fault}
use Rattle.law_trace_truth.specs.lab_text.Lines.{lines_of}
use Rattle.law_trace_truth.specs.lab_text.Words.{line_text}
use Rattle.world_model.specs.Words.{NodeId, PortNo, Local, Via, Topology, Node, Link, peer_among, node_named, is_linked, with_changed, changes_named, with_link, with_route, with_line, line_refusal, link_refusal, of_named}
use Rattle.world_model.specs.network_model.declared.line.TopologyLine.{TopologyLine}
use Rattle.world_model.specs.network_model.declared.line.TopologyLine.TheVariants as lines
use Rattle.world_model.specs.network_model.declared.link.LinkEnd.{LinkEnd}
use Rattle.world_model.specs.network_model.declared.refusal.TopologyRefusal.{TopologyRefusal}
use Rattle.world_model.specs.network_model.declared.refusal.TopologyRefusal.TheVariants.{SelfLink, PortTaken}
use Rattle.world_model.specs.Topology.{peer_of}
use Rattle.law_trace_truth.specs.script_model.declared.line.Line.{Line}
use Rattle.law_trace_truth.specs.script_model.declared.line.Line.TheVariants.{Blank, Topology as TopologyIs, Event as EventComes, TickAll, Run}
use Rattle.law_trace_truth.specs.script_model.declared.refusal.LineRefusal.{LineRefusal}
use Rattle.law_trace_truth.specs.script_model.Limits.{input_limit}
use Rattle.law_trace_truth.specs.script_model.Reading.{fault_name, says_by, text_says, line_says, state_after}
use Rattle.law_trace_truth.specs.script_model.Sayable.{IsSayable}
use Rattle.law_trace_truth.specs.script_model.Script.{Script, script_from, script_by, script_of}
use Rattle.law_trace_truth.specs.script_model.State.{ScriptState, nothing_read}
use Rattle.law_trace_truth.proofs.script_model.ReadLines.{text_is}
use Rattle.law_trace_truth.specs.Law.{HasLinksOnce, HasNames}

-- *Links*, each free behind those before it
abbrev IsFree : List Link → Link → Type 0
IsFree before link = (peer_among link.first before ≡ None) × (peer_among link.second before ≡ None)

abbrev AreFree : (before links : List Link) → Type 0
AreFree before [] = Unit {0}
AreFree before (link ∷ links) = IsFree before link × AreFree (before ++ link ∷ []) links

free_push : (before links : List Link) (link : Link) → AreFree before links → IsFree (before ++ links) link → AreFree before (links ++ link ∷ [])
free_push before [] link all free = (subst (λ (ls : List Link). IsFree ls link) (append-nil before) free, tt)
free_push before (first ∷ links) link all free = (all.0, free_push (before ++ first ∷ []) links link all.1 (subst (λ (ls : List Link). IsFree ls link) (sym (append_assoc before (first ∷ []) links)) free))

free_at : (before front rest : List Link) (link : Link) → AreFree before (front ++ link ∷ rest) → IsFree (before ++ front) link
free_at before [] rest link all = subst (λ (ls : List Link). IsFree ls link) (sym (append-nil before)) all.0
free_at before (first ∷ front) rest link all = subst (λ (ls : List Link). IsFree ls link) (append_assoc before (first ∷ []) front) (free_at (before ++ first ∷ []) front rest link all.1)

once_of : (topology : Topology) → AreFree [] topology.links → HasLinksOnce topology
once_of topology all before after link split = free_at [] before after link (subst (AreFree []) split all)

-- *A line* that is not refused leaves them so
abbrev LinksFree : Topology → Type 0
LinksFree topology = AreFree [] topology.links

changed_same : (topology : Topology) (change : Node → Node) (o : Option NodeId) → (with_changed topology change o).links ≡ topology.links
changed_same topology change None = refl
changed_same topology change (Some node) = refl

changed_free : (topology : Topology) (name : List ℕ) (change : Node → Node) → LinksFree topology → LinksFree (changes_named topology name change)
changed_free topology name change h = subst (AreFree []) (sym (changed_same topology change (node_named topology name))) h

not_some : (o : Option LinkEnd) → is_some o ≡ false → o ≡ None
not_some None e = refl
not_some (Some x) e = absurd (cc e)

unlinked : (a b : Bool) → a || b ≡ false → (a ≡ false) × (b ≡ false)
unlinked true b e = absurd (cc e)
unlinked false b e = (refl, e)

not_first : {rest : Option TopologyRefusal} (test : Bool) (name : TopologyRefusal) → (if test then Some name else rest) ≡ None → (test ≡ false) × (rest ≡ None)
not_first true name e = absurd (cc e)
not_first false name e = (refl, e)

linked_free : (topology : Topology) (first second : PortNo) (one other : Option NodeId) → of_named (λ a. of_named (link_refusal topology first second a) other) one ≡ None
    → LinksFree topology → LinksFree (with_link topology first second one other)
linked_free topology first second None other e h = h
linked_free topology first second (Some one) None e h = h
linked_free topology first second (Some one) (Some other) e h =
    let apart = not_first _ SelfLink e in
    let taken = not_first _ PortTaken apart.1 in
    let free = unlinked (is_linked topology one first) (is_linked topology other second) taken.0 in
    free_push [] topology.links (record { first = record { node = one; port = first }; second = record { node = other; port = second } }) h
    (not_some (peer_of topology one first) free.0, not_some (peer_of topology other second) free.1)

line_free : (topology : Topology) (line : TopologyLine) → line_refusal topology line ≡ None → LinksFree topology → LinksFree (with_line topology line)
line_free topology (lines.Node name address) e h = h
line_free topology (lines.Cells name cells) e h = changed_free topology name (λ node. record node { cells = cells }) h
line_free topology (lines.Labels name port lo hi) e h = changed_free topology name (λ node. record node { ranges = node.ranges ++ record { port = port; lo = lo; hi = hi } ∷ [] }) h
line_free topology (lines.Link first second) e h = linked_free topology first.1 second.1 (node_named topology first.0) (node_named topology second.0) e h
line_free topology (lines.RouteVia name prefix port) e h = changed_free topology name (with_route prefix (Via port)) h
line_free topology (lines.RouteLocal name prefix) e h = changed_free topology name (with_route prefix Local) h
line_free topology (lines.PolicyXy x y) e h = h
line_free topology lines.PolicyNever e h = h
line_free topology (lines.Timers lifetime refresh idle) e h = h
line_free topology (lines.Version version) e h = h

said_free : (state : ScriptState) (line : List ℕ) (said : Line) → IsSayable state said → LinksFree state.topology → LinksFree (state_after state line (Ok said)).topology
said_free state line Blank can h = h
said_free state line (TopologyIs topology_line) can h = line_free state.topology topology_line can.2 h
said_free state line (EventComes event) can h = h
said_free state line TickAll can h = h
said_free state line (Run rounds) can h = h

-- *Lines of a script*
by_free : (state : ScriptState) (line : List ℕ) (onward : ScriptState → Script) (answer : Result Line LineRefusal) → LinksFree state.topology
    → ((said : Line) → answer ≡ Ok said → IsSayable state said) → ((next : ScriptState) → LinksFree next.topology → LinksFree (onward next).topology)
    → LinksFree (script_by state line onward answer).topology
by_free state line onward (Err name) h can rest = h
by_free state line onward (Ok said) h can rest = rest (state_after state line (Ok said)) (said_free state line said (can said refl) h)

unless_refused : (refusal : Option LineRefusal) (said : Result Line LineRefusal) (line : Line) → says_by refusal said ≡ Ok line → said ≡ Ok line
unless_refused None said line e = e
unless_refused (Some name) said line e = absurd (cc)

line_reads : (state : ScriptState) (line : List ℕ) (said : Line) → line_says state line ≡ Ok said → IsSayable state said
line_reads state line said e =
    text_is state (line_text line) said (unless_refused (option_and_then fault_name (line_fault state.octets line)) (text_says state (line_text line)) said e)

from_free : (texts : List (List ℕ)) (state : ScriptState) → LinksFree state.topology → LinksFree (script_from line_says state texts).topology
from_free [] state h = h
from_free (line ∷ texts) state h = by_free state line (λ next. script_from line_says next texts) (line_says state line) h (line_reads state line) (λ next free. from_free texts next free)

pub scripts_once : (octets : List ℕ) → HasLinksOnce (script_of octets).topology
unfolding script_of
scripts_once octets = once_of (script_of octets).topology (from_free (lines_of (take input_limit octets)) nothing_read tt)

-- *Names* by their places
pub names_by_place : (topology : Topology) → ((place : ℕ) (node : Node) → slice_get topology.nodes place ≡ Some node → is_name node.name ≡ true) → HasNames topology
names_by_place topology each = by topology.nodes each
  where
    by : (nodes : List Node) → ((place : ℕ) (node : Node) → slice_get nodes place ≡ Some node → is_name node.name ≡ true) → All (λ (node : Node). is_name node.name ≡ true) nodes
    by [] f k d low = absurd (omega (arith, low))
    by (node ∷ nodes) f zero d low = f 0 node refl
    by (node ∷ nodes) f (suc k) d low = by nodes (λ place n e. f (suc place) n e) k d (omega (arith, low))
