-- a script is a run, line by line

use Rattle.std.proofs.Common.{◌≡◌, ℕ, suc, ◌+◌, ◌*◌, ◌≤◌, ◌<◌, Bool, true, false, List, [], ◌∷◌, ◌++◌, length, length-append, take, map, Option, None, Some, Result, Ok, Err, refl, sym, ◌∙◌, ap, subst, arith, append_assoc, append-nil, ◌⊎◌, inl, inr, nat_le, option_and_then}
use Rattle.std.specs.Prelude.{◌||◌, nat_lt}
use Rattle.std.specs.List.{repeat}
use Rattle.std.proofs.lemmas.Bool.Decides.{nat_tests}
use Rattle.lab_text.specs.Line.{text_fault, line_fault}
use Rattle.lab_text.specs.Lines.{lines_of}
use Rattle.lab_text.specs.Text.{line_of}
use Rattle.lab_text.specs.Words.{line_text}
use Rattle.law_run_facts.specs.ordered_lists.Ordered.{Every}
use Rattle.world_model.specs.Words.{Policy, Topology, empty_topology, policy_of, with_line, IsTopology, IsEvent, World, Site, tick_of_all, round, world_after, IsRun}
use Rattle.world_model.specs.network_model.declared.event.Event.{Event}
use Rattle.world_model.specs.network_model.declared.line.TopologyLine.{TopologyLine}
use Rattle.world_model.specs.World.{opened}
use Rattle.world_model.proofs.Kept.{line_keeps, empty_is}
use Rattle.law_run_facts.specs.law_world_pace.Running.{AreNumbered}
use Rattle.law_run_facts.specs.law_world_pace.Running.{AreRunning}
use Rattle.script_model.specs.declared.line.Line.{Line}
use Rattle.script_model.specs.declared.line.Line.TheVariants.{Blank, Topology as TopologyIs, Event as EventComes, TickAll, Run}
use Rattle.script_model.specs.declared.refusal.LineRefusal.{LineRefusal}
use Rattle.script_model.specs.Limits.{input_limit}
use Rattle.script_model.specs.State.{ScriptState, nothing_read}
use Rattle.script_model.specs.Reading.{fault_name, says_by, text_says, line_says, string_says, state_after}
use Rattle.script_model.specs.Sayable.{IsSayable}
use Rattle.script_model.specs.Script.{Script, script_ended, script_from, script_by, script_of, events_of, opened_of}
use Rattle.script_model.specs.declared.refusal.DocumentRefusal.{DocumentRefusal}
use Rattle.script_model.specs.declared.refusal.Refused.{Refused}
use Rattle.script_model.specs.declared.refusal.Refused.TheVariants.{Document}
use Rattle.script_model.specs.Documents.{Lines, document_of, document_script, behind_rules, refused_script, rule_count, rule_refused, rules_read, script_of_lines as document_by_rules, script_in, script_texts}
use Rattle.script_model.specs.Drill.{drill_words, drill_script}
use Rattle.script_model.proofs.ReadLines.{text_is}
use Rattle.network_replay.specs.Along.{HasBegun}
use Rattle.network_replay.specs.Lines as lines
use Rattle.network_replay.specs.Lines.{has_events}
use Rattle.network_replay.proofs.Tables.{tables_of, opened_tables}
use Rattle.network_replay.proofs.Events.{event_meant}
use Rattle.network_replay.proofs.Opening.{opened_runs, opened_size}
use Rattle.network_replay.proofs.Taking.{never_late}
use Rattle.network_replay.proofs.Course.{few_next, tables_next}
use Rattle.law_run_facts.proofs.Steps.{pasts_are_whole, run_of_none}
use Rattle.law_run_facts.proofs.Rooms.{IsGoing, run_goes}
use Rattle.law_script_runs.specs.Runs.{IsScriptRun}
use Rattle.law_script_runs.proofs.Lines.{IsLow, all_of, line_low, ticks_meant, rounds_meant}
use Rattle.law_script_runs.proofs.Runs.{after_more, all_come, run_more}

-- *The counts* of lines are within their limits
record AreLow (lines rounds ticks : ℕ) : Type 0 where
  lines_low : lines ≤ 200000
  rounds_low : rounds ≤ 100000
  ticks_low : ticks ≤ 2000000

not_over : (limit n : ℕ) → nat_lt limit n ≡ false → n ≤ limit
not_over limit n e = grind (arith, nat_tests, e)

neither : (a b : Bool) → (a || b) ≡ false → (a ≡ false) × (b ≡ false)
neither true b e = absurd (cc e)
neither false b e = (refl, e)

are_low : (a b c : ℕ) → (nat_lt 200000 a || (nat_lt 100000 b || nat_lt 2000000 c)) ≡ false → AreLow a b c
are_low a b c e =
    let one = neither (nat_lt 200000 a) (nat_lt 100000 b || nat_lt 2000000 c) e in
    let two = neither (nat_lt 100000 b) (nat_lt 2000000 c) one.1 in
    record { lines_low = not_over 200000 a one.0; rounds_low = not_over 100000 b two.0; ticks_low = not_over 2000000 c two.1 }

numbered_of : (t : Topology) (events number : ℕ) (sites : List Site) → AreRunning t events number sites → AreNumbered number sites
numbered_of t events number [] h = tt
numbered_of t events number (site ∷ sites) h = (h.0.node, numbered_of t events (suc number) sites h.1)

-- *What has been said* so far is a run, and the tables are those of its nodes
record AreSaid (state : ScriptState) (events : List Event) : Type 0 where
  topology_is : IsTopology state.topology
  addresses : Every IsLow state.topology.nodes
  run : (policy : Policy) → IsRun policy state.topology events
  tables : (policy : Policy) → tables_of (world_after state.topology (opened policy state.topology) events) ≡ state.tables
  few : length events ≤ state.event_lines + (640 * state.rounds + state.ticks)
  low : AreLow state.event_lines state.rounds state.ticks
  begun : ((state.event_lines ≡ 0) × (events ≡ [])) ⊎ HasBegun state

nothing_said : AreSaid nothing_read []
nothing_said = record {
  topology_is = empty_is;
  addresses = tt;
  run = λ policy. run_of_none policy empty_topology empty_is;
  tables = λ policy. refl;
  few = omega arith;
  low = record { lines_low = omega arith; rounds_low = omega arith; ticks_low = omega arith };
  begun = inl (refl, refl);
}

module _ (state : ScriptState) (before : List Event) (h : AreSaid state before) (line : List ℕ) where
  abbrev t : Topology
  t = state.topology

  abbrev w : Policy → World
  w policy = world_after t (opened policy t) before

  going : (policy : Policy) → IsGoing t (w policy)
  going policy = run_goes policy t h.topology_is before

  numbered : (policy : Policy) → AreNumbered 1 (w policy).sites
  numbered policy = numbered_of t (w policy).events 1 (w policy).sites (going policy).sites

  count : (policy : Policy) → (w policy).events ≡ length before
  count policy = (pasts_are_whole policy t before).events

  tables_then : (said : Line) → has_events said ≡ true → ((policy : Policy) → lines.IsMeant t (w policy) said) → (policy : Policy)
      → tables_of (world_after t (opened policy t) (before ++ events_of t said)) ≡ (state_after state line (Ok said)).tables
  tables_then said has meant policy = ap tables_of (after_more t (opened policy t) before (events_of t said))
      ∙ tables_next state (w policy) (numbered policy) (h.tables policy) (going policy).size line said has (meant policy)

  length_both : (more : List Event) (n : ℕ) → length before + length more ≤ n → length (before ++ more) ≤ n
  length_both more n few = omega (arith, few, length-append before more)

  few_then : (said : Line) → has_events said ≡ true
      → length before + length (events_of t said) ≤ (state_after state line (Ok said)).event_lines + (640 * (state_after state line (Ok said)).rounds + (state_after state line (Ok said)).ticks)
  few_then said has = few_next state line said (length before) h.topology_is.few_nodes has h.few

  room : (lines rounds ticks n : ℕ) → AreLow lines rounds ticks → n ≤ lines + (640 * rounds + ticks) → n < 100000000
  room lines rounds ticks n low few = omega (arith, few, low.lines_low, low.rounds_low, low.ticks_low)

  -- *A line of events*
  event_said : (event : Event) → IsSayable state (EventComes event) → AreSaid (state_after state line (Ok (EventComes event))) (before ++ events_of t (EventComes event))
  event_said event can =
      let low : AreLow _ _ _ = are_low _ _ _ can.2 in
      let few = few_then (EventComes event) refl in
      let meant : (policy : Policy) → IsEvent t (w policy) event = λ policy. event_meant state (w policy) (numbered policy) (h.tables policy) (going policy).size event can in
      record {
        topology_is = h.topology_is;
        addresses = h.addresses;
        run = λ policy. run_more policy t (event ∷ []) before (h.run policy) (record { few = (let all : length before + 1 < 100000000 = room _ _ _ (length before + 1) low few in omega (arith, all, count policy)); meant = meant policy }, tt);
        tables = tables_then (EventComes event) refl meant;
        few = length_both (event ∷ []) _ few;
        low = low;
        begun = inr (record { event_lines = omega arith; has_line = refl });
      }

  ticks_said : IsSayable state TickAll → AreSaid (state_after state line (Ok TickAll)) (before ++ events_of t TickAll)
  ticks_said can =
      let low : AreLow _ _ _ = are_low _ _ _ can in
      let few = few_then TickAll refl in
      record {
        topology_is = h.topology_is;
        addresses = h.addresses;
        run = λ policy. run_more policy t (tick_of_all (opened_of t)) before (h.run policy)
            (all_come t (tick_of_all (opened_of t)) (w policy) (ticks_meant t (opened_of t) (opened_runs (policy_of t) t) (opened_size (policy_of t) t))
            (let all : length before + length (tick_of_all (opened_of t)) < 100000000 = room _ _ _ _ low few in omega (arith, all, count policy)));
        tables = tables_then TickAll refl (λ policy. tt);
        few = length_both (tick_of_all (opened_of t)) _ few;
        low = low;
        begun = inr (record { event_lines = omega arith; has_line = refl });
      }

  rounds_said : (rounds : ℕ) → IsSayable state (Run rounds) → AreSaid (state_after state line (Ok (Run rounds))) (before ++ events_of t (Run rounds))
  rounds_said rounds can =
      let low : AreLow _ _ _ = are_low _ _ _ can.1 in
      let few = few_then (Run rounds) refl in
      record {
        topology_is = h.topology_is;
        addresses = h.addresses;
        run = λ policy. run_more policy t (repeat rounds (round (opened_of t))) before (h.run policy)
            (all_come t (repeat rounds (round (opened_of t))) (w policy) (rounds_meant t rounds (opened_of t) (opened_runs (policy_of t) t) (opened_size (policy_of t) t))
            (let all : length before + length (repeat rounds (round (opened_of t))) < 100000000 = room _ _ _ _ low few in omega (arith, all, count policy)));
        tables = tables_then (Run rounds) refl (λ policy. tt);
        few = length_both (repeat rounds (round (opened_of t))) _ few;
        low = low;
        begun = inr (record { event_lines = omega arith; has_line = refl });
      }

  -- *A topology line* stands before all events
  topology_said : (topology_line : TopologyLine) → IsSayable state (TopologyIs topology_line) → AreSaid (state_after state line (Ok (TopologyIs topology_line))) (before ++ [])
  topology_said topology_line can = by h.begun
    where
      is : IsTopology (with_line t topology_line)
      is = line_keeps t topology_line h.topology_is can.0.0 can.2

      by : ((state.event_lines ≡ 0) × (before ≡ [])) ⊎ HasBegun state → AreSaid (state_after state line (Ok (TopologyIs topology_line))) (before ++ [])
      by (inr begun) = absurd (never_late state topology_line begun can)
      by (inl first) = subst (λ (es : List Event). AreSaid (state_after state line (Ok (TopologyIs topology_line))) (es ++ [])) (sym first.1) (record {
        topology_is = is;
        addresses = line_low t topology_line can.0.1 h.addresses;
        run = λ policy. run_of_none policy (with_line t topology_line) is;
        tables = λ policy. opened_tables policy (with_line t topology_line);
        few = omega arith;
        low = h.low;
        begun = inl (first.0, refl);
      })

  line_said : (said : Line) → IsSayable state said → AreSaid (state_after state line (Ok said)) (before ++ events_of t said)
  line_said Blank can = subst (AreSaid (state_after state line (Ok Blank))) (sym (append-nil before)) (record {
    topology_is = h.topology_is;
    addresses = h.addresses;
    run = h.run;
    tables = h.tables;
    few = h.few;
    low = h.low;
    begun = still h.begun;
  })
    where
      still : ((state.event_lines ≡ 0) × (before ≡ [])) ⊎ HasBegun state → ((state.event_lines ≡ 0) × (before ≡ [])) ⊎ HasBegun (state_after state line (Ok Blank))
      still (inl first) = inl first
      still (inr begun) = inr (record { event_lines = begun.event_lines; has_line = begun.has_line })
  line_said (TopologyIs topology_line) can = topology_said topology_line can
  line_said (EventComes event) can = event_said event can
  line_said TickAll can = ticks_said can
  line_said (Run rounds) can = rounds_said rounds can

-- *Whatever reads its lines*, if what is read can be said
abbrev ReadsSayable : (ScriptState → List ℕ → Result Line LineRefusal) → Type 0
ReadsSayable says = (state : ScriptState) (line : List ℕ) (said : Line) → says state line ≡ Ok said → IsSayable state said

record Goes (before : List Event) (script : Script) : Type 0 where
  addresses : Every IsLow script.topology.nodes
  run : (policy : Policy) → IsRun policy script.topology (before ++ script.events)

ends : (state : ScriptState) (before : List Event) → AreSaid state before → (refused : _) → Goes before (script_ended state refused)
ends state before h refused = record { addresses = h.addresses; run = λ policy. subst (IsRun policy state.topology) (sym (append-nil before)) (h.run policy) }

by_goes : (state : ScriptState) (before : List Event) (line : List ℕ) (onward : ScriptState → Script) (answer : Result Line LineRefusal) → AreSaid state before
    → ((said : Line) → answer ≡ Ok said → IsSayable state said) → ((next : ScriptState) (events : List Event) → AreSaid next events → Goes events (onward next))
    → Goes before (script_by state line onward answer)
by_goes state before line onward (Err name) h can rest = ends state before h _
by_goes state before line onward (Ok said) h can rest =
    let now : ScriptState = state_after state line (Ok said) in
    let g : Goes (before ++ events_of state.topology said) (onward now) = rest now (before ++ events_of state.topology said) (line_said state before h line said (can said refl)) in
    record { addresses = g.addresses; run = λ policy. subst (IsRun policy (onward now).topology) (append_assoc before (events_of state.topology said) (onward now).events) (g.run policy) }

from_goes : (says : ScriptState → List ℕ → Result Line LineRefusal) → ReadsSayable says → (texts : List (List ℕ)) (state : ScriptState) (before : List Event) → AreSaid state before
    → Goes before (script_from says state texts)
from_goes says reads [] state before h = ends state before h None
from_goes says reads (line ∷ texts) state before h = by_goes state before line (λ next. script_from says next texts) (says state line) h (reads state line)
    (λ next events said. from_goes says reads texts next events said)

script_runs : (script : Script) → Goes [] script → IsScriptRun script
script_runs script g = record { addresses = all_of IsLow script.topology.nodes g.addresses; run = g.run }

-- *Lines* of an input, and of a document
unless_refused : (refusal : Option LineRefusal) (said : Result Line LineRefusal) (line : Line) → says_by refusal said ≡ Ok line → said ≡ Ok line
unless_refused None said line e = e
unless_refused (Some name) said line e = absurd (cc)

line_reads : ReadsSayable line_says
line_reads state line said e =
    text_is state (line_text line) said (unless_refused (option_and_then fault_name (line_fault state.octets line)) (text_says state (line_text line)) said e)

string_reads : ReadsSayable string_says
string_reads state text said e = text_is state text said (unless_refused (option_and_then fault_name (text_fault text)) (text_says state text) said e)

pub scripts : (octets : List ℕ) → IsScriptRun (script_of octets)
unfolding script_of
scripts octets = script_runs (script_from line_says nothing_read (lines_of (take input_limit octets))) (from_goes line_says line_reads (lines_of (take input_limit octets)) nothing_read [] nothing_said)

no_script : (refused : Refused) → IsScriptRun (refused_script refused)
no_script refused = script_runs (refused_script refused) (record { addresses = tt; run = λ policy. run_of_none policy empty_topology empty_is })

-- the numbers of its lines don't matter
behind_run : (count : ℕ) (script : Script) → IsScriptRun script → IsScriptRun (behind_rules count script)
behind_run count script is = record { addresses = is.addresses; run = is.run }

document_by : (found : Lines) (refused : Option Refused) → IsScriptRun (document_by_rules found refused)
document_by found None =
    behind_run (rule_count found) (script_from string_says nothing_read (script_texts found))
    (script_runs (script_from string_says nothing_read (script_texts found)) (from_goes string_says string_reads (script_texts found) nothing_read [] nothing_said))
document_by found (Some refused) = no_script refused

document_in : (found : Result Lines DocumentRefusal) → IsScriptRun (script_in found)
document_in (Ok found) = document_by found (rule_refused (rules_read found))
document_in (Err name) = no_script (Document name)

pub documents : (octets : List ℕ) → IsScriptRun (document_script octets)
documents octets = document_in (document_of octets)

pub drills : (n : ℕ) → IsScriptRun (drill_script n)
unfolding drill_script
drills n = script_runs (script_from line_says nothing_read (map line_of (drill_words n))) (from_goes line_says line_reads (map line_of (drill_words n)) nothing_read [] nothing_said)
