-- the tables and the counts follow the lines

use Rattle.std.proofs.Common.{◌≡◌, ◌∙◌, ℕ, ◌+◌, ◌-◌, ◌<◌, ◌≤◌, ◌||◌, Bool, true, false, List, [], length, nat_lt, Option, None, Some, Result, Ok, refl, sym, ap, subst, arith}
use Rattle.std.specs.List.{position}
use Rattle.std.specs.Option.{option_map, option_and_then}
use Rattle.std.proofs.lemmas.Bool.Decides.{nat_tests}
use Rattle.std.proofs.lemmas.List.{length-map}
use Rattle.std.proofs.lemmas.List.Quantifiers.{position-Some}
use Rattle.world_model.proofs.Lists.{length_set}
use Rattle.world_model.proofs.Kept.{line_keeps, empty_is}
use Rattle.net_types.specs.declared.node.NodeId.{NodeId}
use Rattle.ipv4_forward.specs.declared.change.ChangeFault.{ChangeFault}
use Rattle.ipv4_forward.specs.declared.change.ChangeFault.TheVariants.{TableFull, NoPrefix}
use Rattle.ipv4_forward.specs.declared.table.Route.{Route}
use Rattle.ipv4_forward.specs.Change.{changed, change_fault}
use Rattle.lab_text.specs.Line.{line_fault}
use Rattle.lab_text.specs.Words.{line_text}
use Rattle.world_model.specs.network_model.declared.event.Event.{Event}
use Rattle.world_model.specs.network_model.declared.event.Event.TheVariants.{Inject, Carry, Lose, Tick, TickSwitch, Restart, RestartSwitch, Forge, Route as RouteComes}
use Rattle.world_model.specs.network_model.declared.line.TopologyLine.{TopologyLine}
use Rattle.world_model.specs.network_model.declared.line.TopologyLine.TheVariants as lines
use Rattle.world_model.specs.network_model.declared.refusal.EventRefusal.{EventRefusal}
use Rattle.world_model.specs.Conditions.{IsNode, IsTopology}
use Rattle.world_model.specs.Events.{or_else, change_refusal, next_refusal}
use Rattle.world_model.specs.Lines.{is_named, node_named, with_line}
use Rattle.world_model.specs.Topology.{Topology, Node, new_node}
use Rattle.script_model.specs.declared.line.Line.{Line}
use Rattle.script_model.specs.declared.line.Line.TheVariants.{Blank, Topology as TopologyIs, Event as EventComes, TickAll, Run}
use Rattle.script_model.specs.declared.refusal.LineRefusal.{LineRefusal}
use Rattle.script_model.specs.Meaning.{is_late}
use Rattle.script_model.specs.Reading.{fault_name, says_by, text_says, line_says, state_after}
use Rattle.script_model.specs.Sayable.{IsSayable}
use Rattle.script_model.specs.State.{ScriptState, nothing_read, is_too_many, table_among, tables_after}
use Rattle.script_model.specs.Texts.{name_of}
use Rattle.script_model.proofs.ReadLines.{text_is}
use Rattle.ideal_fates.specs.Told.{Told, nothing_told, tables_under, opened_for, counted, sent_record, after_line, FitsEvent, FitsLine, HasTables, Follows}
use Rattle.ideal_fates.proofs.Steps.{counted_sent, counted_tables}

-- *A line that is read* can be said
unless_refused : (refusal : Option LineRefusal) (said : Result Line LineRefusal) (line : Line) → says_by refusal said ≡ Ok line → said ≡ Ok line
unless_refused None said line e = e
unless_refused (Some name) said line e = absurd (cc)

pub line_is : (state : ScriptState) (line : List ℕ) (said : Line) → line_says state line ≡ Ok said → IsSayable state said
line_is state line said e =
    text_is state (line_text line) said
    (unless_refused (option_and_then fault_name (line_fault state.octets line)) (text_says state (line_text line)) said e)

-- *What an event needs*
node_there : (topology : Topology) (name : List ℕ) (node : NodeId) → node_named topology name ≡ Some node → IsNode topology node
node_there topology name node e = by (position (is_named name) topology.nodes) refl e
  where
    by : (found : Option ℕ) → position (is_named name) topology.nodes ≡ found → option_map (λ place. record { 0 = place + 1 }) found ≡ Some node
        → IsNode topology node
    by None at e = absurd (cc)
    by (Some place) at e =
        let within = (position-Some (is_named name) topology.nodes place (new_node [] (record { 0 = 0 })) at).0 in
        let same : ◌≡◌ {A = NodeId} (record { 0 = place + 1 }) node = cc in
        subst (IsNode topology) same (omega arith, omega arith)

few_lines : (state : ScriptState) (line : Line) → is_too_many state line ≡ false → state.event_lines < 200000
few_lines state line e = by (nat_lt 200000 (state.event_lines + 1)) _ refl e
  where
    by : (b rest : Bool) → nat_lt 200000 (state.event_lines + 1) ≡ b → (b || rest) ≡ false → state.event_lines < 200000
    by true rest is e = absurd (cc)
    by false rest is e = grind (arith, nat_tests)

second_none : (a b : Option EventRefusal) → or_else a b ≡ None → b ≡ None
second_none None b e = e
second_none (Some refusal) b e = absurd (cc)

no_fault : (fault : Option ChangeFault) → change_refusal fault ≡ None → fault ≡ None
no_fault None e = refl
no_fault (Some TableFull) e = absurd (cc)
no_fault (Some NoPrefix) e = absurd (cc)

event_fits : (state : ScriptState) (told : Told) (event : Event) → Follows state told → IsSayable state (EventComes event)
    → FitsEvent state.topology told event
event_fits state told (Inject node packet) follows can =
    let few = few_lines state (EventComes (Inject node packet)) can.2 in
    (node_there state.topology (name_of state.topology node) node can.0.0.1, omega (arith, follows.few))
event_fits state told (RouteComes node change) follows can =
    let fault : change_fault (table_among state.tables node) change ≡ None =
    no_fault (change_fault (table_among state.tables node) change)
    (second_none (next_refusal state.topology node change.next) (change_refusal (change_fault (table_among state.tables node) change)) can.1) in (
      node_there state.topology (name_of state.topology node) node can.0.0.1,
      ap (λ (ts : List (List Route)). change_fault (table_among ts node) change) follows.same ∙ fault,
    )
event_fits state told (Carry place) follows can = tt
event_fits state told (Lose place) follows can = tt
event_fits state told (Tick node) follows can = tt
event_fits state told (TickSwitch node) follows can = tt
event_fits state told (Restart node) follows can = tt
event_fits state told (RestartSwitch node) follows can = tt
event_fits state told (Forge place channel payload) follows can = tt

pub line_fits : (state : ScriptState) (told : Told) (line : List ℕ) (said : Line) → Follows state told → IsSayable state said
    → FitsLine (state_after state line (Ok said)).topology told said
line_fits state told line Blank follows can = tt
line_fits state told line (TopologyIs topology) follows can = tt
line_fits state told line (EventComes event) follows can = event_fits state told event follows can
line_fits state told line TickAll follows can = tt
line_fits state told line (Run rounds) follows can = tt

-- *A topology line* stands before all events
not_yet : (state : ScriptState) (told : Told) (line : TopologyLine) → Follows state told → is_late state line ≡ false → state.event_lines ≡ 0
not_yet state told (lines.Version version) follows early = by (nat_lt 0 state.event_lines) refl
  where
    by : (some : Bool) → nat_lt 0 state.event_lines ≡ some → state.event_lines ≡ 0
    by true is =
        let above : 0 < state.event_lines = grind (arith, nat_tests) in
        let bad : true ≡ false = sym (follows.begun above) ∙ early in
        absurd (cc)
    by false is = grind (arith, nat_tests)
not_yet state told line follows early = grind (arith, nat_tests)

pub has_tables : (state : ScriptState) (told : Told) (line : List ℕ) (said : Line) → Follows state told → IsSayable state said
    → HasTables (state_after state line (Ok said)).topology told
has_tables state told line (TopologyIs topology) follows can =
    let now = with_line state.topology topology in
    let none : told.tables ≡ None = follows.early (not_yet state told topology follows can.1) in
    ap (λ ts. length (tables_under now ts)) none ∙ length-map now.nodes (λ (n : Node). n.routes)
has_tables state told line Blank follows can = ap length follows.same ∙ follows.each
has_tables state told line (EventComes event) follows can = ap length follows.same ∙ follows.each
has_tables state told line TickAll follows can = ap length follows.same ∙ follows.each
has_tables state told line (Run rounds) follows can = ap length follows.same ∙ follows.each

pub is_made : (state : ScriptState) (told : Told) (line : List ℕ) (said : Line) → Follows state told → IsSayable state said
    → IsTopology (state_after state line (Ok said)).topology
is_made state told line (TopologyIs topology) follows can = line_keeps state.topology topology follows.made can.0.0 can.2
is_made state told line Blank follows can = follows.made
is_made state told line (EventComes event) follows can = follows.made
is_made state told line TickAll follows can = follows.made
is_made state told line (Run rounds) follows can = follows.made

-- *Behind a line* they follow again
event_follows : (state now : ScriptState) (told then : Told) → Follows state told → now.topology ≡ state.topology
    → now.event_lines ≡ state.event_lines + 1 → now.has_line ≡ true → tables_under state.topology then.tables ≡ now.tables
    → length now.tables ≡ length state.tables → then.sent ≤ state.event_lines + 1 → Follows now then
event_follows state now told then follows stays events line same each few = record {
  made = subst IsTopology (sym stays) follows.made;
  same = ap (λ (t : Topology). tables_under t then.tables) stays ∙ same;
  each = each ∙ (follows.each ∙ ap (λ (t : Topology). length t.nodes) (sym stays));
  early = λ none. absurd (omega arith);
  begun = λ some. line;
  few = omega arith;
}

quiet_follows : (state now : ScriptState) (told : Told) → Follows state told → now.topology ≡ state.topology
    → now.event_lines ≡ state.event_lines + 1 → now.has_line ≡ true → now.tables ≡ state.tables → Follows now told
quiet_follows state now told follows stays events line same =
    event_follows state now told told follows stays events line (follows.same ∙ sym same) (ap length same) (omega (arith, follows.few))

pub follows_next : (state : ScriptState) (told : Told) (line : List ℕ) (said : Line) → Follows state told → IsSayable state said
    → Follows (state_after state line (Ok said)) (after_line (state_after state line (Ok said)).topology told said)
follows_next state told line Blank follows can = record {
  made = follows.made;
  same = follows.same;
  each = follows.each;
  early = follows.early;
  begun = follows.begun;
  few = follows.few;
}
follows_next state told line (TopologyIs topology) follows can =
    let now = with_line state.topology topology in
    let none : told.tables ≡ None = follows.early (not_yet state told topology follows can.1) in
    record {
      made = is_made state told line (TopologyIs topology) follows can;
      same = ap (tables_under now) none;
      each = length-map now.nodes (λ (n : Node). n.routes);
      early = λ zero. none;
      begun = λ some. refl;
      few = follows.few;
    }
follows_next state told line (EventComes (Inject node packet)) follows can =
    let opened = opened_for state.topology told in
    let item = sent_record state.topology told node packet in
    event_follows state _ told (counted opened item) follows refl refl refl
    (ap (tables_under state.topology) (counted_tables opened item) ∙ follows.same) refl (omega (arith, counted_sent opened item, follows.few))
follows_next state told line (EventComes (RouteComes node change)) follows can =
    event_follows state _ told _ follows refl refl refl
    (ap (λ (ts : List (List Route)). tables_after ts (RouteComes node change)) follows.same)
    (length_set state.tables (node.0 - 1) (changed (table_among state.tables node) change)) (omega (arith, follows.few))
follows_next state told line (EventComes (Carry place)) follows can = quiet_follows state _ told follows refl refl refl refl
follows_next state told line (EventComes (Lose place)) follows can = quiet_follows state _ told follows refl refl refl refl
follows_next state told line (EventComes (Tick node)) follows can = quiet_follows state _ told follows refl refl refl refl
follows_next state told line (EventComes (TickSwitch node)) follows can = quiet_follows state _ told follows refl refl refl refl
follows_next state told line (EventComes (Restart node)) follows can = quiet_follows state _ told follows refl refl refl refl
follows_next state told line (EventComes (RestartSwitch node)) follows can = quiet_follows state _ told follows refl refl refl refl
follows_next state told line (EventComes (Forge place channel payload)) follows can = quiet_follows state _ told follows refl refl refl refl
follows_next state told line TickAll follows can = quiet_follows state _ told follows refl refl refl refl
follows_next state told line (Run rounds) follows can = quiet_follows state _ told follows refl refl refl refl

-- at the beginning
pub nothing_follows : Follows nothing_read nothing_told
nothing_follows = record {
  made = empty_is;
  same = refl;
  each = refl;
  early = λ none. refl;
  begun = λ some. absurd (omega arith);
  few = omega arith;
}
