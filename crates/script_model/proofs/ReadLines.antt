-- what is read can be said

use Rattle.std.proofs.Common.{◌≡◌, ℕ, zero, suc, ◌+◌, ◌/◌, ◌%◌, ◌<◌, ◌≤◌, ◌==◌, ◌&&◌, Bool, true, false, List, [], ◌∷◌, length, filter, find, position, slice_get, get_or, nat_lt, nat_le, Some, None, Ok, Err, Option, Result, ◌⊎◌, inl, inr, option_map, refl, sym, ◌∙◌, arith, subst, add-one, if◌then◌else◌}
use Rattle.std.specs.List.{slice_split, position_or_len}
use Rattle.std.proofs.lemmas.Bool.Decides.{nat_tests}
use Rattle.std.proofs.lemmas.List.Sums.{passes_at_first}
use Rattle.std.proofs.lemmas.Option.{slice_get_cases}
use Rattle.std.proofs.lemmas.Slice.Eq.{bytes_eq-Decides}
use Rattle.net_types.specs.declared.node.NodeId.{NodeId}
use Rattle.net_types.specs.declared.node.PortNo.{PortNo}
use Rattle.net_types.specs.Label.{is_label_number}
use Rattle.world_model.specs.ipv4_forward.declared.table.Next.TheVariants.{Local, Via}
use Rattle.rule_model.specs.lab_text.Words.{is_blank, words, is_blank_text}
use Rattle.world_model.specs.network_model.declared.event.Event.{Event}
use Rattle.world_model.specs.network_model.declared.event.Event.TheVariants as event
use Rattle.world_model.specs.network_model.declared.refusal.EventRefusal.{EventRefusal}
use Rattle.world_model.specs.network_model.declared.refusal.TopologyRefusal.{TopologyRefusal}
use Rattle.world_model.specs.network_model.declared.line.TopologyLine.{TopologyLine}
use Rattle.world_model.specs.network_model.declared.line.TopologyLine.TheVariants as lines
use Rattle.world_model.specs.Topology.{Topology, Node, vpis_of}
use Rattle.world_model.specs.Lines.{is_named, node_named, line_refusal}
use Rattle.world_model.specs.Events.{event_refusal}
use Rattle.world_model.specs.Conditions.{IsWithin, IsPort, AreOctets}
use Rattle.script_model.specs.declared.keyword.Keyword.{Keyword}
use Rattle.script_model.specs.declared.keyword.Keyword.TheVariants as word
use Rattle.script_model.specs.declared.line.Line.{Line}
use Rattle.script_model.specs.declared.line.Line.TheVariants.{Blank, Topology as TopologyIs, Event as EventComes, TickAll, Run}
use Rattle.script_model.specs.declared.refusal.LineRefusal.{LineRefusal}
use Rattle.script_model.specs.declared.refusal.LineRefusal.TheVariants as why
use Rattle.script_model.specs.Names.{keyword_of}
use Rattle.script_model.specs.Forms.{QueueSide, FromController, FromPort, LabelWord, NumberWord, Values, after, read_all, are_fixed}
use Rattle.script_model.specs.Grammar.{Said, Describes, Sends, Carries, Loses, Ticks, TicksAll, TicksSwitch, Restarts, RestartsSwitch, Runs, Forges, Routes, LineRow, rows_of, labels_row_of, labels_row, label_range_said, port, ticks_said, said_by, said_in, said_behind, said_of}
use Rattle.script_model.specs.Sayable.{IsName, IsPrefix, IsNext, IsNamed, IsQueue, HasWords, HasEventWords, IsSayable}
use Rattle.script_model.specs.State.{ScriptState, table_of, is_too_many}
use Rattle.script_model.specs.Meaning.{is_late, topology_name, event_name, unless, describes, limited, comes, comes_at, happens, place_at, meant}
use Rattle.script_model.specs.Reading.{words_say, text_says}
use Rattle.script_model.specs.Records.{is_label}
use Rattle.script_model.specs.Texts.{name_of}
use Rattle.script_model.proofs.ReadForms.{ok_is, after_ok, map_some, if_some, both, IsSide, IsOnLink, IsNamed as IsNameOrAll, AreSome, AllRead, read_all_is}

-- *What is so of what a line says*
abbrev IsSaid : Topology → Said → Type 0
IsSaid topology (Describes line) = HasWords topology line
IsSaid topology (Sends name octets) = IsName name × (0 < length octets) × AreOctets octets
IsSaid topology (Carries name side) = IsName name × IsSide side
IsSaid topology (Loses name side) = IsName name × IsSide side
IsSaid topology (Ticks name) = IsName name
IsSaid topology TicksAll = Unit {0}
IsSaid topology (TicksSwitch name) = IsName name
IsSaid topology (Restarts name) = IsName name
IsSaid topology (RestartsSwitch name) = IsName name
IsSaid topology (Runs rounds) = IsWithin 1 100000 rounds
IsSaid topology (Forges name side channel payload) =
    IsName name × IsSide side × IsOnLink channel × IsWithin 1 1528 (length payload) × AreOctets payload
IsSaid topology (Routes name prefix next) = IsName name × IsPrefix prefix × IsNext next

-- *A row of the table*
row_is : (row : LineRow) (words : List (List ℕ)) (s : Said) → AreSome words → said_by row words ≡ Ok s
    → (values : Values row.forms) × AllRead row.forms values × (row.says values ≡ Ok s)
row_is row words s some e = by (are_fixed row.forms words) e
  where
    by : (fixed : Bool) → (if fixed then after row.says (read_all row.forms words) else Err why.UnknownWord) ≡ Ok s
        → (values : Values row.forms) × AllRead row.forms values × (row.says values ≡ Ok s)
    by true e =
        let read = after_ok row.says (read_all row.forms words) s e in
        (read.0, read_all_is row.forms words read.0 some read.1, read.2)
    by false e = absurd (cc)

-- what each of these rows says has a property
abbrev EachRow : (Said → Type 0) → List LineRow → Type 0
EachRow P [] = Unit {0}
EachRow P (row ∷ rows) =
    ((values : Values row.forms) (s : Said) → AllRead row.forms values → row.says values ≡ Ok s → P s) × EachRow P rows

rows_say : (P : Said → Type 0) (rows : List LineRow) (words : List (List ℕ)) (s : Said) → AreSome words → EachRow P rows
    → said_in (find (λ row. length row.forms == length words) rows) words ≡ Ok s → P s
rows_say P [] words s some each e = absurd (cc)
rows_say P (row ∷ rows) words s some each e =
    by (length row.forms == length words) e (rows_say P rows words s some each.1)
  where
    by : (fits : Bool)
        → said_in (if fits then Some row else find (λ row. length row.forms == length words) rows) words ≡ Ok s
        → (said_in (find (λ row. length row.forms == length words) rows) words ≡ Ok s → P s) → P s
    by true e rest =
        let is = row_is row words s some e in
        each.0 is.0 s is.1 is.2
    by false e rest = rest e

-- a row that says what it says, whatever its values
says_it : (P : Said → Type 0) (x s : Said) → P x → ◌≡◌ {A = Result Said LineRefusal} (Ok x) (Ok s) → P s
says_it P x s has e = subst P (ok_is x s e) has

-- *Labels*
low_label : (n : ℕ) → 32 ≤ n → n ≤ 1023 → (is_label_number n && nat_lt (n / 1024) 1) ≡ true
low_label n low high =
    let vpi : n / 1024 ≡ 0 = omega arith in
    let vci : n % 1024 ≡ n = omega arith in
    let above : nat_le 32 n ≡ true = grind (arith, nat_tests) in
    let below : nat_lt n 1024 ≡ true = grind (arith, nat_tests) in
    rw (vpi, vci, above, below) refl

high_label : (n : ℕ) → is_label_number n ≡ true → (is_label_number n && nat_lt (n / 1024) 16) ≡ true
high_label n is =
    let parts = both (nat_lt (n / 1024) 16) (nat_le 32 (n % 1024) && nat_lt (n % 1024) 1024) is in
    rw (is, parts.0) refl

ranged_is : (topology : Topology) (name : List ℕ) (p : PortNo) (lo hi : ℕ) (s : Said) → IsName name → IsPort p
    → is_label topology lo ≡ true → is_label topology hi ≡ true → label_range_said name p lo hi ≡ Ok s → IsSaid topology s
ranged_is topology name p lo hi s name_is port_is lo_is hi_is e = by (nat_lt hi lo) refl e
  where
    by : (wrong : Bool) → nat_lt hi lo ≡ wrong
        → (if wrong then Err why.BadNumber else Ok (Describes (lines.Labels name p lo hi))) ≡ Ok s → IsSaid topology s
    by true told e = absurd (cc)
    by false told e =
        let order : lo ≤ hi = grind (arith, nat_tests) in
        let lo_parts = both (is_label_number lo) (nat_lt (lo / 1024) (vpis_of topology)) lo_is in
        let hi_parts = both (is_label_number hi) (nat_lt (hi / 1024) (vpis_of topology)) hi_is in
        let has : HasWords topology (lines.Labels name p lo hi) =
        (record { port = port_is; least = lo_parts.0; greatest = hi_parts.0; ascends = order }, (name_is, lo_is, hi_is)) in
        says_it (IsSaid topology) (Describes (lines.Labels name p lo hi)) s has e

labels_are : (topology : Topology) → EachRow (IsSaid topology) (labels_row_of topology.version ∷ [])
labels_are topology = by (topology.version == 2) refl
  where
    by : (two : Bool) → topology.version == 2 ≡ two
        → EachRow (IsSaid topology) ((if two then labels_row LabelWord (λ v. (v.0, v.1.0)) else labels_row (NumberWord 32 1023) (λ v. (v.0, v.1.0))) ∷ [])
    by true told = (
      λ v s read e.
          let lo_is : is_label topology v.1.1.0 ≡ true = rw told (high_label v.1.1.0 read.1.1.0) in
          let hi_is : is_label topology v.1.1.1.0 ≡ true = rw told (high_label v.1.1.1.0 read.1.1.1.0) in
          ranged_is topology v.0 (port v.1.0) v.1.1.0 v.1.1.1.0 s read.0 read.1.0 lo_is hi_is e,
      tt,
    )
    by false told = (
      λ v s read e.
          let lo_is : is_label topology v.1.1.0 ≡ true = rw told (low_label v.1.1.0 read.1.1.0.0 read.1.1.0.1) in
          let hi_is : is_label topology v.1.1.1.0 ≡ true = rw told (low_label v.1.1.1.0 read.1.1.1.0.0 read.1.1.1.0.1) in
          ranged_is topology v.0 (port v.1.0) v.1.1.0 v.1.1.1.0 s read.0 read.1.0 lo_is hi_is e,
      tt,
    )

-- *Each first word*
ticks_is : (topology : Topology) (name : Option (List ℕ)) → IsNameOrAll name → IsSaid topology (ticks_said name)
ticks_is topology None is = tt
ticks_is topology (Some name) is = is

each_row : (topology : Topology) (keyword : Keyword) → EachRow (IsSaid topology) (rows_of topology.version keyword)
each_row topology word.Node =
    (λ v s read e. says_it (IsSaid topology) (Describes (lines.Node v.0 v.1.0)) s (tt, (read.0, read.1.0)) e, tt)
each_row topology word.Cells =
    (λ v s read e. says_it (IsSaid topology) (Describes (lines.Cells v.0 v.1.0)) s (read.1.0, read.0) e, tt)
each_row topology word.Labels = labels_are topology
each_row topology word.Link = (
  λ v s read e. says_it (IsSaid topology) (Describes (lines.Link v.0 v.1.0)) s
      ((read.0.1, read.1.0.1), (read.0.0, read.1.0.0)) e,
  tt,
)
each_row topology word.Route = (
  λ v s read e. says_it (IsSaid topology) (Describes (lines.RouteVia v.0 v.1.0 (port v.1.1.1.0))) s
      (read.1.1.1.0, (read.0, read.1.0)) e,
  (λ v s read e. says_it (IsSaid topology) (Describes (lines.RouteLocal v.0 v.1.0)) s (tt, (read.0, read.1.0)) e, tt),
)
each_row topology word.Policy = (
  λ v s read e. says_it (IsSaid topology) (Describes (lines.PolicyXy v.1.0 v.1.1.0)) s
      ((read.1.0, read.1.1.0), tt) e,
  (λ v s read e. says_it (IsSaid topology) (Describes lines.PolicyNever) s (tt, tt) e, tt),
)
each_row topology word.Timers = (
  λ v s read e. says_it (IsSaid topology) (Describes (lines.Timers v.0 v.1.0 v.1.1.0)) s
      ((read.0, read.1.0, read.1.1.0), tt) e,
  tt,
)
each_row topology word.Version =
    (λ v s read e. says_it (IsSaid topology) (Describes (lines.Version v.0)) s (read.0, tt) e, tt)
each_row topology word.Send =
    (λ v s read e. says_it (IsSaid topology) (Sends v.0 v.1.0) s (read.0, read.1.0.0, read.1.0.1) e, tt)
each_row topology word.Carry = (λ v s read e. says_it (IsSaid topology) (Carries v.0.0 v.0.1) s read.0 e, tt)
each_row topology word.Lose = (λ v s read e. says_it (IsSaid topology) (Loses v.0.0 v.0.1) s read.0 e, tt)
each_row topology word.Tick =
    (λ v s read e. says_it (IsSaid topology) (ticks_said v.0) s (ticks_is topology v.0 read.0) e, tt)
each_row topology word.TickSwitch = (λ v s read e. says_it (IsSaid topology) (TicksSwitch v.0) s read.0 e, tt)
each_row topology word.Restart = (λ v s read e. says_it (IsSaid topology) (Restarts v.0) s read.0 e, tt)
each_row topology word.RestartSwitch = (λ v s read e. says_it (IsSaid topology) (RestartsSwitch v.0) s read.0 e, tt)
each_row topology word.Run = (λ v s read e. says_it (IsSaid topology) (Runs v.0) s read.0 e, tt)
each_row topology word.Forge = (
  λ v s read e. says_it (IsSaid topology) (Forges v.0.0 v.0.1 v.1.0 v.1.1.0) s
      (read.0.0, read.0.1, read.1.0, read.1.1.0.0, read.1.1.0.1) e,
  tt,
)
each_row topology word.SetRoute = (
  λ v s read e. says_it (IsSaid topology) (Routes v.0 v.1.0 (Some (Via (port v.1.1.1.0)))) s
      (read.0, read.1.0, read.1.1.1.0) e,
  (λ v s read e. says_it (IsSaid topology) (Routes v.0 v.1.0 (Some Local)) s (read.0, read.1.0, tt) e, tt),
)
each_row topology word.Unroute =
    (λ v s read e. says_it (IsSaid topology) (Routes v.0 v.1.0 None) s (read.0, read.1.0, tt) e, tt)

said_is : (topology : Topology) (first : Option Keyword) (words : List (List ℕ)) (s : Said) → AreSome words
    → said_behind topology.version first words ≡ Ok s → IsSaid topology s
said_is topology None words s some e = absurd (cc)
said_is topology (Some keyword) words s some e =
    rows_say (IsSaid topology) (rows_of topology.version keyword) words s some (each_row topology keyword) e

-- *A name that is found*
same_name : (node : Node) (name : List ℕ) → is_named name node ≡ true → node.name ≡ name
same_name node name told = (bytes_eq-Decides node.name name).0 told

at_first : (topology : Topology) (name : List ℕ)
    → position_or_len (is_named name) topology.nodes < length topology.nodes
    → name_of topology (record { 0 = position_or_len (is_named name) topology.nodes + 1 }) ≡ name
at_first topology name within =
    by (slice_get_cases topology.nodes (position_or_len (is_named name) topology.nodes)).1
  where
    by : ((x : Node) × (position_or_len (is_named name) topology.nodes < length topology.nodes)
        × (slice_get topology.nodes (position_or_len (is_named name) topology.nodes) ≡ Some x)
        × (get_or topology.nodes (position_or_len (is_named name) topology.nodes) x ≡ x))
        ⊎ ((length topology.nodes ≤ position_or_len (is_named name) topology.nodes)
        × (slice_get topology.nodes (position_or_len (is_named name) topology.nodes) ≡ None))
        → name_of topology (record { 0 = position_or_len (is_named name) topology.nodes + 1 }) ≡ name
    by (inl found) =
        let told : is_named name found.0 ≡ true =
        subst (λ (n : Node). is_named name n ≡ true) found.3
        (passes_at_first (is_named name) topology.nodes found.0 within) in
        rw (add-one, found.2) (same_name found.0 name told)
    by (inr past) = absurd (omega (arith, past.0))

found_name : (topology : Topology) (name : List ℕ) (node : NodeId) → node_named topology name ≡ Some node
    → name_of topology node ≡ name
found_name topology name node e =
    let found = map_some (λ place. record { 0 = place + 1 }) (position (is_named name) topology.nodes) node e in
    let told =
    if_some (nat_lt (position_or_len (is_named name) topology.nodes) (length topology.nodes))
    (position_or_len (is_named name) topology.nodes) found.0 found.1 in
    let within : position_or_len (is_named name) topology.nodes < length topology.nodes =
    grind (arith, nat_tests, told.0) in
    let named : name_of topology (record { 0 = found.0 + 1 }) ≡ name =
    subst (λ place. name_of topology (record { 0 = place + 1 }) ≡ name) told.1 (at_first topology name within) in
    subst (λ (n : NodeId). name_of topology n ≡ name) found.2 named

-- *What a line means*
describe_is : (state : ScriptState) (line : TopologyLine) (out : Line) → HasWords state.topology line
    → describes state line ≡ Ok out → IsSayable state out
describe_is state line out has e = by (is_late state line) refl (line_refusal state.topology line) refl e
  where
    by : (late : Bool) → is_late state line ≡ late → (refusal : Option TopologyRefusal)
        → line_refusal state.topology line ≡ refusal
        → (if late then Err why.Late else unless (option_map topology_name refusal) (TopologyIs line)) ≡ Ok out
        → IsSayable state out
    by true told refusal none e = absurd (cc)
    by false told None none e = subst (IsSayable state) (ok_is (TopologyIs line) out e) (has, told, none)
    by false told (Some refusal) none e = absurd (cc)

unless_is : (refusal : Option EventRefusal) (line out : Line) → unless (option_map event_name refusal) line ≡ Ok out
    → (refusal ≡ None) × (line ≡ out)
unless_is None line out e = (refl, ok_is line out e)
unless_is (Some refusal) line out e = absurd (cc)

limited_is : (state : ScriptState) (line out : Line) → limited state line ≡ Ok out
    → (is_too_many state line ≡ false) × (line ≡ out)
limited_is state line out e = by (is_too_many state line) refl e
  where
    by : (many : Bool) → is_too_many state line ≡ many → (if many then Err why.TooMany else Ok line) ≡ Ok out
        → (is_too_many state line ≡ false) × (line ≡ out)
    by true told e = absurd (cc)
    by false told e = (told, ok_is line out e)

comes_is : (state : ScriptState) (event : Event) (out : Line) → HasEventWords state.topology event
    → comes state event ≡ Ok out → IsSayable state out
comes_is state event out has e =
    let first = after_ok (limited state) (unless (option_map event_name (event_refusal state.topology (table_of state) event)) (EventComes event)) out e in
    let can = unless_is (event_refusal state.topology (table_of state) event) (EventComes event) first.0 first.1 in
    let few = limited_is state first.0 out first.2 in
    let many : is_too_many state (EventComes event) ≡ false =
    subst (λ (l : Line). is_too_many state l ≡ false) (sym can.1) few.0 in
    subst (IsSayable state) (can.1 ∙ few.1) (has, can.0, many)

happens_is : (state : ScriptState) (name : List ℕ) (event : NodeId → Event) (out : Line) → IsName name
    → ((node : NodeId) → IsNamed state.topology node → HasEventWords state.topology (event node))
    → happens state name event ≡ Ok out → IsSayable state out
happens_is state name event out is has e = by (node_named state.topology name) refl e
  where
    by : (found : Option NodeId) → node_named state.topology name ≡ found → comes_at state event found ≡ Ok out
        → IsSayable state out
    by None told e = absurd (cc)
    by (Some node) told e =
        let named = sym (found_name state.topology name node told) in
        comes_is state (event node) out
        (has node (subst IsName named is, subst (λ n. node_named state.topology n ≡ Some node) named told)) e

queue_at : (topology : Topology) (side : QueueSide) (node : NodeId) → IsSide side → IsNamed topology node
    → IsQueue topology (place_at side node)
queue_at topology FromController node is named = named
queue_at topology (FromPort zero) node is named = named
queue_at topology (FromPort (suc n)) node is named = (named, (omega arith, is))

meant_is : (state : ScriptState) (s : Said) (out : Line) → IsSaid state.topology s → meant state s ≡ Ok out
    → IsSayable state out
meant_is state (Describes line) out is e = describe_is state line out is e
meant_is state (Sends name octets) out is e =
    happens_is state name (λ node. event.Inject node octets) out is.0 (λ node named. (named, is.1, is.2)) e
meant_is state (Carries name side) out is e =
    happens_is state name (λ node. event.Carry (place_at side node)) out is.0
    (λ node named. queue_at state.topology side node is.1 named) e
meant_is state (Loses name side) out is e =
    happens_is state name (λ node. event.Lose (place_at side node)) out is.0
    (λ node named. queue_at state.topology side node is.1 named) e
meant_is state (Ticks name) out is e = happens_is state name event.Tick out is (λ node named. named) e
meant_is state TicksAll out is e =
    let few = limited_is state TickAll out e in
    subst (IsSayable state) few.1 few.0
meant_is state (TicksSwitch name) out is e = happens_is state name event.TickSwitch out is (λ node named. named) e
meant_is state (Restarts name) out is e = happens_is state name event.Restart out is (λ node named. named) e
meant_is state (RestartsSwitch name) out is e = happens_is state name event.RestartSwitch out is (λ node named. named) e
meant_is state (Runs rounds) out is e =
    let few = limited_is state (Run rounds) out e in
    subst (IsSayable state) few.1 (is, few.0)
meant_is state (Forges name side channel payload) out is e =
    happens_is state name (λ node. event.Forge (place_at side node) channel payload) out is.0
    (λ node named. (queue_at state.topology side node is.1 named, is.2.0, is.2.1, is.3, is.4)) e
meant_is state (Routes name prefix next) out is e =
    happens_is state name (λ node. event.Route node (record { prefix = prefix; next = next })) out is.0
    (λ node named. (named, is.1, is.2)) e

-- *Words* aren't empty
filter_some : (parts : List (List ℕ)) → AreSome (filter (λ part. nat_lt 0 (length part)) parts)
filter_some [] = tt
filter_some (part ∷ parts) = by (nat_lt 0 (length part)) refl (filter_some parts)
  where
    by : (some : Bool) → nat_lt 0 (length part) ≡ some → AreSome (filter (λ p. nat_lt 0 (length p)) parts)
        → AreSome (if some then part ∷ filter (λ p. nat_lt 0 (length p)) parts else filter (λ p. nat_lt 0 (length p)) parts)
    by true told rest = (grind (arith, nat_tests), rest)
    by false told rest = rest

words_is : (state : ScriptState) (ws : List (List ℕ)) (line : Line) → AreSome ws → words_say state ws ≡ Ok line
    → IsSayable state line
words_is state [] line some e = subst (IsSayable state) (ok_is Blank line e) tt
words_is state (first ∷ others) line some e =
    let read = after_ok (meant state) (said_of state.topology.version first others) line e in
    meant_is state read.0 line (said_is state.topology (keyword_of first) others read.0 some.1 read.1) read.2

-- *What a text says* can be said
pub text_is : (state : ScriptState) (text : List ℕ) (line : Line) → text_says state text ≡ Ok line → IsSayable state line
text_is state text line e = by (is_blank_text (words text)) e
  where
    by : (blank : Bool) → (if blank then Ok Blank else words_say state (words text)) ≡ Ok line → IsSayable state line
    by true e = subst (IsSayable state) (ok_is Blank line e) tt
    by false e = words_is state (words text) line (filter_some (slice_split is_blank text)) e
