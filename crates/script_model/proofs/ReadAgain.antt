-- a line that can be said is read back from its text

use Rattle.std.proofs.Common.{◌≡◌, ℕ, zero, suc, ◌/◌, ◌%◌, ◌^◌, ◌<◌, ◌≤◌, ◌==◌, ◌&&◌, Bool, true, false, List, [], ◌∷◌, ◌++◌, length, nat_lt, nat_le, nat_eq, bytes_eq, Some, None, Ok, Option, codes, refl, sym, ap, ◌∙◌, arith}
use Rattle.std.specs.List.{list_all}
use Rattle.std.proofs.lemmas.Bool.Decides.{nat_tests}
use Rattle.std.proofs.lemmas.Fmt.{decimal_digit}
use Rattle.net_types.specs.declared.node.NodeId.{NodeId}
use Rattle.net_types.specs.declared.node.PortNo.{PortNo}
use Rattle.net_types.specs.declared.node.Place.{Place}
use Rattle.net_types.specs.declared.node.Place.TheVariants.{Down, Up, Out}
use Rattle.net_types.specs.declared.channel.Channel.{Channel}
use Rattle.net_types.specs.Label.{is_label_number}
use Rattle.net_types.specs.Prefix.{Network}
use Rattle.world_model.specs.ipv4_forward.declared.table.Next.{Next}
use Rattle.world_model.specs.ipv4_forward.declared.table.Next.TheVariants.{Local, Via}
use Rattle.rule_model.specs.lab_text.Forms.{is_letter, is_name_octet}
use Rattle.rule_model.specs.lab_text.Text.{hex_digits, line_of}
use Rattle.rule_model.specs.lab_text.Words.{line_text, is_blank_text}
use Rattle.world_model.specs.network_model.declared.event.Event.{Event}
use Rattle.world_model.specs.network_model.declared.event.Event.TheVariants as event
use Rattle.world_model.specs.network_model.declared.line.TopologyLine.{TopologyLine}
use Rattle.world_model.specs.network_model.declared.line.TopologyLine.TheVariants as lines
use Rattle.world_model.specs.Topology.{Topology, vpis_of}
use Rattle.world_model.specs.Places.{place_node}
use Rattle.world_model.specs.Lines.{line_refusal, node_named}
use Rattle.world_model.specs.Conditions.{AreOctets}
use Rattle.world_model.specs.Events.{event_refusal}
use Rattle.script_model.specs.declared.line.Line.{Line}
use Rattle.script_model.specs.declared.line.Line.TheVariants.{Blank, Topology as TopologyIs, Event as EventComes, TickAll, Run}
use Rattle.script_model.specs.Forms.{QueueSide, FromController, FromPort, queue_of, channel_of}
use Rattle.script_model.specs.Sayable.{IsName, IsPrefix, IsNext, IsNamed, IsQueue, HasWords, HasEventWords, IsSayable}
use Rattle.script_model.specs.State.{ScriptState, table_of, is_too_many}
use Rattle.script_model.specs.Meaning.{is_late, describes, comes, happens, place_at}
use Rattle.script_model.specs.Reading.{words_say, text_says}
use Rattle.script_model.specs.Texts.{name_of, channel_text, place_text}
use Rattle.script_model.specs.Writing.{topology_words, change_words, event_words, line_words}
use Rattle.script_model.proofs.Numbers.{number_in_back}
use Rattle.script_model.proofs.ReadBack.{address_back, prefix_back, channel_back, label_back, end_back, controller_queue_back, port_queue_back, hex_back}
use Rattle.script_model.proofs.Tokens.{AreWords, words_of_line}

-- the text of a line has its words
pub said_again : (state : ScriptState) (ws : List (List ℕ)) (line : Line) → AreWords ws → is_blank_text ws ≡ false
    → words_say state ws ≡ Ok line → text_says state (line_text (line_of ws)) ≡ Ok line
said_again state ws line are some says = rw (words_of_line ws are, some) says

-- *Topology lines*
described : (state : ScriptState) (line : TopologyLine) → is_late state line ≡ false
    → line_refusal state.topology line ≡ None → describes state line ≡ Ok (TopologyIs line)
described state line late refusal = rw (late, refusal) refl

-- *Labels*
pub both : (a b : Bool) → (a && b) ≡ true → (a ≡ true) × (b ≡ true)
both true true e = (refl, refl)
both true false e = absurd (cc)
both false b e = absurd (cc)

pub label_small : (n : ℕ) → is_label_number n ≡ true → n < 2 ^ 16
label_small n is =
    let vpi : nat_lt (n / 1024) 16 ≡ true =
    (both (nat_lt (n / 1024) 16) (nat_le 32 (n % 1024) && nat_lt (n % 1024) 1024) is).0 in
    let low : n / 1024 < 16 = grind (arith, nat_tests) in
    omega arith

label_low : (n : ℕ) → is_label_number n ≡ true → nat_lt (n / 1024) 1 ≡ true → (32 ≤ n) × (n ≤ 1023)
label_low n is first =
    let rest = both (nat_lt (n / 1024) 16) (nat_le 32 (n % 1024) && nat_lt (n % 1024) 1024) is in
    let vci : nat_le 32 (n % 1024) ≡ true = (both (nat_le 32 (n % 1024)) (nat_lt (n % 1024) 1024) rest.1).0 in
    let low : n / 1024 < 1 = grind (arith, nat_tests) in
    let high : 32 ≤ n % 1024 = grind (arith, nat_tests) in
    (omega arith, omega arith)

labels_again : (state : ScriptState) (name : List ℕ) (port : PortNo) (lo hi : ℕ)
    → HasWords state.topology (lines.Labels name port lo hi)
    → describes state (lines.Labels name port lo hi) ≡ Ok (TopologyIs (lines.Labels name port lo hi))
    → words_say state (topology_words state.topology (lines.Labels name port lo hi))
    ≡ Ok (TopologyIs (lines.Labels name port lo hi))
labels_again state name port lo hi has says = by (state.topology.version == 2) refl
  where
    order : nat_lt hi lo ≡ false
    order = grind (arith, nat_tests, has.0.ascends)

    lo_parts : (is_label_number lo ≡ true) × (nat_lt (lo / 1024) (vpis_of state.topology) ≡ true)
    lo_parts = both (is_label_number lo) (nat_lt (lo / 1024) (vpis_of state.topology)) has.1.1

    hi_parts : (is_label_number hi ≡ true) × (nat_lt (hi / 1024) (vpis_of state.topology) ≡ true)
    hi_parts = both (is_label_number hi) (nat_lt (hi / 1024) (vpis_of state.topology)) has.1.2

    by : (two : Bool) → state.topology.version == 2 ≡ two
        → words_say state (topology_words state.topology (lines.Labels name port lo hi))
        ≡ Ok (TopologyIs (lines.Labels name port lo hi))
    by true e =
        rw (
          e,
          has.1.0,
          number_in_back 1 8 port.0 has.0.port.0 has.0.port.1 (omega (arith, has.0.port.1)),
          label_back lo (label_small lo lo_parts.0) lo_parts.0,
          label_back hi (label_small hi hi_parts.0) hi_parts.0,
          order,
        ) says
    by false e =
        let lo_vpi : nat_lt (lo / 1024) 1 ≡ true = rw e at lo_parts.1 in
        let hi_vpi : nat_lt (hi / 1024) 1 ≡ true = rw e at hi_parts.1 in
        let lo_in = label_low lo lo_parts.0 lo_vpi in
        let hi_in = label_low hi hi_parts.0 hi_vpi in
        rw (
          e,
          has.1.0,
          number_in_back 1 8 port.0 has.0.port.0 has.0.port.1 (omega (arith, has.0.port.1)),
          number_in_back 32 1023 lo lo_in.0 lo_in.1 (omega (arith, lo_in.1)),
          number_in_back 32 1023 hi hi_in.0 hi_in.1 (omega (arith, hi_in.1)),
          order,
        ) says

topology_again : (state : ScriptState) (line : TopologyLine) → HasWords state.topology line → is_late state line ≡ false
    → line_refusal state.topology line ≡ None → words_say state (topology_words state.topology line) ≡ Ok (TopologyIs line)
topology_again state (lines.Node name address) has late refusal =
    rw (has.1.0, address_back address has.1.1) (described state (lines.Node name address) late refusal)
topology_again state (lines.Cells name cells) has late refusal =
    rw (has.1, number_in_back 1 16384 cells has.0.0 has.0.1 (omega (arith, has.0.1)))
    (described state (lines.Cells name cells) late refusal)
topology_again state (lines.Labels name port lo hi) has late refusal =
    labels_again state name port lo hi has (described state (lines.Labels name port lo hi) late refusal)
topology_again state (lines.Link first second) has late refusal =
    rw (end_back first.0 first.1 has.1.0 has.0.0.0 has.0.0.1, end_back second.0 second.1 has.1.1 has.0.1.0 has.0.1.1)
    (described state (lines.Link first second) late refusal)
topology_again state (lines.RouteVia name prefix port) has late refusal =
    rw (has.1.0, prefix_back prefix has.1.1.0 has.1.1.1, number_in_back 1 8 port.0 has.0.0 has.0.1 (omega (arith, has.0.1)))
    (described state (lines.RouteVia name prefix port) late refusal)
topology_again state (lines.RouteLocal name prefix) has late refusal =
    rw (has.1.0, prefix_back prefix has.1.1.0 has.1.1.1) (described state (lines.RouteLocal name prefix) late refusal)
topology_again state (lines.PolicyXy x y) has late refusal =
    rw (
      number_in_back 1 65535 x has.0.0.0 has.0.0.1 (omega (arith, has.0.0.1)),
      number_in_back 1 64 y has.0.1.0 has.0.1.1 (omega (arith, has.0.1.1)),
    )
    (described state (lines.PolicyXy x y) late refusal)
topology_again state lines.PolicyNever has late refusal = described state lines.PolicyNever late refusal
topology_again state (lines.Timers lifetime refresh idle) has late refusal =
    rw (
      number_in_back 1 65535 lifetime has.0.0.0 has.0.0.1 (omega (arith, has.0.0.1)),
      number_in_back 1 65535 refresh has.0.1.0 has.0.1.1 (omega (arith, has.0.1.1)),
      number_in_back 1 65535 idle has.0.2.0 has.0.2.1 (omega (arith, has.0.2.1)),
    )
    (described state (lines.Timers lifetime refresh idle) late refusal)
topology_again state (lines.Version version) has late refusal =
    rw (number_in_back 1 2 version has.0.0 has.0.1 (omega (arith, has.0.1))) (described state (lines.Version version) late refusal)

-- *Events*
came : (state : ScriptState) (event : Event) → event_refusal state.topology (table_of state) event ≡ None
    → is_too_many state (EventComes event) ≡ false → comes state event ≡ Ok (EventComes event)
came state event refusal many = rw (refusal, many) refl

-- at a node that is found by its name
happened : (state : ScriptState) (name : List ℕ) (node : NodeId) (event : NodeId → Event)
    → node_named state.topology name ≡ Some node → comes state (event node) ≡ Ok (EventComes (event node))
    → happens state name event ≡ Ok (EventComes (event node))
happened state name node event found comes = rw found comes

-- the queue of a text
record QueueBack (topology : Topology) (place : Place) : Type 0 where
  side : QueueSide
  read : queue_of (place_text topology place) ≡ Some (name_of topology (place_node place), side)
  back : place_at side (place_node place) ≡ place

port_back : (node : NodeId) (n : ℕ) → 1 ≤ n → place_at (FromPort n) node ≡ Out node (record { 0 = n })
port_back node zero some = absurd (omega arith)
port_back node (suc n) some = refl

zero_queue_back : (name : List ℕ) → IsName name → queue_of (name ++ 58 ∷ 48 ∷ []) ≡ Some (name, FromPort 0)
zero_queue_back name is =
    ap (λ text. queue_of (name ++ 58 ∷ text)) (sym (decimal_digit 0 (omega arith))) ∙ port_queue_back name 0 is (omega arith)

queue_back : (topology : Topology) (place : Place) → IsQueue topology place → QueueBack topology place
queue_back topology (Down node) is =
    record { side = FromController; read = controller_queue_back (name_of topology node) is.0; back = refl }
queue_back topology (Up node) is =
    record { side = FromPort 0; read = zero_queue_back (name_of topology node) is.0; back = refl }
queue_back topology (Out node port) is = record {
  side = FromPort port.0;
  read = port_queue_back (name_of topology node) port.0 is.0.0 is.1.1;
  back = port_back node port.0 is.1.0;
}

queue_named : (topology : Topology) (place : Place) → IsQueue topology place → IsNamed topology (place_node place)
queue_named topology (Down node) is = is
queue_named topology (Up node) is = is
queue_named topology (Out node port) is = is.0

-- an event of a queue
at_queue : (state : ScriptState) (name : List ℕ) (place : Place) (side : QueueSide) (event : Place → Event)
    → node_named state.topology name ≡ Some (place_node place) → place_at side (place_node place) ≡ place
    → comes state (event place) ≡ Ok (EventComes (event place))
    → happens state name (λ node. event (place_at side node)) ≡ Ok (EventComes (event place))
at_queue state name place side event found back comes = rw (found, back) comes

-- no name is the word for all
not_all : (name : List ℕ) → IsName name → bytes_eq name (codes "*") ≡ false
not_all [] is = refl
not_all (c ∷ cs) is =
    let rest = both (nat_le 1 (length (c ∷ cs))) (nat_le (length (c ∷ cs)) 16 && (is_letter c && list_all is_name_octet (c ∷ cs))) is in
    let others = both (nat_le (length (c ∷ cs)) 16) (is_letter c && list_all is_name_octet (c ∷ cs)) rest.1 in
    let first = both (is_letter c) (list_all is_name_octet (c ∷ cs)) others.1 in
    let letter : nat_le 97 c ≡ true = (both (nat_le 97 c) (nat_le c 122) first.0).0 in
    let other : nat_eq c 42 ≡ false = grind (arith, nat_tests) in
    rw other refl

tick_again : (state : ScriptState) (name : List ℕ) (node : NodeId) → IsName name → node_named state.topology name ≡ Some node
    → comes state (event.Tick node) ≡ Ok (EventComes (event.Tick node))
    → words_say state (codes "tick" ∷ name ∷ []) ≡ Ok (EventComes (event.Tick node))
tick_again state name node is found comes = rw (not_all name is, is) (happened state name node event.Tick found comes)

tick_switch_again : (state : ScriptState) (name : List ℕ) (node : NodeId) → IsName name
    → node_named state.topology name ≡ Some node
    → comes state (event.TickSwitch node) ≡ Ok (EventComes (event.TickSwitch node))
    → words_say state (codes "tickswitch" ∷ name ∷ []) ≡ Ok (EventComes (event.TickSwitch node))
tick_switch_again state name node is found comes = rw is (happened state name node event.TickSwitch found comes)

restart_again : (state : ScriptState) (name : List ℕ) (node : NodeId) → IsName name
    → node_named state.topology name ≡ Some node
    → comes state (event.Restart node) ≡ Ok (EventComes (event.Restart node))
    → words_say state (codes "restart" ∷ name ∷ []) ≡ Ok (EventComes (event.Restart node))
restart_again state name node is found comes = rw is (happened state name node event.Restart found comes)

restart_switch_again : (state : ScriptState) (name : List ℕ) (node : NodeId) → IsName name
    → node_named state.topology name ≡ Some node
    → comes state (event.RestartSwitch node) ≡ Ok (EventComes (event.RestartSwitch node))
    → words_say state (codes "restartswitch" ∷ name ∷ []) ≡ Ok (EventComes (event.RestartSwitch node))
restart_switch_again state name node is found comes = rw is (happened state name node event.RestartSwitch found comes)

send_again : (state : ScriptState) (name : List ℕ) (node : NodeId) (octets : List ℕ) → IsName name → AreOctets octets
    → node_named state.topology name ≡ Some node
    → comes state (event.Inject node octets) ≡ Ok (EventComes (event.Inject node octets))
    → words_say state (codes "send" ∷ name ∷ hex_digits octets ∷ []) ≡ Ok (EventComes (event.Inject node octets))
send_again state name node octets is are found comes =
    rw (is, hex_back octets are) (happened state name node (λ n. event.Inject n octets) found comes)

carry_again : (state : ScriptState) (name text : List ℕ) (place : Place) (side : QueueSide)
    → queue_of text ≡ Some (name, side) → place_at side (place_node place) ≡ place
    → node_named state.topology name ≡ Some (place_node place)
    → comes state (event.Carry place) ≡ Ok (EventComes (event.Carry place))
    → words_say state (codes "carry" ∷ text ∷ []) ≡ Ok (EventComes (event.Carry place))
carry_again state name text place side read back found comes =
    rw read (at_queue state name place side event.Carry found back comes)

lose_again : (state : ScriptState) (name text : List ℕ) (place : Place) (side : QueueSide)
    → queue_of text ≡ Some (name, side) → place_at side (place_node place) ≡ place
    → node_named state.topology name ≡ Some (place_node place)
    → comes state (event.Lose place) ≡ Ok (EventComes (event.Lose place))
    → words_say state (codes "lose" ∷ text ∷ []) ≡ Ok (EventComes (event.Lose place))
lose_again state name text place side read back found comes =
    rw read (at_queue state name place side event.Lose found back comes)

forge_again : (state : ScriptState) (name text : List ℕ) (place : Place) (side : QueueSide) (channel : Channel) (payload : List ℕ)
    → queue_of text ≡ Some (name, side) → place_at side (place_node place) ≡ place
    → channel_of (channel_text channel) ≡ Some channel → length payload ≤ 1528 → AreOctets payload
    → node_named state.topology name ≡ Some (place_node place)
    → comes state (event.Forge place channel payload) ≡ Ok (EventComes (event.Forge place channel payload))
    → words_say state (codes "forge" ∷ text ∷ channel_text channel ∷ hex_digits payload ∷ [])
    ≡ Ok (EventComes (event.Forge place channel payload))
forge_again state name text place side channel payload read back channel_read few are found comes =
    let long : nat_lt 1528 (length payload) ≡ false = grind (arith, nat_tests) in
    rw (read, channel_read, hex_back payload are, long)
    (at_queue state name place side (λ p. event.Forge p channel payload) found back comes)

change_again : (state : ScriptState) (name : List ℕ) (node : NodeId) (prefix : Network) (next : Option Next) → IsName name
    → IsPrefix prefix → IsNext next → node_named state.topology name ≡ Some node
    → comes state (event.Route node (record { prefix = prefix; next = next }))
    ≡ Ok (EventComes (event.Route node (record { prefix = prefix; next = next })))
    → words_say state (change_words name prefix next)
    ≡ Ok (EventComes (event.Route node (record { prefix = prefix; next = next })))
change_again state name node prefix None is prefix_is next_is found comes =
    rw (is, prefix_back prefix prefix_is.0 prefix_is.1)
    (happened state name node (λ n. event.Route n (record { prefix = prefix; next = None })) found comes)
change_again state name node prefix (Some Local) is prefix_is next_is found comes =
    rw (is, prefix_back prefix prefix_is.0 prefix_is.1)
    (happened state name node (λ n. event.Route n (record { prefix = prefix; next = Some Local })) found comes)
change_again state name node prefix (Some (Via port)) is prefix_is next_is found comes =
    rw (
      is,
      prefix_back prefix prefix_is.0 prefix_is.1,
      number_in_back 1 8 port.0 next_is.0 next_is.1 (omega (arith, next_is.1)),
    )
    (happened state name node (λ n. event.Route n (record { prefix = prefix; next = Some (Via port) })) found comes)

event_again : (state : ScriptState) (event : Event) → HasEventWords state.topology event
    → comes state event ≡ Ok (EventComes event) → words_say state (event_words state.topology event) ≡ Ok (EventComes event)
event_again state (event.Inject node octets) has comes =
    send_again state (name_of state.topology node) node octets has.0.0 has.2 has.0.1 comes
event_again state (event.Carry place) has comes =
    let queue = queue_back state.topology place has in
    let named = queue_named state.topology place has in
    carry_again state (name_of state.topology (place_node place)) (place_text state.topology place) place queue.side
    queue.read queue.back named.1 comes
event_again state (event.Lose place) has comes =
    let queue = queue_back state.topology place has in
    let named = queue_named state.topology place has in
    lose_again state (name_of state.topology (place_node place)) (place_text state.topology place) place queue.side
    queue.read queue.back named.1 comes
event_again state (event.Tick node) has comes =
    tick_again state (name_of state.topology node) node has.0 has.1 comes
event_again state (event.TickSwitch node) has comes =
    tick_switch_again state (name_of state.topology node) node has.0 has.1 comes
event_again state (event.Restart node) has comes =
    restart_again state (name_of state.topology node) node has.0 has.1 comes
event_again state (event.RestartSwitch node) has comes =
    restart_switch_again state (name_of state.topology node) node has.0 has.1 comes
event_again state (event.Forge place channel payload) has comes =
    let queue = queue_back state.topology place has.0 in
    let named = queue_named state.topology place has.0 in
    forge_again state (name_of state.topology (place_node place)) (place_text state.topology place) place queue.side
    channel payload queue.read queue.back (channel_back channel has.1 has.2) has.3.1 has.4 named.1 comes
event_again state (event.Route node change) has comes =
    change_again state (name_of state.topology node) node change.prefix change.next has.0.0 has.1 has.2 has.0.1 comes

-- *Any line*
pub line_again : (state : ScriptState) (line : Line) → IsSayable state line
    → words_say state (line_words state.topology line) ≡ Ok line
line_again state Blank is = refl
line_again state (TopologyIs line) is = topology_again state line is.0 is.1 is.2
line_again state (EventComes event) is = event_again state event is.0 (came state event is.1 is.2)
line_again state TickAll is = rw is refl
line_again state (Run rounds) is = rw (number_in_back 1 100000 rounds is.0.0 is.0.1 (omega (arith, is.0.1)), is.1) refl
