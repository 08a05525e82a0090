-- what frames leave of a node that is up

use Rattle.std.proofs.Common.{◌≡◌, ◌≢◌, ℕ, ◌≤◌, ◌+◌, Bool, true, false, List, [], ◌∷◌, length, drop, Option, None, Some, Result, refl, sym, ◌∙◌, ap, subst, arith, if◌then◌else◌, fold, map, sum_by}
use Rattle.std.specs.Prelude.{◌==◌, ◌&&◌, nat_eq, not, Ok, Err, filter}
use Rattle.std.specs.Option.{option_map_or}
use Rattle.std.proofs.lemmas.Bool.Decides.{nat_tests}
use Rattle.std.proofs.lemmas.List.Sums.{sum_by-cons}
use Rattle.world_model.specs.Words.{PortNo, End, Mark, Party, Side, State, Clearing, SynSent, SynRcvd, Estab, HelloKind, Syn, Synack, Ack, Rstack, Reply, Silent, Says, Resets, Row, stays, enters_by_ack, row, Answer, Quiet, Send, Open, Said, Heard, Greeting, is_estab, answer_to, answer_of, followed, heard_in, same_party, greeting_of, gsmp_answer, gsmp_received, PacketFault, EncapsFault, protocol_of, source_of, control_protocol, default_unwrapped, unwrapped, same_end, home_of, number_of_channel, label_end, control_end, RouteChange, Request, AddBranch, MoveBranch, last_transaction, Answered, Unknown, Done, Ports, Failed, answered, after_answer, Action, Ask, Record, Label, Session, Work, counts, used, used_label, hears, halts, halts_if_spent, is_spent, FlowId, label_at, label_for, lowest_spare, packets_in, counted_once, has_room, with_session, wires, counts_flow, counts_by, packet_flow, Linked, linked_at, port_key, with_linked, with_desk, begins, with_work, works, works_as, performs_in_estab, at_port, Rule, forwards_packet, counted_at, ifmp_holds, packet_holds, default_holds, label_holds, gsmp_holds, ForGsmp, ForDefault, ForLabel, frame_holds, default_channel, next_control, with_control, joins_of, releases_input, released_inputs, resets_spent, releases, causes_in_estab, causes, may_clear, clears_of, clears_port, clears, takes_changes, takes_each, takes_answer, leads_home, says_gsmp}
use Rattle.world_model.specs.Controller.{Acted, ports_of, note}
use Rattle.world_model.specs.Gsmp.{answers, steps, message_comes}
use Rattle.world_model.specs.Joins.{Join}
use Rattle.world_model.specs.Meeting.{port_of_input, takes_success}
use Rattle.world_model.specs.adjacency_table.Side as sides
use Rattle.world_model.specs.adjacency_table.Side.{answer_opened}
use Rattle.world_model.specs.adjacency_table.declared.message.Answer.TheVariants.{Reset}
use Rattle.world_model.specs.ipv4_packet.Packet.{first_fault}
use Rattle.world_model.specs.ifmp_wire.Fields.{decoded as ifmp_decoded}
use Rattle.world_model.specs.ifmp_wire.declared.message.Message.{Message as IfmpMessage}
use Rattle.world_model.specs.ifmp_wire.declared.reader.Fault.{Fault as IfmpFault}
use Rattle.world_model.specs.gsmp_wire.Fields.{decoded as gsmp_decoded}
use Rattle.world_model.specs.gsmp_wire.Layout.{octets_of as gsmp_octets}
use Rattle.world_model.specs.gsmp_wire.declared.fault.Fault.{Fault}
use Rattle.world_model.specs.gsmp_wire.declared.message.Message.{Message}
use Rattle.world_model.specs.gsmp_wire.declared.message.Message.TheVariants as messages
use Rattle.world_model.specs.link_model.declared.record.Record.TheVariants as records
use Rattle.world_model.specs.port_model.declared.action.Action.TheVariants as actions
use Rattle.world_model.specs.port_model.Answers as port_answers
use Rattle.world_model.specs.port_model.Resets.{cleared}
use Rattle.law_port_facts.specs.ordered_lists.Ordered.{Every}
use Rattle.law_port_facts.proofs.Keyed.{on_both, at_every, put_every}
use Rattle.law_live_ports.proofs.Joining.{SameRest, sent_rest}
use Rattle.law_live_others.specs.Law.{IsUp}
use Rattle.law_live_others.proofs.Holding.{SameWork, forwards_same}
use Rattle.law_live_numbers.specs.Law.{numbers_of, numbers_for, work_told, work_as, work_by, work_at, IsHarmlessAnswer, IsHarmlessMessage, IsHarmless, NumbersKeepNodesUp, PacketsTakeOneNumber}
use Rattle.law_live_numbers.proofs.Taking.{same_up, rule_up}

-- *A rule that asks nothing* leaves the node up
pub quiet_up : (a : Acted) (q : PortNo) (rule : Rule) → IsUp a → ((linked : Linked) → linked_at a.controller q ≡ Some linked → (rule linked.setup a.controller.desk (begins a linked)).actions ≡ []) → IsUp (at_port a q rule)
quiet_up a q rule up quiet = by (linked_at a.controller q) refl
  where
    by : (o : Option Linked) → linked_at a.controller q ≡ o → IsUp (works a rule o)
    by None found = up
    by (Some linked) found =
        let w : Work = rule linked.setup a.controller.desk (begins a linked) in
        subst (λ (asked : List Action). IsUp (fold (performs_in_estab linked.setup.port) (with_work a linked w) asked)) (sym (quiet linked found)) up

-- *On the channel of a label*
label_up : (a : Acted) (linked : Linked) (label : Label) (mark : Mark) (r : Result (List ℕ) EncapsFault) → IsUp a → IsUp (label_holds a linked label mark r)
label_up a linked label mark (Err fault) up = up
label_up a linked label mark (Ok packet) up =
    quiet_up b linked.setup.port (λ setup desk w. used w label.number) (same_up a b (forwards_same a mark packet).adjacency up) (λ l found. by l (label_at l.port label.number))
  where
    b : Acted
    b = forwards_packet a mark packet

    by : (l : Linked) (o : Option Label) → (used_label (begins b l) o).actions ≡ []
    by l None = refl
    by l (Some label) = refl

-- *On a default channel*
module _ (a : Acted) (q : PortNo) (mark : Mark) (up : IsUp a) where
  told_up : (packet : List ℕ) (r : Result IfmpMessage IfmpFault)
      → ((linked : Linked) → linked_at a.controller q ≡ Some linked → a.controller.desk.next + numbers_for (work_told a linked packet r) ≤ last_transaction) → IsUp (ifmp_holds a q packet r)
  told_up packet (Err fault) low = up
  told_up packet (Ok message) low = rule_up a q (λ setup desk w. hears setup desk w (source_of packet) message) up low

  counted_up : (packet : List ℕ)
      → ((linked : Linked) → linked_at a.controller q ≡ Some linked → a.controller.desk.next + numbers_for (counts linked.setup a.controller.desk (begins a linked) packet) ≤ last_transaction)
      → IsUp (counted_at (forwards_packet a mark packet) q packet)
  counted_up packet low = rule_up b q (λ setup desk w. counts setup desk w packet) (same_up a b same.adjacency up) (λ linked found. subst (λ n. n ≤ last_transaction) (sym (moved linked))
      (low linked (sym (ap (λ ports. linked_at (record a.controller { ports = ports }) q) same.ports) ∙ found)))
    where
      b : Acted
      b = forwards_packet a mark packet

      same : SameWork a b
      same = forwards_same a mark packet

      moved : (linked : Linked) → b.controller.desk.next + numbers_for (counts linked.setup b.controller.desk (begins b linked) packet)
          ≡ a.controller.desk.next + numbers_for (counts linked.setup a.controller.desk (begins a linked) packet)
      moved linked = λ i. (same.desk i).next + numbers_for (counts linked.setup (same.desk i) (record { port = linked.port; actions = []; halted = false; instances = same.instances i }) packet)

  held_as : (packet : List ℕ) (is_message : Bool)
      → ((linked : Linked) → linked_at a.controller q ≡ Some linked → a.controller.desk.next + numbers_for (work_as a linked packet is_message) ≤ last_transaction)
      → IsUp (if is_message then ifmp_holds a q packet (ifmp_decoded (drop 20 packet)) else counted_at (forwards_packet a mark packet) q packet)
  held_as packet true low = told_up packet (ifmp_decoded (drop 20 packet)) low
  held_as packet false low = counted_up packet low

  packet_up : (packet : List ℕ) (o : Option PacketFault)
      → ((linked : Linked) → linked_at a.controller q ≡ Some linked → a.controller.desk.next + numbers_for (work_by a linked packet o) ≤ last_transaction) → IsUp (packet_holds a q mark packet o)
  packet_up packet (Some fault) low = up
  packet_up packet None low = held_as packet (protocol_of packet == control_protocol) low

  default_up : (r : Result (List ℕ) EncapsFault)
      → ((linked : Linked) → linked_at a.controller q ≡ Some linked → a.controller.desk.next + numbers_for (work_at a linked r) ≤ last_transaction) → IsUp (default_holds a q mark r)
  default_up (Err fault) low = up
  default_up (Ok packet) low = packet_up packet (first_fault packet) low

-- *A greeting* in Estab, that isn't RSTACK, is answered at most
abbrev IsSaid : Answer (Said Party) Party → Type 0
IsSaid Quiet = Unit {0}
IsSaid (Send m) = Unit {0}
IsSaid answer = ⊥

abbrev IsReplied : Reply → Type 0
IsReplied Resets = ⊥
IsReplied reply = Unit {0}

pub record IsAnswered (step : sides.Step Party) : Type 0 where
  pub up : is_estab step.side.state ≡ true
  pub said : IsSaid step.answer

pub record IsMild (r : Row) : Type 0 where
  pub up : is_estab r.next ≡ true
  pub replied : IsReplied r.reply

mild_row : (state : State) (kind : HelloKind) (meant known : Bool) → is_estab state ≡ true → kind ≢ Rstack → IsMild (row state kind meant known)
mild_row Clearing kind meant known e other = absurd (cc e)
mild_row SynSent kind meant known e other = absurd (cc e)
mild_row SynRcvd kind meant known e other = absurd (cc e)
mild_row Estab Syn meant known e other = record { up = refl; replied = tt }
mild_row Estab Synack meant known e other = record { up = refl; replied = tt }
mild_row Estab Ack meant known e other = on_both IsMild (meant && known) enters_by_ack (stays Estab (Says Rstack)) (record { up = refl; replied = tt }) (record { up = refl; replied = tt })
mild_row Estab Rstack meant known e other = absurd (other refl)

followed_mildly : (s : Side Party) (m : Heard Party) (r : Row) → is_estab s.state ≡ true → IsMild r → IsAnswered (followed s m r)
followed_mildly s m r estab mild = record { up = mild.up; said = subst (λ (b : Bool). IsSaid (if not b && is_estab r.next then answer_opened s.own (said_by r.reply) else said_by r.reply)) (sym estab) (by r.reply mild.replied) }
  where
    next : Side Party
    next = record { state = r.next; own = s.own; stored = if r.stores then Some m.sender else s.stored; silence = if r.clears_silence then 0 else s.silence }

    said_by : Reply → Answer (Said Party) Party
    said_by reply = answer_of (answer_to next m) reply

    by : (reply : Reply) → IsReplied reply → IsSaid (said_by reply)
    by Silent replied = tt
    by (Says kind) replied = tt
    by Resets replied = absurd replied

module _ (a : Acted) (up : IsUp a) where
  steps_up : (step : sides.Step Party) → IsAnswered step → IsUp (steps a step)
  steps_up step answered_so = by step.answer answered_so.said
    where
      turned : Acted
      turned = record a { controller = record a.controller { adjacency = step.side } }

      by : (answer : Answer (Said Party) Party) → IsSaid answer → IsUp (answers turned (gsmp_answer answer))
      by Quiet is = answered_so.up
      by (Send m) is = same_up turned (says_gsmp turned (messages.Adjacency (greeting_of m))) rest.adjacency answered_so.up
        where
          rest : SameRest turned.controller (says_gsmp turned (messages.Adjacency (greeting_of m))).controller
          rest = sent_rest (record turned { numbers = with_control turned.numbers }) default_channel (next_control turned.numbers) (gsmp_octets (messages.Adjacency (greeting_of m)))
      by (Open m own) is = absurd is
      by Reset is = absurd is

  greeting_up : (greeting : Greeting) → greeting.kind ≢ Rstack → IsUp (steps a (gsmp_received a.controller.adjacency greeting))
  greeting_up greeting other = steps_up (gsmp_received a.controller.adjacency greeting) (followed_mildly a.controller.adjacency (heard_in greeting) (row a.controller.adjacency.state greeting.kind meant known) up
      (mild_row a.controller.adjacency.state greeting.kind meant known up other))
    where
      meant : Bool
      meant = same_party (heard_in greeting).receiver a.controller.adjacency.own

      known : Bool
      known = option_map_or (same_party (heard_in greeting).sender) a.controller.adjacency.stored false

-- *A join that was made*
pub record IsCalmNow (a : Acted) : Type 0 where
  pub up : IsUp a
  pub none_waits : a.controller.waiting ≡ []
  pub unspent : Every (λ (linked : Linked). is_spent linked.port.session ≡ false) a.controller.ports

-- no input is led home by it
none_led : (input to : End) (from : End) → to.port.0 ≢ 0 → (joined : List End) → filter (λ x. leads_home x (home_of x) (MoveBranch input from to)) joined ≡ []
none_led input to from away [] = refl
none_led input to from away (x ∷ joined) = ap (λ (b : Bool). if b then x ∷ rest else rest) (elsewhere (same_end input x) (to.port.0 == 0) (nat_eq to.channel.vpi (home_of x).channel.vpi && nat_eq to.channel.vci (home_of x).channel.vci) apart) ∙ none_led input to from away joined
  where
    rest : List End
    rest = filter (λ y. leads_home y (home_of y) (MoveBranch input from to)) joined

    apart : (to.port.0 == 0) ≡ false
    apart = grind (arith, nat_tests, away)

    elsewhere : (x y z : Bool) → y ≡ false → (x && (y && z)) ≡ false
    elsewhere true true z e = absurd (cc e)
    elsewhere true false z e = refl
    elsewhere false y z e = refl

spent_calm : (a : Acted) (q : PortNo) → IsCalmNow a → IsCalmNow (resets_spent a q)
spent_calm a q calm = by (linked_at a.controller q) refl
  where
    by : (o : Option Linked) → linked_at a.controller q ≡ o → IsCalmNow (works a (λ setup desk w. halts_if_spent w) o)
    by None found = calm
    by (Some linked) found = subst (λ (b : Bool). IsCalmNow (works_as a linked (if b then halts (begins a linked) else begins a linked))) (sym fresh) (record {
      up = calm.up;
      none_waits = calm.none_waits;
      unspent = put_every port_key (λ (x : Linked). is_spent x.port.session ≡ false) (record linked { port = linked.port }) a.controller.ports fresh calm.unspent;
    })
      where
        fresh : is_spent linked.port.session ≡ false
        fresh = at_every port_key (λ (x : Linked). is_spent x.port.session ≡ false) q.0 a.controller.ports linked calm.unspent found

pub all_calm : (ports : List PortNo) (a : Acted) → IsCalmNow a → IsCalmNow (fold resets_spent a ports)
all_calm [] a calm = calm
all_calm (q ∷ ports) a calm = all_calm ports (resets_spent a q) (spent_calm a q calm)

-- what stays then: the node is up, and nothing waits
pub record IsIdle (a : Acted) : Type 0 where
  pub up : IsUp a
  pub none_waits : a.controller.waiting ≡ []

noted_idle : (a : Acted) (linked : Linked) (w : Work) (item : Record) → IsIdle a → IsIdle (fold (performs_in_estab linked.setup.port) (with_work a linked w) (actions.Note item ∷ []))
noted_idle a linked w item idle = on_both IsIdle (is_estab a.controller.adjacency.state) (note (with_work a linked w) item) (with_work a linked w)
    (record { up = idle.up; none_waits = idle.none_waits }) (record { up = idle.up; none_waits = idle.none_waits })

joined_idle : (a : Acted) (input from to : End) (o : Option Linked) → IsIdle a → IsIdle (works a (λ setup desk w. port_answers.done setup w (MoveBranch input from to)) o)
joined_idle a input from to None idle = idle
joined_idle a input from to (Some linked) idle = by (to.port.0 == 0)
  where
    joined_note : Record
    joined_note = records.Join linked.setup.node linked.setup.port (number_of_channel input.channel) to.port (number_of_channel to.channel)

    by : (b : Bool) → IsIdle (works_as a linked (if b then begins a linked else record (begins a linked) { actions = actions.Note joined_note ∷ [] }))
    by true = record { up = idle.up; none_waits = idle.none_waits }
    by false = noted_idle a linked (record (begins a linked) { actions = actions.Note joined_note ∷ [] }) joined_note idle

clear_idle : (a : Acted) (q : PortNo) → IsIdle a → IsIdle (clears_port a q)
clear_idle a q idle = by (linked_at a.controller q)
  where
    by : (o : Option Linked) → IsIdle (clears_of a o)
    by None = idle
    by (Some linked) = on_both IsIdle (may_clear a.controller linked) (with_linked a (record linked { port = cleared linked.port })) a (record { up = idle.up; none_waits = idle.none_waits }) idle

pub all_cleared : (ports : List PortNo) (a : Acted) → IsIdle a → IsIdle (fold clears_port a ports)
all_cleared [] a idle = idle
all_cleared (q ∷ ports) a idle = all_cleared ports (clears_port a q) (clear_idle a q idle)

pub changes_up : (a : Acted) → IsIdle a → IsUp (takes_changes a)
changes_up a idle = on_both IsUp a.controller.has_met (takes_each a a.controller.waiting) a (subst (λ (changes : List RouteChange). IsUp (takes_each a changes)) (sym idle.none_waits) idle.up) idle.up

made_up : (a : Acted) (input from to : End) → to.port.0 ≢ 0 → IsCalmNow a → IsUp (takes_success a (MoveBranch input from to))
made_up a input from to away calm = changes_up (clears caused) (all_cleared (ports_of caused.controller) caused caused_idle)
  where
    request : Request
    request = MoveBranch input from to

    released : Acted
    released = releases a request

    after : (inputs : List End) → inputs ≡ [] → IsCalmNow (fold resets_spent (fold releases_input a inputs) (ports_of (fold releases_input a inputs).controller))
    after inputs none = subst (λ (xs : List End). IsCalmNow (fold resets_spent (fold releases_input a xs) (ports_of (fold releases_input a xs).controller))) (sym none) (all_calm (ports_of a.controller) a calm)

    released_calm : IsCalmNow released
    released_calm = after (released_inputs a.controller request) (none_led input to from away (map (λ (join : Join). join.input) (joins_of a.controller)))

    caused : Acted
    caused = causes released request

    released_idle : IsIdle released
    released_idle = record { up = released_calm.up; none_waits = released_calm.none_waits }

    caused_idle : IsIdle caused
    caused_idle = on_both IsIdle (is_estab released.controller.adjacency.state) (causes_in_estab released request) released
        (joined_idle released input from to (linked_at released.controller (port_of_input input to)) released_idle) released_idle

module _ (a : Acted) (up : IsUp a) where
  answered_up : (answer : Answered) → IsHarmlessAnswer a answer → IsUp (takes_answer a answer)
  answered_up Unknown harmless = up
  answered_up (Done s) made = subst (λ (request : Request). IsUp (takes_success b request)) (sym made.is) (made_up b made.input made.from made.to made.to_link (record { up = up; none_waits = made.none_waits; unspent = made.unspent }))
    where
      b : Acted
      b = with_desk a (after_answer a.controller.desk (Done s))
  answered_up (Ports s rows) harmless = absurd harmless
  answered_up (Failed s code) harmless = absurd harmless

  message_up : (message : Message) → IsHarmlessMessage a message → IsUp (message_comes a message)
  message_up (messages.Adjacency greeting) harmless = greeting_up a up greeting harmless
  message_up (messages.Branch kind result code number session input_port input output_port output branches priority) harmless =
      answered_up (answered a.controller.desk (messages.Branch kind result code number session input_port input output_port output branches priority)) harmless
  message_up (messages.Move result code number session input_port input output_port output target_port target branches priority) harmless =
      answered_up (answered a.controller.desk (messages.Move result code number session input_port input output_port output target_port target branches priority)) harmless
  message_up (messages.Port result code number port_named session function) harmless = answered_up (answered a.controller.desk (messages.Port result code number port_named session function)) harmless
  message_up (messages.AllPorts result code number rows) harmless = answered_up (answered a.controller.desk (messages.AllPorts result code number rows)) harmless

  gsmp_up : (r : Result Message Fault) → IsHarmless a r → IsUp (gsmp_holds a r)
  gsmp_up (Ok message) harmless = message_up message harmless
  gsmp_up (Err fault) harmless = up

pub nodes_stay_up : NumbersKeepNodesUp
nodes_stay_up a ForGsmp mark payload up harmless = gsmp_up a up (gsmp_decoded payload) harmless
nodes_stay_up a (ForDefault q) mark payload up low = default_up a q.setup.port mark up (default_unwrapped payload) low
nodes_stay_up a (ForLabel q label) mark payload up low = label_up a q label mark (unwrapped label.flow payload) up

-- *A packet that is counted* asks for one branch at most
none_asked : (w : Work) → w.actions ≡ [] → numbers_for w ≤ 1
none_asked w e = low (numbers_for w) (ap (sum_by (numbers_of (length w.port.grants))) e)
  where
    low : (n : ℕ) → n ≡ 0 → n ≤ 1
    low n e = omega (arith, e)

one_asked : (w : Work) (request : Request) → w.actions ≡ Ask request false ∷ [] → numbers_for w ≤ 1
one_asked w request e = low (numbers_for w) (ap (sum_by (numbers_of (length w.port.grants))) e ∙ sum_by-cons (numbers_of (length w.port.grants)) (Ask request false) [])
  where
    low : (n : ℕ) → n ≡ 1 + 0 → n ≤ 1
    low n e = omega (arith, e)

module _ (a : Acted) (linked : Linked) where
  abbrev begun : Work
  begun = begins a linked

  module _ (s : Session) (flow : FlowId) where
    abbrev s_counted : Session
    s_counted = record s { counted = counted_once s.counted flow }

    abbrev w_counted : Work
    w_counted = with_session begun (λ old. s_counted)

    wires_one : (o : Option ℕ) → numbers_for (wires linked.setup w_counted flow o) ≤ 1
    wires_one None = none_asked w_counted refl
    wires_one (Some number) = one_asked (wires linked.setup w_counted flow (Some number)) (AddBranch (label_end linked.setup.port number) (control_end linked.setup.port number)) refl

    flow_one : (o : Option Label) → numbers_for (counts_flow linked.setup a.controller.desk begun s flow o) ≤ 1
    flow_one None = on_both (λ (w : Work). numbers_for w ≤ 1) (linked.setup.policy.offers flow (packets_in s_counted.counted flow) && has_room a.controller.desk w_counted)
        (wires linked.setup w_counted flow (lowest_spare linked.setup s.least s.greatest s.labels)) w_counted
        (wires_one (lowest_spare linked.setup s.least s.greatest s.labels)) (none_asked w_counted refl)
    flow_one (Some label) = none_asked (used_label begun (Some label)) refl

  counted_one : (o : Option Session) (flow : Option FlowId) → numbers_for (counts_by linked.setup a.controller.desk begun o flow) ≤ 1
  counted_one None flow = none_asked begun refl
  counted_one (Some s) None = none_asked begun refl
  counted_one (Some s) (Some flow) = flow_one s flow (label_for s.labels flow)

pub packets_take_one : PacketsTakeOneNumber
packets_take_one a linked packet = counted_one a linked linked.port.session (packet_flow packet)
