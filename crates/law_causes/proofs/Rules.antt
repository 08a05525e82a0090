-- what a few changes of a controller keep, each of its rules keeps

use Rattle.std.proofs.Common.{◌≡◌, ℕ, Bool, true, false, List, [], ◌∷◌, map, flat_map, ◌+◌, ◌++◌, Option, None, Some, refl, sym, subst, arith, if◌then◌else◌, fold}
use Rattle.std.specs.Prelude.{◌==◌, drop, Result, Ok, Err}
use Rattle.std.specs.Option.{option_map_or, unwrap_or}
use Rattle.law_cell_lists.specs.world_model.Words.{PortNo, Channel, End, Mark, Party, Greeting, HelloKind, Syn, Synack, Rstack, Ack, next_control, with_control, next_instance, number_of_channel, protocol_of, source_of, ifmp_packet_of, PacketFault, hop_of, onward, changed, RouteChange, Hop, Here, On, kind_of, default_payload, labelled_payload, default_unwrapped, unwrapped, EncapsFault, Request, AddBranch, MoveBranch, DeleteTree, VerifyTree, PortManagement, SynSent, Answer, Quiet, Send, Open, Heard, Said, Reply, Silent, Says, Resets, Row, row, tick_reply, Side, fresh, is_estab, said, answer_to, answer_of, is_entry, followed, followed_tick, ticked, greeting_of, gsmp_answer, gsmp_received, heard_in, same_party, nobody, Record, Bad, Delivered, Dropped, Part, Routes, encaps_refusal, packet_refusal, ifmp_refusal, gsmp_refusal, next_mark, at, Desk, Standing, withdrawn, is_led_home, last_transaction, empty_desk, sent_again, Answered, Unknown, Done, Ports, Failed, answered, after_answer, Action, home_of, control_end, Label, Grant, Work, counts, used, hears, resets, restarts, halts_if_spent, Linked, linked_at, with_linked, with_desk, port_key, default_channel, default_end, default_home, sends_control, says_gsmp, says_ifmp, sends_request, asks_next, asks, takes_back, cuts_label, cuts_default, cuts_gsmp, begins, with_work, closes_by, port_restarts_of, port_restarts, resets_gsmp, node_resets, node_restarts, does, does_in_estab, resets_of, resets_port, performs, performs_in_estab, Rule, works, at_port, join_of, parts, gives_back, releases_join, releases_input, released_inputs, resets_spent, releases, join_for, may_join, enters_grant, enters_label, joins, tries_label, label_on, tries_join, inputs_at, tries_joins, changed_joins, takes_join_back, begins_change, takes_change, may_take, takes_each, takes_changes, change_comes, meets, up_ports, default_branches, ends_meeting, has_emptied, tells_port, behind_delete_all, causes_in_estab, causes, may_clear, clears_of, clears_port, clears, takes_answer, answer_comes, gsmp_holds, is_control, sends_next, goes_by, grant_by, forwards_packet, control_protocol, label_holds, ifmp_holds, counted_at, packet_holds, default_holds, frame_holds, ForGsmp, ForDefault, ForLabel, sends_again, ticks_port, ticks_ports, ticks_by}
use Rattle.law_cell_lists.specs.world_model.ipv4_packet.Packet.{first_fault}
use Rattle.law_cell_lists.specs.world_model.ipv4_forward.declared.outcome.Hop.TheVariants.{NoRoute, Expired}
use Rattle.law_cell_lists.specs.world_model.ifmp_wire.declared.message.Message.{Message as IfmpMessage}
use Rattle.law_cell_lists.specs.world_model.ifmp_wire.declared.reader.Fault.{Fault as IfmpFault}
use Rattle.law_cell_lists.specs.world_model.ifmp_wire.Fields.{decoded as ifmp_decoded}
use Rattle.law_cell_lists.specs.world_model.ifmp_wire.Message.{octets_of as ifmp_octets}
use Rattle.law_cell_lists.specs.world_model.gsmp_wire.declared.fault.Fault.{Fault as GsmpFault}
use Rattle.law_cell_lists.specs.world_model.gsmp_wire.declared.message.Message.{Message}
use Rattle.law_cell_lists.specs.world_model.gsmp_wire.declared.message.Message.TheVariants as messages
use Rattle.law_cell_lists.specs.world_model.gsmp_wire.declared.request.Request.TheVariants.{DeleteAll, AllPorts}
use Rattle.law_cell_lists.specs.world_model.gsmp_wire.Layout.{octets_of as gsmp_octets}
use Rattle.law_cell_lists.specs.world_model.gsmp_wire.Fields.{decoded as gsmp_decoded}
use Rattle.law_cell_lists.specs.world_model.adjacency_table.declared.message.Answer.TheVariants.{Reset}
use Rattle.law_cell_lists.specs.world_model.adjacency_table.Side as sides
use Rattle.law_cell_lists.specs.world_model.adjacency_table.Side.{answer_opened, counted}
use Rattle.law_cell_lists.specs.world_model.link_model.declared.record.Layer.TheVariants as layers
use Rattle.law_cell_lists.specs.world_model.link_model.declared.record.DropCause.TheVariants as drop_causes
use Rattle.law_controller_bindings.specs.ordered_lists.Ordered.{Every}
use Rattle.law_cell_lists.specs.world_model.port_model.Desk.{asked, message_at}
use Rattle.law_cell_lists.specs.world_model.port_model.declared.action.Action.TheVariants as actions
use Rattle.law_cell_lists.specs.world_model.port_model.Port.{Port}
use Rattle.law_cell_lists.specs.world_model.port_model.Answers as port_answers
use Rattle.law_cell_lists.specs.world_model.port_model.Joins as port_joins
use Rattle.law_cell_lists.specs.world_model.port_model.Resets.{cleared}
use Rattle.law_cell_lists.specs.world_model.port_model.Ticks as port_ticks
use Rattle.law_controller_bindings.proofs.law_port_facts.Keyed.{on_both, at_key}
use Rattle.law_controller_bindings.proofs.law_controller_facts.Lifetimes.{decoded_lives}
use Rattle.law_cell_lists.specs.world_model.Controller.{Acted, ports_of, note}
use Rattle.law_cell_lists.specs.world_model.Sending.{sends}
use Rattle.law_cell_lists.specs.world_model.Joins.{Join, output_joined}
use Rattle.law_cell_lists.specs.world_model.Meeting.{request_port, takes_success}
use Rattle.law_cell_lists.specs.world_model.Gsmp.{answers, steps, message_comes}
use Rattle.law_cell_lists.specs.world_model.Packets.{forwarded}
use Rattle.law_cell_lists.specs.world_model.Cells.{opened_frame, Taker}
use Rattle.law_cell_lists.specs.world_model.Ticks.{ticks}
use Rattle.law_causes.proofs.Sizes.{HasLength, IsShort, default_length, labelled_length, onward_short, fault_short, unwrapped_short, ifmp_length, request_length, HasName, greeting_length, decoded_names}
use Rattle.law_causes.proofs.Calm.{IsCalm, calm_notes, calm_binding}
use Rattle.law_causes.proofs.Noting.{IsCalmAction, Calm, worked_calm}
use Rattle.law_lifetimes.proofs.law_rule_walks.Ports.{by_rule, by_reset, by_restart, by_steps, by_using, by_counting, by_closing, by_parting, by_joining, by_lending, by_giving_back}
use Rattle.law_controller_bindings.proofs.law_port_facts.Rules.{done_goes}
use Rattle.law_controller_bindings.proofs.law_port_facts.Hearings.{hears_goes, ticks_goes}

-- *The names of an adjacency* have 6 octets
pub record IsNamed (side : Side Party) : Type 0 where
  pub own : HasName side.own
  pub stored : (party : Party) → side.stored ≡ Some party → HasName party

pub record IsHeard (m : Heard Party) : Type 0 where
  pub sender : HasName m.sender
  pub receiver : HasName m.receiver

pub record IsSaid (m : Said Party) : Type 0 where
  pub sender : HasName m.sender
  pub receiver : (party : Party) → m.receiver ≡ Some party → HasName party

abbrev pub AnswersNamed : Answer (Said Party) Party → Type 0
AnswersNamed Quiet = Unit {0}
AnswersNamed (Send m) = IsSaid m
AnswersNamed (Open None own) = Unit {0}
AnswersNamed (Open (Some m) own) = IsSaid m
AnswersNamed Reset = Unit {0}

said_named : (a : Side Party) (kind : HelloKind) → IsNamed a → IsSaid (said a kind)
said_named a Syn h = record { sender = h.own; receiver = λ party e. absurd (cc e) }
said_named a Synack h = record { sender = h.own; receiver = h.stored }
said_named a Rstack h = record { sender = h.own; receiver = h.stored }
said_named a Ack h = record { sender = h.own; receiver = h.stored }

answer_named : (a : Side Party) (m : Heard Party) (kind : HelloKind) → IsNamed a → IsHeard m → IsSaid (answer_to a m kind)
answer_named a m Rstack h k = record { sender = k.receiver; receiver = λ party e. (let same : m.sender ≡ party = cc in subst HasName same k.sender) }
answer_named a m Syn h k = said_named a Syn h
answer_named a m Synack h k = said_named a Synack h
answer_named a m Ack h k = said_named a Ack h

reply_named : (says : HelloKind → Said Party) → ((kind : HelloKind) → IsSaid (says kind)) → (reply : Reply) → AnswersNamed (answer_of says reply)
reply_named says each Silent = tt
reply_named says each (Says kind) = each kind
reply_named says each Resets = tt

opened_named : (own : Party) (answer : Answer (Said Party) Party) → AnswersNamed answer → AnswersNamed (answer_opened own answer)
opened_named own Quiet h = tt
opened_named own (Send m) h = h
opened_named own (Open None key) h = h
opened_named own (Open (Some m) key) h = h
opened_named own Reset h = h

stored_named : (a : Side Party) (m : Heard Party) (stores : Bool) → IsNamed a → IsHeard m → (party : Party) → (if stores then Some m.sender else a.stored) ≡ Some party → HasName party
stored_named a m true h k party e = (let same : m.sender ≡ party = cc in subst HasName same k.sender)
stored_named a m false h k party e = h.stored party e

pub followed_named : (a : Side Party) (m : Heard Party) (r : Row) → IsNamed a → IsHeard m → IsNamed (followed a m r).side × AnswersNamed (followed a m r).answer
followed_named a m r h k =
    let next : Side Party = record { state = r.next; own = a.own; stored = if r.stores then Some m.sender else a.stored; silence = if r.clears_silence then 0 else a.silence } in
    let named : IsNamed next = record { own = h.own; stored = stored_named a m r.stores h k } in
    let answer : AnswersNamed (answer_of (answer_to next m) r.reply) = reply_named (answer_to next m) (λ kind. answer_named next m kind named k) r.reply in
    (named, on_both AnswersNamed (is_entry a.state r.next) (answer_opened a.own (answer_of (answer_to next m) r.reply)) (answer_of (answer_to next m) r.reply) (opened_named a.own (answer_of (answer_to next m) r.reply) answer) answer)

pub received_named : (a : Side Party) (greeting : Greeting) → HasName greeting.sender → HasName greeting.receiver → IsNamed a → IsNamed (gsmp_received a greeting).side × AnswersNamed (gsmp_received a greeting).answer
received_named a greeting sender receiver h =
    followed_named a (heard_in greeting) (row a.state greeting.kind (same_party greeting.receiver a.own) (option_map_or (same_party greeting.sender) a.stored false)) h (record { sender = sender; receiver = receiver })

pub ticked_named : (a : Side Party) → IsNamed a → IsNamed (ticked a).side × AnswersNamed (ticked a).answer
ticked_named a h = by_reply (tick_reply a.state (counted a.state a.silence))
  where
    by_reply : (reply : Reply) → IsNamed (followed_tick a reply).side × AnswersNamed (followed_tick a reply).answer
    by_reply Silent = (record { own = h.own; stored = h.stored }, tt)
    by_reply (Says kind) = (record { own = h.own; stored = h.stored }, said_named a kind h)
    by_reply Resets = (h, tt)

pub saying_length : (m : Said Party) → IsSaid m → HasLength (gsmp_octets (messages.Adjacency (greeting_of m)))
saying_length m h = greeting_length (greeting_of m) h.sender (by_receiver m.receiver h.receiver)
  where
    by_receiver : (o : Option Party) → ((party : Party) → o ≡ Some party → HasName party) → HasName (unwrap_or o nobody)
    by_receiver None e = omega arith
    by_receiver (Some party) e = e party refl

-- *What is the same* of a controller for its cells
pub record IsAlike (a b : Acted) : Type 0 where
  pub node : b.controller.node ≡ a.controller.node
  pub queue : b.controller.queue ≡ a.controller.queue
  pub reassembly : b.controller.reassembly ≡ a.controller.reassembly
  pub ports : b.controller.ports ≡ a.controller.ports
  pub adjacency : b.controller.adjacency ≡ a.controller.adjacency
  pub notes : b.notes ≡ a.notes

abbrev pub with_side : Acted → Side Party → Acted
with_side a side = record a { controller = record a.controller { adjacency = side } }

-- *What a few changes keep*
pub record Kept (P : Acted → Type 0) : Type 0 where
  pub alike : (a b : Acted) → IsAlike a b → P a → P b
  pub named : (a : Acted) → P a → IsNamed a.controller.adjacency
  pub turned : (a : Acted) (side : Side Party) → IsNamed side → P a → P (with_side a side)
  pub noted : (a : Acted) (item : Record) → IsCalm item → P a → P (note a item)
  pub sent : (a : Acted) (channel : Channel) (mark : Mark) (payload : List ℕ) → HasLength payload → P a → P (sends a channel mark payload)
  pub placed : (a : Acted) (linked : Linked) (port : Port) → linked_at a.controller linked.setup.port ≡ Some linked → P a → P (with_linked a (record linked { port = port }))
  pub cut_label : (port : PortNo) (a : Acted) (label : ℕ) → P a → P (cuts_label port a label)
  pub cut_default : (a : Acted) (port : PortNo) → P a → P (cuts_default a port)
  pub cut_gsmp : (a : Acted) → P a → P (cuts_gsmp a)

alike : (a b : Acted) → b.controller.node ≡ a.controller.node → b.controller.queue ≡ a.controller.queue → b.controller.reassembly ≡ a.controller.reassembly → b.controller.ports ≡ a.controller.ports → b.controller.adjacency ≡ a.controller.adjacency → b.notes ≡ a.notes → IsAlike a b
alike a b o q r p s n = record { node = o; queue = q; reassembly = r; ports = p; adjacency = s; notes = n }

pub fold_kept : {X : Type 0} (P : Acted → Type 0) (f : Acted → X → Acted) → ((a : Acted) (x : X) → P a → P (f a x)) → (xs : List X) (a : Acted) → P a → P (fold f a xs)
fold_kept P f each [] a h = h
fold_kept P f each (x ∷ xs) a h = fold_kept P f each xs (f a x) (each a x h)

pub fold_each : {X : Type 0} (P : Acted → Type 0) (Q : X → Type 0) (f : Acted → X → Acted) → ((a : Acted) (x : X) → Q x → P a → P (f a x)) → (xs : List X) → Every Q xs → (a : Acted) → P a → P (fold f a xs)
fold_each P Q f each [] all a h = h
fold_each P Q f each (x ∷ xs) all a h = fold_each P Q f each xs all.1 (f a x) (each a x all.0 h)

-- *Joins are tried*, where it is kept as one is asked for, as its grant is lent and as its label is joined
module _ (P : Acted → Type 0) (asked : (a : Acted) (request : Request) → P a → P (asks a request)) (lent : (a : Acted) (join : Join) → P a → P (enters_grant a join))
    (joined : (a : Acted) (join : Join) → P a → P (enters_label a join)) where
  joins_kept : (a : Acted) (o : Option Join) → P a → P (joins a o)
  joins_kept a None h = h
  joins_kept a (Some join) h = asked (enters_label (enters_grant a join) join) (MoveBranch join.input (home_of join.input) (output_joined join)) (joined (enters_grant a join) join (lent a join h))

  tries_join_kept : (a : Acted) (input : End) → P a → P (tries_join a input)
  tries_join_kept a input h = by_label (label_on a.controller input)
    where
      by_label : (o : Option Label) → P (tries_label a input o)
      by_label None = h
      by_label (Some label) = on_both P (may_join a.controller input label) (joins a (join_for a.controller input label.flow)) a (joins_kept a (join_for a.controller input label.flow) h) h

  pub tries_joins_kept : (a : Acted) → P a → P (tries_joins a)
  tries_joins_kept a h = fold_kept P tries_join tries_join_kept (flat_map inputs_at a.controller.ports) a h

module _ (P : Acted → Type 0) (k : Kept P) where
  same : (a b : Acted) → b.controller.node ≡ a.controller.node → b.controller.queue ≡ a.controller.queue → b.controller.reassembly ≡ a.controller.reassembly → b.controller.ports ≡ a.controller.ports → b.controller.adjacency ≡ a.controller.adjacency → b.notes ≡ a.notes → P a → P b
  same a b o q r p s n h = k.alike a b (alike a b o q r p s n) h

  -- *Sending*
  control_kept : (a : Acted) (channel : Channel) (payload : List ℕ) → HasLength payload → P a → P (sends_control a channel payload)
  control_kept a channel payload size h = k.sent (record a { numbers = with_control a.numbers }) channel (next_control a.numbers) payload size (same a (record a { numbers = with_control a.numbers }) refl refl refl refl refl refl h)

  ifmp_kept : (port : PortNo) (a : Acted) (message : IfmpMessage) → P a → P (says_ifmp port a message)
  ifmp_kept port a message h = control_kept a (default_home port).channel (default_payload (ifmp_packet_of a.controller.address (ifmp_octets message))) (ifmp_length a.controller.address message) h

  request_kept : (a : Acted) (s : Standing) → P a → P (sends_request a s)
  request_kept a s h = control_kept a default_channel (gsmp_octets (message_at a.controller.desk s)) (request_length a.controller.desk s) h

  desk_kept : (a : Acted) (desk : Desk) → P a → P (with_desk a desk)
  desk_kept a desk h = same a (with_desk a desk) refl refl refl refl refl refl h

  -- *A port at work, put back*
  work_kept : (a : Acted) (linked : Linked) (w : Work) → linked_at a.controller linked.setup.port ≡ Some linked → P a → P (with_work a linked w)
  work_kept a linked w found h = k.placed (record a { numbers = record a.numbers { instances = w.instances } }) linked w.port found (same a (record a { numbers = record a.numbers { instances = w.instances } }) refl refl refl refl refl refl h)

  -- *Node reset*
  closes_kept : (port : PortNo) (a : Acted) (action : Action) → IsCalmAction IsCalm action → P a → P (closes_by port a action)
  closes_kept port a (actions.Say message) calm h = h
  closes_kept port a (actions.Ask request needed) calm h = h
  closes_kept port a (actions.Note item) calm h = k.noted a item calm h
  closes_kept port a (actions.CutChain label) calm h = k.cut_label port a label h
  closes_kept port a (actions.TakeBack input output) calm h = h
  closes_kept port a (actions.Withdraw input) calm h = h
  closes_kept port a actions.Reset calm h = h

  abbrev Own : Acted → Linked → Type 0
  Own a linked = linked_at a.controller linked.setup.port ≡ Some linked

  restarts_of_kept : (a : Acted) (o : Option Linked) → ((linked : Linked) → o ≡ Some linked → Own a linked) → P a → P (port_restarts_of a o)
  restarts_of_kept a None own h = h
  restarts_of_kept a (Some linked) own h =
      let w : Work = restarts linked.setup (begins a linked) in
      fold_each P (IsCalmAction IsCalm) (closes_by linked.setup.port) (closes_kept linked.setup.port) w.actions (worked_calm IsCalm calm_notes linked.setup a.controller.desk (begins a linked) by_restart tt) (with_work a linked w) (work_kept a linked w (own linked refl) h)

  own_at : (a : Acted) (port : PortNo) (linked : Linked) → linked_at a.controller port ≡ Some linked → Own a linked
  own_at a port linked found = subst (λ n. at port_key n a.controller.ports ≡ Some linked) (sym (at_key port_key port.0 a.controller.ports linked found)) found

  restarts_kept : (a : Acted) (port : PortNo) → P a → P (port_restarts a port)
  restarts_kept a port h = restarts_of_kept a (linked_at a.controller port) (own_at a port) h

  node_kept : (a : Acted) → P a → P (node_resets a)
  node_kept a h =
      let own : Party = record a.controller.adjacency.own { instance = next_instance a.numbers } in
      let sided : P (with_side a (fresh SynSent own)) = k.turned a (fresh SynSent own) (record { own = (k.named a h).own; stored = λ party e. absurd (cc e) }) h in
      fold_kept P port_restarts restarts_kept (ports_of a.controller) (resets_gsmp a) (same (with_side a (fresh SynSent own)) (resets_gsmp a) refl refl refl refl refl refl sided)

  pub node_restarts_kept : (a : Acted) → P a → P (node_restarts a)
  node_restarts_kept a h = fold_kept P cuts_default k.cut_default (ports_of a.controller) (cuts_gsmp (node_resets a)) (k.cut_gsmp (node_resets a) (node_kept a h))

  -- *Asking*
  asks_kept : (a : Acted) (request : Request) → P a → P (asks a request)
  asks_kept a request h = on_both P (is_estab a.controller.adjacency.state) (if a.controller.desk.next == last_transaction then node_resets a else asks_next a request) a
      (on_both P (a.controller.desk.next == last_transaction) (node_resets a) (asks_next a request) (node_kept a h)
      (request_kept (with_desk a (asked a.controller.desk request)) _ (desk_kept a (asked a.controller.desk request) h))) h

  takes_back_kept : (a : Acted) (input output : End) → P a → P (takes_back a input output)
  takes_back_kept a input output h = on_both P (is_led_home a.controller.desk input (home_of input)) a (asks a (MoveBranch input output (home_of input))) h (asks_kept a (MoveBranch input output (home_of input)) h)

  -- *Actions*
  does_kept : (port : PortNo) (a : Acted) (action : Action) → IsCalmAction IsCalm action → P a → P (does port a action)
  does_kept port a (actions.Say message) calm h = ifmp_kept port a message h
  does_kept port a (actions.Ask request needed) calm h = asks_kept a request h
  does_kept port a (actions.Note item) calm h = k.noted a item calm h
  does_kept port a (actions.CutChain label) calm h = k.cut_label port a label h
  does_kept port a (actions.TakeBack input output) calm h = takes_back_kept a input output h
  does_kept port a (actions.Withdraw input) calm h = desk_kept a (withdrawn a.controller.desk input) h
  does_kept port a actions.Reset calm h = h

  does_in_kept : (port : PortNo) (a : Acted) (action : Action) → IsCalmAction IsCalm action → P a → P (does_in_estab port a action)
  does_in_kept port a action calm h = on_both P (is_estab a.controller.adjacency.state) (does port a action) a (does_kept port a action calm h) h

  resets_of_kept : (a : Acted) (o : Option Linked) → ((linked : Linked) → o ≡ Some linked → Own a linked) → P a → P (resets_of a o)
  resets_of_kept a None own h = h
  resets_of_kept a (Some linked) own h =
      let w : Work = resets linked.setup (begins a linked) in
      fold_each P (IsCalmAction IsCalm) (does_in_estab linked.setup.port) (does_in_kept linked.setup.port) w.actions (worked_calm IsCalm calm_notes linked.setup a.controller.desk (begins a linked) by_reset tt) (with_work a linked w) (work_kept a linked w (own linked refl) h)

  resets_kept : (a : Acted) (port : PortNo) → P a → P (resets_port a port)
  resets_kept a port h = resets_of_kept a (linked_at a.controller port) (own_at a port) h

  performs_kept : (port : PortNo) (a : Acted) (action : Action) → IsCalmAction IsCalm action → P a → P (performs port a action)
  performs_kept port a (actions.Say message) calm h = does_kept port a (actions.Say message) calm h
  performs_kept port a (actions.Ask request needed) calm h = does_kept port a (actions.Ask request needed) calm h
  performs_kept port a (actions.Note item) calm h = does_kept port a (actions.Note item) calm h
  performs_kept port a (actions.CutChain label) calm h = does_kept port a (actions.CutChain label) calm h
  performs_kept port a (actions.TakeBack input output) calm h = does_kept port a (actions.TakeBack input output) calm h
  performs_kept port a (actions.Withdraw input) calm h = does_kept port a (actions.Withdraw input) calm h
  performs_kept port a actions.Reset calm h = resets_kept a port h

  performs_in_kept : (port : PortNo) (a : Acted) (action : Action) → IsCalmAction IsCalm action → P a → P (performs_in_estab port a action)
  performs_in_kept port a action calm h = on_both P (is_estab a.controller.adjacency.state) (performs port a action) a (performs_kept port a action calm h) h

  at_port_kept : (a : Acted) (port : PortNo) (rule : Rule) → ((linked : Linked) → Calm IsCalm (rule linked.setup a.controller.desk (begins a linked))) → P a → P (at_port a port rule)
  at_port_kept a port rule calm h = by_found (linked_at a.controller port) (own_at a port)
    where
      by_found : (o : Option Linked) → ((linked : Linked) → o ≡ Some linked → Own a linked) → P (works a rule o)
      by_found None own = h
      by_found (Some linked) own =
          let w : Work = rule linked.setup a.controller.desk (begins a linked) in
          fold_each P (IsCalmAction IsCalm) (performs_in_estab linked.setup.port) (performs_in_kept linked.setup.port) w.actions (calm linked) (with_work a linked w) (work_kept a linked w (own linked refl) h)

  -- *Joins*
  parts_kept : (a : Acted) (input : End) → P a → P (parts a input)
  parts_kept a input h = at_port_kept (note a (Part a.controller.node input.port (number_of_channel input.channel))) input.port (λ setup desk w. port_joins.parted w (number_of_channel input.channel))
      (λ linked. worked_calm IsCalm calm_notes linked.setup a.controller.desk (begins (note a (Part a.controller.node input.port (number_of_channel input.channel))) linked) (by_rule _ (by_parting (number_of_channel input.channel))) tt) (k.noted a _ refl h)

  gives_back_kept : (a : Acted) (join : Join) → P a → P (gives_back a join)
  gives_back_kept a join h = at_port_kept a join.port (λ setup desk w. port_joins.given_back w join.grant) (λ linked. worked_calm IsCalm calm_notes linked.setup a.controller.desk (begins a linked) (by_rule _ (by_giving_back join.grant)) tt) h

  releases_input_kept : (a : Acted) (input : End) → P a → P (releases_input a input)
  releases_input_kept a input h = by_join (join_of a.controller input)
    where
      by_join : (o : Option Join) → P (releases_join a o)
      by_join None = h
      by_join (Some join) = gives_back_kept (parts a join.input) join (parts_kept a join.input h)

  resets_spent_kept : (a : Acted) (port : PortNo) → P a → P (resets_spent a port)
  resets_spent_kept a port h = at_port_kept a port (λ setup desk w. halts_if_spent w) (λ linked. worked_calm IsCalm calm_notes linked.setup a.controller.desk (begins a linked) (by_rule _ by_closing) tt) h

  releases_kept : (a : Acted) (request : Request) → P a → P (releases a request)
  releases_kept a request h =
      let released : Acted = fold releases_input a (released_inputs a.controller request) in
      fold_kept P resets_spent resets_spent_kept (ports_of released.controller) released (fold_kept P releases_input releases_input_kept (released_inputs a.controller request) a h)

  enters_grant_kept : (a : Acted) (join : Join) → P a → P (enters_grant a join)
  enters_grant_kept a join h = at_port_kept a join.port (λ setup desk w. port_joins.lent w join.grant join.input) (λ linked. worked_calm IsCalm calm_notes linked.setup a.controller.desk (begins a linked) (by_rule _ (by_lending join.grant join.input)) tt) h

  enters_label_kept : (a : Acted) (join : Join) → P a → P (enters_label a join)
  enters_label_kept a join h = at_port_kept a join.input.port (λ setup desk w. port_joins.joined w (number_of_channel join.input.channel) (output_joined join)) (λ linked. worked_calm IsCalm calm_notes linked.setup a.controller.desk (begins a linked) (by_rule _ (by_joining (number_of_channel join.input.channel) (output_joined join))) tt) h

  -- *Changes of routes*
  begins_change_kept : (a : Acted) (change : RouteChange) → P a → P (begins_change a change)
  begins_change_kept a change h = on_both P a.controller.is_begun a _ h
      (fold_kept P takes_join_back (λ b join q. takes_back_kept b join.input (output_joined join) q) (changed_joins a.controller change) (record a { controller = record a.controller { is_begun = true } })
      (same a (record a { controller = record a.controller { is_begun = true } }) refl refl refl refl refl refl h))

  takes_change_kept : (a : Acted) (change : RouteChange) (later : List RouteChange) → P a → P (takes_change a change later)
  takes_change_kept a change later h =
      let taken : Acted = record a { controller = record a.controller { table = changed a.controller.table change; waiting = later; is_begun = false; changes = a.controller.changes + 1 } } in
      k.noted taken (Routes a.controller.node (a.controller.changes + 1)) refl (same a taken refl refl refl refl refl refl h)

  takes_each_kept : (a : Acted) (changes : List RouteChange) → P a → P (takes_each a changes)
  takes_each_kept a [] h = h
  takes_each_kept a (change ∷ later) h =
      let begun : Acted = begins_change a change in
      let b : P begun = begins_change_kept a change h in
      on_both P (may_take begun.controller change) (takes_each (takes_change begun change later) later) begun (takes_each_kept (takes_change begun change later) later (takes_change_kept begun change later b)) b

  takes_changes_kept : (a : Acted) → P a → P (takes_changes a)
  takes_changes_kept a h = on_both P a.controller.has_met (takes_each a a.controller.waiting) a (takes_each_kept a a.controller.waiting h) h

  pub change_comes_kept : (a : Acted) (change : RouteChange) → P a → P (change_comes a change)
  change_comes_kept a change h =
      let waits : Acted = record a { controller = record a.controller { waiting = a.controller.waiting ++ change ∷ [] } } in
      takes_changes_kept waits (same a waits refl refl refl refl refl refl h)

  -- *Meeting and answers*
  asks_each_kept : (requests : List Request) (a : Acted) → P a → P (fold asks a requests)
  asks_each_kept requests a h = fold_kept P asks asks_kept requests a h

  meets_kept : (a : Acted) → P a → P (meets a)
  meets_kept a h = asks_kept (with_desk a empty_desk) AllPorts (desk_kept a empty_desk h)

  ends_meeting_kept : (a : Acted) → P a → P (ends_meeting a)
  ends_meeting_kept a h = asks_each_kept (flat_map default_branches (up_ports a.controller)) (record a { controller = record a.controller { has_met = true } })
      (same a (record a { controller = record a.controller { has_met = true } }) refl refl refl refl refl refl h)

  tells_kept : (a : Acted) (request : Request) (o : Option PortNo) → P a → P (tells_port a request o)
  tells_kept a request None h = h
  tells_kept a request (Some port) h = at_port_kept a port (λ setup desk w. port_answers.done setup w request) (λ linked. worked_calm IsCalm calm_notes linked.setup a.controller.desk (begins a linked) (by_rule _ (by_steps calm_binding _ (done_goes linked.setup a.controller.desk (begins a linked) request (λ tree. tt)))) tt) h

  behind_kept : (a : Acted) (port : PortNo) → P a → P (behind_delete_all a port)
  behind_kept a port h = on_both P a.controller.has_met (asks a (AddBranch (default_end port) (default_home port))) (if has_emptied a.controller then ends_meeting a else a)
      (asks_kept a (AddBranch (default_end port) (default_home port)) h)
      (on_both P (has_emptied a.controller) (ends_meeting a) a (ends_meeting_kept a h) h)

  causes_kept : (a : Acted) (request : Request) → P a → P (causes a request)
  causes_kept a request h = on_both P (is_estab a.controller.adjacency.state) (causes_in_estab a request) a (by_request request) h
    where
      by_request : (request : Request) → P (causes_in_estab a request)
      by_request (DeleteAll port) = behind_kept a port h
      by_request (AddBranch input output) = tells_kept a (AddBranch input output) (request_port (AddBranch input output)) h
      by_request (MoveBranch input from to) = tells_kept a (MoveBranch input from to) (request_port (MoveBranch input from to)) h
      by_request (DeleteTree input) = tells_kept a (DeleteTree input) (request_port (DeleteTree input)) h
      by_request (VerifyTree input) = tells_kept a (VerifyTree input) (request_port (VerifyTree input)) h
      by_request (PortManagement port function) = tells_kept a (PortManagement port function) (request_port (PortManagement port function)) h
      by_request AllPorts = tells_kept a AllPorts (request_port AllPorts) h

  clears_kept : (a : Acted) (port : PortNo) → P a → P (clears_port a port)
  clears_kept a port h = by_found (linked_at a.controller port) (own_at a port)
    where
      by_found : (o : Option Linked) → ((linked : Linked) → o ≡ Some linked → Own a linked) → P (clears_of a o)
      by_found None own = h
      by_found (Some linked) own = on_both P (may_clear a.controller linked) (with_linked a (record linked { port = cleared linked.port })) a (k.placed a linked (cleared linked.port) (own linked refl) h) h

  done_kept : (a : Acted) (request : Request) → P a → P (takes_success a request)
  done_kept a request h =
      let caused : Acted = causes (releases a request) request in
      takes_changes_kept (clears caused) (fold_kept P clears_port clears_kept (ports_of caused.controller) caused (causes_kept (releases a request) request (releases_kept a request h)))

  answer_kept : (a : Acted) (message : Message) → P a → P (answer_comes a message)
  answer_kept a message h = by_answer (answered a.controller.desk message)
    where
      by_answer : (answer : Answered) → P (takes_answer a answer)
      by_answer Unknown = desk_kept a (after_answer a.controller.desk Unknown) h
      by_answer (Done s) = done_kept (with_desk a (after_answer a.controller.desk (Done s))) s.request (desk_kept a (after_answer a.controller.desk (Done s)) h)
      by_answer (Ports s rows) = (let b : Acted = with_desk a (after_answer a.controller.desk (Ports s rows)) in asks_each_kept (map DeleteAll (record { 0 = 0 } ∷ up_ports b.controller)) b (desk_kept a (after_answer a.controller.desk (Ports s rows)) h))
      by_answer (Failed s code) = node_kept (with_desk a (after_answer a.controller.desk (Failed s code))) (desk_kept a (after_answer a.controller.desk (Failed s code)) h)

  -- *The adjacency with the switch*
  answers_kept : (a : Acted) (answer : Answer (Said Party) Party) → AnswersNamed answer → P a → P (answers a (gsmp_answer answer))
  answers_kept a Quiet said h = h
  answers_kept a (Send m) said h = control_kept a default_channel (gsmp_octets (messages.Adjacency (greeting_of m))) (saying_length m said) h
  answers_kept a (Open None own) said h = meets_kept a h
  answers_kept a (Open (Some m) own) said h = meets_kept (says_gsmp a (messages.Adjacency (greeting_of m))) (control_kept a default_channel (gsmp_octets (messages.Adjacency (greeting_of m))) (saying_length m said) h)
  answers_kept a Reset said h = node_kept a h

  steps_kept : (a : Acted) (step : sides.Step Party) → IsNamed step.side → AnswersNamed step.answer → P a → P (steps a step)
  steps_kept a step named said h = answers_kept (with_side a step.side) step.answer said (k.turned a step.side named h)

  -- *Packets*
  next_kept : (a : Acted) (came : Mark) (channel : Channel) (payload : List ℕ) → HasLength payload → P a → P (sends_next a came channel payload)
  next_kept a came channel payload size h = on_both P (is_control came) (sends_control a channel payload) (sends a channel (next_mark came) payload)
      (control_kept a channel payload size h) (k.sent a channel (next_mark came) payload size h)

  goes_by_kept : (a : Acted) (came : Mark) (port : PortNo) (packet : List ℕ) (o : Option Grant) → IsShort packet → P a → P (goes_by a came port packet o)
  goes_by_kept a came port packet None short h = next_kept a came (default_home port).channel (default_payload packet) (default_length packet short) h
  goes_by_kept a came port packet (Some grant) short h = next_kept a came (control_end port grant.label).channel (labelled_payload (kind_of grant.flow) packet) (labelled_length (kind_of grant.flow) packet short) h

  forwarded_kept : (a : Acted) (came : Mark) (packet : List ℕ) (hop : Hop) → IsShort packet → P a → P (forwarded a came packet hop)
  forwarded_kept a came packet Here short h = k.noted a (Delivered a.controller.node came.packet packet) refl h
  forwarded_kept a came packet NoRoute short h = k.noted a (Dropped a.controller.node came.packet drop_causes.NoRoute) refl h
  forwarded_kept a came packet Expired short h = k.noted a (Dropped a.controller.node came.packet drop_causes.Expired) refl h
  forwarded_kept a came packet (On port) short h = goes_by_kept a came port (onward packet) (grant_by a.controller port (onward packet)) (onward_short packet short) h

  pub routes_kept : (a : Acted) (came : Mark) (packet : List ℕ) → IsShort packet → P a → P (forwards_packet a came packet)
  routes_kept a came packet short h = forwarded_kept a came packet (hop_of a.controller.table packet) short h

  -- *Frames*
  label_holds_kept : (a : Acted) (linked : Linked) (label : Label) (mark : Mark) (r : Result (List ℕ) EncapsFault) → ((packet : List ℕ) → r ≡ Ok packet → IsShort packet) → P a → P (label_holds a linked label mark r)
  label_holds_kept a linked label mark (Err fault) short h = k.noted a (Bad a.controller.node layers.Encaps (encaps_refusal fault)) refl h
  label_holds_kept a linked label mark (Ok packet) short h = at_port_kept (forwards_packet a mark packet) linked.setup.port (λ setup desk w. used w label.number) (λ other. worked_calm IsCalm calm_notes other.setup a.controller.desk (begins (forwards_packet a mark packet) other) (by_rule _ (by_using label.number)) tt) (routes_kept a mark packet (short packet refl) h)

  ifmp_holds_kept : (a : Acted) (port : PortNo) (packet octets : List ℕ) (r : Result IfmpMessage IfmpFault) → ifmp_decoded octets ≡ r → P a → P (ifmp_holds a port packet r)
  ifmp_holds_kept a port packet octets (Err fault) is h = k.noted a (Bad a.controller.node layers.Ifmp (ifmp_refusal fault)) refl h
  ifmp_holds_kept a port packet octets (Ok message) is h = at_port_kept a port (λ setup desk w. hears setup desk w (source_of packet) message)
      (λ linked. worked_calm IsCalm calm_notes linked.setup a.controller.desk (begins a linked) (by_rule _ (by_steps calm_binding _ (hears_goes linked.setup a.controller.desk (begins a linked) (source_of packet) message refl (decoded_lives octets message is)))) tt) h

  counted_kept : (a : Acted) (port : PortNo) (packet : List ℕ) → P a → P (counted_at a port packet)
  counted_kept a port packet h = at_port_kept a port (λ setup desk w. counts setup desk w packet) (λ linked. worked_calm IsCalm calm_notes linked.setup a.controller.desk (begins a linked) (by_rule _ (by_counting packet)) tt) h

  packet_holds_kept : (a : Acted) (port : PortNo) (mark : Mark) (packet : List ℕ) (o : Option PacketFault) → first_fault packet ≡ o → P a → P (packet_holds a port mark packet o)
  packet_holds_kept a port mark packet (Some fault) is h = k.noted a (Bad a.controller.node layers.Packet (packet_refusal fault)) refl h
  packet_holds_kept a port mark packet None is h = on_both P (protocol_of packet == control_protocol) (ifmp_holds a port packet (ifmp_decoded (drop 20 packet))) (counted_at (forwards_packet a mark packet) port packet)
      (ifmp_holds_kept a port packet (drop 20 packet) (ifmp_decoded (drop 20 packet)) refl h)
      (counted_kept (forwards_packet a mark packet) port packet (routes_kept a mark packet (fault_short packet is) h))

  default_holds_kept : (a : Acted) (port : PortNo) (mark : Mark) (r : Result (List ℕ) EncapsFault) → P a → P (default_holds a port mark r)
  default_holds_kept a port mark (Err fault) h = k.noted a (Bad a.controller.node layers.Encaps (encaps_refusal fault)) refl h
  default_holds_kept a port mark (Ok packet) h = packet_holds_kept a port mark packet (first_fault packet) refl h

  told_kept : (a : Acted) (message : Message) → ((greeting : Greeting) → message ≡ messages.Adjacency greeting → HasName greeting.sender × HasName greeting.receiver) → P a → P (message_comes a message)
  told_kept a (messages.Adjacency greeting) names h =
      let n = names greeting refl in
      let both = received_named a.controller.adjacency greeting n.0 n.1 (k.named a h) in
      steps_kept a (gsmp_received a.controller.adjacency greeting) both.0 both.1 h
  told_kept a (messages.Branch kind result code number session input_port input output_port output branches priority) names h =
      answer_kept a (messages.Branch kind result code number session input_port input output_port output branches priority) h
  told_kept a (messages.Move result code number session input_port input output_port output target_port target branches priority) names h =
      answer_kept a (messages.Move result code number session input_port input output_port output target_port target branches priority) h
  told_kept a (messages.Port result code number port session function) names h = answer_kept a (messages.Port result code number port session function) h
  told_kept a (messages.AllPorts result code number rows) names h = answer_kept a (messages.AllPorts result code number rows) h

  gsmp_holds_kept : (a : Acted) (octets : List ℕ) (r : Result Message GsmpFault) → gsmp_decoded octets ≡ r → P a → P (gsmp_holds a r)
  gsmp_holds_kept a octets (Err fault) is h = k.noted a (Bad a.controller.node layers.Gsmp (gsmp_refusal fault)) refl h
  gsmp_holds_kept a octets (Ok message) is h = told_kept a message (decoded_names octets message is) h

  frame_kept : (a : Acted) (taker : Taker) (mark : Mark) (payload : List ℕ) → P a → P (frame_holds a taker mark payload)
  frame_kept a ForGsmp mark payload h = gsmp_holds_kept a payload (gsmp_decoded payload) refl h
  frame_kept a (ForDefault linked) mark payload h = default_holds_kept a linked.setup.port mark (default_unwrapped payload) h
  frame_kept a (ForLabel linked label) mark payload h = label_holds_kept a linked label mark (unwrapped label.flow payload) (λ packet e. unwrapped_short label.flow payload packet e) h

  pub opened_frame_kept : (a : Acted) (taker : Taker) (mark : Mark) (o : Option (List ℕ)) → P a → P (opened_frame a taker mark o)
  opened_frame_kept a taker mark None h = h
  opened_frame_kept a taker mark (Some payload) h = frame_kept a taker mark payload h

  -- *Tick*
  again_kept : (a : Acted) → P a → P (sends_again a)
  again_kept a h = on_both P (is_estab a.controller.adjacency.state) (fold sends_request a (sent_again a.controller.desk)) a (fold_kept P sends_request request_kept (sent_again a.controller.desk) a h) h

  ticks_port_kept : (a : Acted) (port : PortNo) → P a → P (ticks_port a port)
  ticks_port_kept a port h = at_port_kept a port port_ticks.ticks (λ linked. worked_calm IsCalm calm_notes linked.setup a.controller.desk (begins a linked) (by_rule _ (by_steps calm_binding _ (ticks_goes linked.setup a.controller.desk (begins a linked) refl))) tt) h

  ticks_on_kept : (a : Acted) (step : sides.Step Party) → IsNamed step.side → AnswersNamed step.answer → P a → P (tries_joins (ticks_ports (sends_again (steps a step))))
  ticks_on_kept a step named said h =
      let again : Acted = sends_again (steps a step) in
      tries_joins_kept P asks_kept enters_grant_kept enters_label_kept (ticks_ports again) (fold_kept P ticks_port ticks_port_kept (ports_of again.controller) again (again_kept (steps a step) (steps_kept a step named said h)))

  ticks_by_kept : (a : Acted) (step : sides.Step Party) (answer : Answer (Said Party) Party) → IsNamed step.side → AnswersNamed step.answer → P a → P (ticks_by a step answer)
  ticks_by_kept a step Quiet named said h = ticks_on_kept a step named said h
  ticks_by_kept a step (Send m) named said h = ticks_on_kept a step named said h
  ticks_by_kept a step (Open m own) named said h = ticks_on_kept a step named said h
  ticks_by_kept a step Reset named said h = node_kept a h

  pub ticks_kept : (a : Acted) → P a → P (ticks a)
  ticks_kept a h = (let both = ticked_named a.controller.adjacency (k.named a h) in ticks_by_kept a (ticked a.controller.adjacency) (ticked a.controller.adjacency).answer both.0 both.1 h)
