-- a label's turn: its join is entered at the grant and at the label, and Move Branch is asked

use Rattle.std.proofs.Common.{◌≡◌, ℕ, ◌<◌, Bool, false, List, [], length, Option, None, Some, refl, sym, ◌∙◌, ap, subst, arith, if◌then◌else◌}
use Rattle.std.specs.Prelude.{◌==◌, ◌&&◌, nat_le}
use Rattle.std.specs.Option.{option_map, option_map_or, option_and_then}
use Rattle.std.proofs.lemmas.Bool.Decides.{nat_tests}
use Rattle.world_model.specs.Words.{PortNo, End, FlowId, same_flow, Channel, Mark, best, flow_destination, next_hop_of, number_of_channel, at, put, last_transaction, Label, label_number, Grant, ByInput, grant_label, grant_for, is_by_controller, Session, Work, label_at, lent, asks, asks_next, sends_request, Controller, Linked, linked_at, port_key, with_linked, with_desk, at_port, works, enters_grant, enters_label, join_by, join_for, join_through, joins, label_on, node_resets, port_by, tries_label, tries_join, default_channel, frame_cells, made, noted, Loss, PoolFull, next_control, with_control}
use Rattle.world_model.specs.port_model.Desk.{Desk, Standing, asked, message_at}
use Rattle.world_model.specs.port_model.Joins.{joined, joins_label}
use Rattle.world_model.specs.port_model.Setup.{Setup}
use Rattle.world_model.specs.Controller.{Acted, free_slots}
use Rattle.world_model.specs.Joins.{Join, output_joined}
use Rattle.world_model.specs.Sending.{with_cells, sends}
use Rattle.world_model.specs.gsmp_wire.Layout.{octets_of as gsmp_octets}
use Rattle.world_model.specs.frame_model.Sending.{Sender}
use Rattle.law_port_facts.specs.ordered_lists.Ordered.{InOrder}
use Rattle.law_port_facts.proofs.Keyed.{on_both, by_eq, at_key, at_put_same, at_put_other, apart_at}
use Rattle.law_live_joins.specs.Law.{granted_at, IsDue, move_of, IsJoined, LabelsAreJoined}

-- *Where a join comes from*: it is of this input, and its grant is the first one of its port for a flow
record IsFound (c : Controller) (input : End) (join : Join) : Type 0 where
  own : join.input ≡ input
  linked : Linked
  there : linked_at c join.port ≡ Some linked
  flow : FlowId
  first : grant_for linked.port.grants flow ≡ Some join.grant

module _ (c : Controller) (input : End) (join : Join) where
  found_granted : (linked : Linked) → linked_at c linked.setup.port ≡ Some linked → (flow : FlowId) (o : Option Grant) → grant_for linked.port.grants flow ≡ o
      → option_map (λ (grant : Grant). let j : Join = record { input = input; port = linked.setup.port; grant = grant } in j) o ≡ Some join → IsFound c input join
  found_granted linked there flow None is e = absurd (cc e)
  found_granted linked there flow (Some grant) is e = subst (IsFound c input) (same join e) (record { own = refl; linked = linked; there = there; flow = flow; first = is })
    where
      same : (j : Join) → Some (record { input = input; port = linked.setup.port; grant = grant }) ≡ Some j → record { input = input; port = linked.setup.port; grant = grant } ≡ j
      same j e = cc

  found_through : (port : PortNo) (flow : FlowId) (o : Option Linked) → linked_at c port ≡ o → join_through input flow o ≡ Some join → IsFound c input join
  found_through port flow None is e = absurd (cc e)
  found_through port flow (Some linked) is e =
      found_granted linked (subst (λ n. at port_key n c.ports ≡ Some linked) (sym (at_key port_key port.0 c.ports linked is)) is) flow (grant_for linked.port.grants flow) refl e

  found_by : (o : Option PortNo) (next : Option FlowId) → join_by c input o next ≡ Some join → IsFound c input join
  found_by None next e = absurd (cc e)
  found_by (Some port) None e = absurd (cc e)
  found_by (Some port) (Some next) e = found_through port next (linked_at c port) refl e

-- *What is sent* changes no port and nothing that stands at the desk
record SameRest (before after : Controller) : Type 0 where
  ports : after.ports ≡ before.ports
  desk : after.desk ≡ before.desk

sent_rest : (a : Acted) (channel : Channel) (mark : Mark) (payload : List ℕ) → SameRest a.controller (sends a channel mark payload).controller
sent_rest a channel mark payload = on_both (λ (s : Sender Controller). SameRest a.controller s.queues) (nat_le (length (frame_cells channel mark payload)) (free_slots a.controller))
    (record { queues = with_cells a.controller (frame_cells channel mark payload); notes = made a.notes mark payload })
    (record { queues = a.controller; notes = noted (made a.notes mark payload) (Loss mark PoolFull) })
    (record { ports = refl; desk = refl }) (record { ports = refl; desk = refl })

-- *A label that is put in its own place*
module _ (label after : Label) (same : after.number ≡ label.number) where
  put_label : (n : ℕ) (o : Option Session) → at label_number n (option_map_or (λ (s : Session). s.labels) o []) ≡ Some label
      → at label_number n (option_map_or (λ (s : Session). s.labels) (option_map (λ (s : Session). record s { labels = put label_number after s.labels }) o) []) ≡ Some after
  put_label n None e = absurd (cc e)
  put_label n (Some s) e =
      let own : label.number ≡ n = at_key label_number n s.labels label e in
      subst (λ k. at label_number k (put label_number after s.labels) ≡ Some after) (same ∙ own)
      (at_put_same label_number after s.labels label (subst (λ k. at label_number k s.labels ≡ Some label) (sym (same ∙ own)) e))

module _ (a : Acted) (input : End) (label : Label) (join : Join) (due : IsDue a input label join) where
  found : IsFound a.controller input join
  found = found_by a.controller input join (port_by (best a.controller.table (flow_destination label.flow))) (next_hop_of label.flow) due.leads_on

  -- *The grant* is lent to the input
  abbrev lent_grant : Grant
  lent_grant = record join.grant { state = ByInput input }

  abbrev lent_port : Linked
  lent_port = record found.linked { port = record found.linked.port { grants = put grant_label lent_grant found.linked.port.grants } }

  abbrev with_grant_lent : Acted
  with_grant_lent = with_linked a lent_port

  enters_first : enters_grant a join ≡ with_grant_lent
  enters_first = ap (works a (λ (setup : Setup) (desk : Desk) (w : Work). lent w join.grant join.input)) found.there
      ∙ ap (λ (own : End). with_linked a (record found.linked { port = record found.linked.port { grants = put grant_label (record join.grant { state = ByInput own }) found.linked.port.grants } })) found.own

  own_port : found.linked.setup.port.0 ≡ join.port.0
  own_port = at_key port_key join.port.0 a.controller.ports found.linked found.there

  lent_there : linked_at with_grant_lent.controller join.port ≡ Some lent_port
  lent_there = subst (λ n. at port_key n (put port_key lent_port a.controller.ports) ≡ Some lent_port) own_port
      (at_put_same port_key lent_port a.controller.ports found.linked (subst (λ n. at port_key n a.controller.ports ≡ Some found.linked) (sym own_port) found.there))

  -- *The label's port*, which holds it still
  abbrev number : ℕ
  number = number_of_channel input.channel

  record Holds (c : Controller) : Type 0 where
    linked : Linked
    there : linked_at c input.port ≡ Some linked
    held : label_at linked.port number ≡ Some label

  holds_before : Holds a.controller
  holds_before = by (linked_at a.controller input.port) refl due.there
    where
      by : (o : Option Linked) → linked_at a.controller input.port ≡ o → option_and_then (λ (linked : Linked). label_at linked.port number) o ≡ Some label → Holds a.controller
      by None is e = absurd (cc e)
      by (Some linked) is e = record { linked = linked; there = is; held = e }

  holds : Holds with_grant_lent.controller
  holds = by_eq join.port.0 input.port.0
      (λ same t. record {
        linked = lent_port;
        there = subst (λ n. at port_key n (put port_key lent_port a.controller.ports) ≡ Some lent_port) same lent_there;
        held = subst (λ (l : Linked). label_at l.port number ≡ Some label)
            (one holds_before.linked found.linked (sym holds_before.there ∙ (subst (λ n. at port_key n a.controller.ports ≡ Some found.linked) same found.there))) holds_before.held;
      })
      (λ other t. record {
        linked = holds_before.linked;
        there = at_put_other port_key lent_port input.port.0 a.controller.ports (λ e. other (sym own_port ∙ e)) ∙ holds_before.there;
        held = holds_before.held;
      })
    where
      one : (x y : Linked) → Some x ≡ Some y → x ≡ y
      one x y e = cc

  abbrev joined_label : Label
  joined_label = record label { join = Some (output_joined join) }

  abbrev joins_session : Session → Session
  joins_session s = record s { labels = put label_number joined_label s.labels }

  abbrev joined_port : Linked
  joined_port = record holds.linked { port = record holds.linked.port { session = option_map joins_session holds.linked.port.session } }

  abbrev with_label_joined : Acted
  with_label_joined = with_linked with_grant_lent joined_port

  enters_second : enters_label with_grant_lent join ≡ with_label_joined
  enters_second = ap (λ (own : End). at_port with_grant_lent own.port (λ setup desk w. joined w (number_of_channel own.channel) (output_joined join))) found.own
      ∙ (ap (works with_grant_lent (λ setup desk w. joined w number (output_joined join))) holds.there
      ∙ ap (λ (o : Option Label). works with_grant_lent (λ setup desk w. joins_label w (Some (output_joined join)) o) (Some holds.linked)) holds.held)

  own_linked : holds.linked.setup.port.0 ≡ input.port.0
  own_linked = at_key port_key input.port.0 with_grant_lent.controller.ports holds.linked holds.there

  joined_there : linked_at with_label_joined.controller input.port ≡ Some joined_port
  joined_there = subst (λ n. at port_key n (put port_key joined_port with_grant_lent.controller.ports) ≡ Some joined_port) own_linked
      (at_put_same port_key joined_port with_grant_lent.controller.ports holds.linked (subst (λ n. at port_key n with_grant_lent.controller.ports ≡ Some holds.linked) (sym own_linked) holds.there))

  -- *Both are entered*
  label_entered : label_on with_label_joined.controller input ≡ Some joined_label
  label_entered = ap (option_and_then (λ (linked : Linked). label_at linked.port number)) joined_there ∙ put_label label joined_label refl number holds.linked.port.session holds.held

  granted_entered : granted_at with_label_joined.controller join.port ≡ put grant_label lent_grant found.linked.port.grants
  granted_entered = by_eq input.port.0 join.port.0
      (λ same t. ap (λ (o : Option Linked). option_map_or (λ (linked : Linked). linked.port.grants) o []) (subst (λ n. at port_key n (put port_key joined_port with_grant_lent.controller.ports) ≡ Some joined_port) same joined_there)
      ∙ ap (λ (l : Linked). l.port.grants) (one holds.linked lent_port (sym (subst (λ n. at port_key n with_grant_lent.controller.ports ≡ Some holds.linked) same holds.there) ∙ lent_there)))
      (λ other t. ap (λ (o : Option Linked). option_map_or (λ (linked : Linked). linked.port.grants) o []) (at_put_other port_key joined_port join.port.0 with_grant_lent.controller.ports (λ e. other (sym own_linked ∙ e)) ∙ lent_there))
    where
      one : (x y : Linked) → Some x ≡ Some y → x ≡ y
      one x y e = cc

  grant_entered : at grant_label join.grant.label (granted_at with_label_joined.controller join.port) ≡ Some lent_grant
  grant_entered = ap (at grant_label join.grant.label) granted_entered ∙ at_put_same grant_label lent_grant found.linked.port.grants join.grant
      (apart_at grant_label (λ (g : Grant). is_by_controller g.state && same_flow g.flow found.flow) found.linked.port.grants join.grant
      (subst (InOrder (λ (x y : Grant). grant_label x ≡ grant_label y → ⊥)) (ap (λ (o : Option Linked). option_map_or (λ (linked : Linked). linked.port.grants) o []) found.there) due.apart) found.first)

  -- *The request*
  abbrev standing : Standing
  standing = record { number = a.controller.desk.next; request = move_of input join }

  abbrev before_sending : Acted
  before_sending = with_desk with_label_joined (asked a.controller.desk (move_of input join))

  asks_it : asks with_label_joined (move_of input join) ≡ sends_request before_sending standing
  asks_it = ap (λ (b : Bool). if b then (if a.controller.desk.next == last_transaction then node_resets with_label_joined else asks_next with_label_joined (move_of input join)) else with_label_joined) due.in_session
      ∙ ap (λ (b : Bool). if b then node_resets with_label_joined else asks_next with_label_joined (move_of input join)) (left a.controller.desk.next last_transaction due.number_left)
    where
      left : (n last : ℕ) → n < last → (n == last) ≡ false
      left n last low = grind (arith, nat_tests)

  whole : tries_join a input ≡ sends_request before_sending standing
  whole = ap (tries_label a input) due.there
      ∙ (ap (λ (b : Bool). if b then joins a (join_for a.controller input label.flow) else a) due.may
      ∙ (ap (joins a) due.leads_on
      ∙ (ap (λ (x : Acted). asks (enters_label x join) (move_of join.input join)) enters_first
      ∙ (ap (λ (x : Acted). asks x (move_of join.input join)) enters_second
      ∙ (ap (λ (own : End). asks with_label_joined (move_of own join)) found.own ∙ asks_it)))))

  request_sent : SameRest before_sending.controller (sends_request before_sending standing).controller
  request_sent = sent_rest (record before_sending { numbers = with_control before_sending.numbers }) default_channel (next_control before_sending.numbers)
      (gsmp_octets (message_at before_sending.controller.desk standing))

  ports_stay : (tries_join a input).controller.ports ≡ with_label_joined.controller.ports
  ports_stay = ap (λ (x : Acted). x.controller.ports) whole ∙ request_sent.ports

  desk_stays : (tries_join a input).controller.desk ≡ asked a.controller.desk (move_of input join)
  desk_stays = ap (λ (x : Acted). x.controller.desk) whole ∙ request_sent.desk

  is_joined : IsJoined a input label join (tries_join a input)
  is_joined = record {
    label_joined = ap (λ (ports : List Linked). option_and_then (λ (linked : Linked). label_at linked.port number) (at port_key input.port.0 ports)) ports_stay ∙ label_entered;
    grant_lent = ap (λ (ports : List Linked). at grant_label join.grant.label (option_map_or (λ (linked : Linked). linked.port.grants) (at port_key join.port.0 ports) [])) ports_stay ∙ grant_entered;
    asked_for = desk_stays;
    before_sending = before_sending;
    same_queue = refl;
    sent = whole;
  }

pub labels_are_joined : LabelsAreJoined
labels_are_joined a input label join due = is_joined a input label join due
