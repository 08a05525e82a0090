-- a join is entered at a grant and at a label, and asked for

use Rattle.std.proofs.Common.{◌≡◌, ◌≢◌, ◌⊎◌, inl, inr, ℕ, ◌<◌, Bool, true, false, List, [], length, Option, None, Some, refl, sym, ◌∙◌, ap, subst, arith, if◌then◌else◌}
use Rattle.std.specs.Prelude.{◌==◌, nat_le}
use Rattle.std.specs.Option.{option_map, option_map_or, option_and_then}
use Rattle.std.proofs.lemmas.Bool.Decides.{nat_tests}
use Rattle.world_model.specs.Words.{PortNo, End, FlowId, number_of_channel, Channel, Mark, next_control, with_control, frame_cells, made, noted, Loss, PoolFull, Request, MoveBranch, at, put, last_transaction, home_of, label_end, Desk, Standing, Setup, Label, label_number, label_at, labels_of, Grant, GrantState, Idle, ByController, ByInput, Leaving, grant_label, is_by_controller, is_offered, Session, Work, lent, joins_label, asks, asks_next, sends_request, Controller, Linked, linked_at, port_key, with_linked, with_desk, works, node_resets, enters_grant, enters_label, joins, label_on, default_channel}
use Rattle.world_model.specs.Controller.{Acted, free_slots}
use Rattle.world_model.specs.Joins.{Join}
use Rattle.world_model.specs.Sending.{with_cells, sends}
use Rattle.world_model.specs.frame_model.Sending.{Sender}
use Rattle.world_model.specs.gsmp_wire.Layout.{octets_of as gsmp_octets}
use Rattle.world_model.specs.port_model.Desk.{asked, message_at}
use Rattle.world_model.specs.port_model.Joins.{joined}
use Rattle.world_model.specs.port_model.Port.{Port}
use Rattle.law_port_facts.proofs.Keyed.{by_eq, at_key, at_put_same, at_put_other}
use Rattle.law_live_joins.specs.Law.{granted_at}
use Rattle.law_live_mirrors.specs.Asking.{CanAsk}
use Rattle.law_live_joining.specs.Joins.{joined_label, by_input, lent_grant, KeepsJoins}
use Rattle.law_live_joining.proofs.Keeping.{keeps_same, keeps_then, KeepsPort, label_own, label_old, label_others, granted_own, granted_old, granted_others, put_keeps}
use Rattle.law_live_joining.proofs.Found.{found}

-- *What is asked and sent* changes nothing else
pub record SameRest (before after : Controller) : Type 0 where
  pub ports : after.ports ≡ before.ports
  pub desk : after.desk ≡ before.desk
  pub adjacency : after.adjacency ≡ before.adjacency
  pub table : after.table ≡ before.table
  pub waiting : after.waiting ≡ before.waiting
  pub is_begun : after.is_begun ≡ before.is_begun

pub sent_rest : (a : Acted) (channel : Channel) (mark : Mark) (payload : List ℕ) → SameRest a.controller (sends a channel mark payload).controller
sent_rest a channel mark payload = by (nat_le (length (frame_cells channel mark payload)) (free_slots a.controller))
  where
    by : (b : Bool) → (let s : Sender Controller = if b then record { queues = with_cells a.controller (frame_cells channel mark payload); notes = made a.notes mark payload }
        else record { queues = a.controller; notes = noted (made a.notes mark payload) (Loss mark PoolFull) } in SameRest a.controller s.queues)
    by true = record { ports = refl; desk = refl; adjacency = refl; table = refl; waiting = refl; is_begun = refl }
    by false = record { ports = refl; desk = refl; adjacency = refl; table = refl; waiting = refl; is_begun = refl }

asks_rest : (a : Acted) (request : Request) → CanAsk a → SameRest (with_desk a (asked a.controller.desk request)).controller (asks a request).controller
asks_rest a request can = subst (λ (x : Acted). SameRest with_it.controller x.controller) (sym whole)
    (sent_rest (record with_it { numbers = with_control with_it.numbers }) default_channel (next_control with_it.numbers) (gsmp_octets (message_at with_it.controller.desk standing)))
  where
    below : (n last : ℕ) → n < last → (n == last) ≡ false
    below n last less = grind (arith, nat_tests)

    with_it : Acted
    with_it = with_desk a (asked a.controller.desk request)

    standing : Standing
    standing = record { number = a.controller.desk.next; request = request }

    whole : asks a request ≡ sends_request with_it standing
    whole = ap (λ (t : Bool). if t then (if a.controller.desk.next == last_transaction then node_resets a else asks_next a request) else a) can.up
        ∙ ap (λ (t : Bool). if t then node_resets a else asks_next a request) (below a.controller.desk.next last_transaction can.number_left)

-- *Another place* than that of an input
abbrev pub IsElse : End → End → Type 0
IsElse e input = (e.port.0 ≢ input.port.0) ⊎ (number_of_channel e.channel ≢ number_of_channel input.channel)

-- *A join is entered*, at the label of an input and at a grant, and asked for
pub record IsEntered (a b : Acted) (input : End) (label : Label) (g : Linked) (grant : Grant) : Type 0 where
  pub keeps : KeepsJoins a.controller b.controller
  pub own : label_on b.controller input ≡ Some (record label { join = Some (label_end g.setup.port grant.label) })
  pub others : (e : End) → IsElse e input → label_on b.controller e ≡ label_on a.controller e
  pub own_grants : (port : PortNo) → port.0 ≡ port_key g → granted_at b.controller port ≡ put grant_label (record grant { state = ByInput input }) (granted_at a.controller port)
  pub other_grants : (port : PortNo) → port.0 ≢ port_key g → granted_at b.controller port ≡ granted_at a.controller port
  pub desk : b.controller.desk ≡ asked a.controller.desk (MoveBranch input (home_of input) (label_end g.setup.port grant.label))
  pub table : b.controller.table ≡ a.controller.table
  pub waiting : b.controller.waiting ≡ a.controller.waiting
  pub is_begun : b.controller.is_begun ≡ a.controller.is_begun

module _ (a : Acted) (input : End) (label : Label) (is : label_on a.controller input ≡ Some label) (unjoined : label.join ≡ None)
    (g : Linked) (there : at port_key (port_key g) a.controller.ports ≡ Some g) (grant : Grant) (granted : at grant_label grant.label g.port.grants ≡ Some grant)
    (own : is_by_controller grant.state ≡ true) (can : CanAsk a) where
  abbrev number : ℕ
  number = number_of_channel input.channel

  abbrev output : End
  output = label_end g.setup.port grant.label

  abbrev join : Join
  join = record { input = input; port = g.setup.port; grant = grant }

  abbrev request : Request
  request = MoveBranch input (home_of input) output

  -- *The grant* is lent
  abbrev lent_one : Grant
  lent_one = record grant { state = ByInput input }

  abbrev lent_port : Port
  lent_port = record g.port { grants = put grant_label lent_one g.port.grants }

  abbrev lent_linked : Linked
  lent_linked = record g { port = lent_port }

  abbrev one : Acted
  one = with_linked a lent_linked

  first_is : enters_grant a join ≡ one
  first_is = ap (works a (λ (setup : Setup) (desk : Desk) (w : Work). lent w grant input)) there

  not_lent : (what : FlowId × End) → lent_grant grant ≡ Some what → ⊥
  not_lent what e = by grant.state own e
    where
      by : (state : GrantState) → is_by_controller state ≡ true → option_map (λ (i : End). (grant.flow, i)) (by_input state) ≡ Some what → ⊥
      by Idle e f = cc f
      by ByController e f = cc f
      by (ByInput i) e f = cc e
      by (Leaving i owed) e f = cc f

  lent_keeps : KeepsPort g.port lent_port
  lent_keeps = record {
    joined = λ k what h. h;
    lent = λ k what h. by_eq grant.label k
        (λ same t. absurd (not_lent what (sym (ap (option_and_then lent_grant) (subst (λ n. at grant_label n g.port.grants ≡ Some grant) same granted)) ∙ h)))
        (λ differs t. ap (option_and_then lent_grant) (at_put_other grant_label lent_one k g.port.grants differs) ∙ h);
  }

  one_keeps : KeepsJoins a.controller one.controller
  one_keeps = put_keeps a.controller one.controller g lent_linked there refl refl lent_keeps

  one_labels : (e : End) → label_on one.controller e ≡ label_on a.controller e
  one_labels e = by_eq e.port.0 (port_key g)
      (λ same t. label_own a.controller one.controller g lent_linked there refl refl e same ∙ sym (label_old a.controller one.controller g lent_linked there refl refl e same))
      (λ differs t. label_others a.controller one.controller g lent_linked there refl refl e differs)

  one_own_grants : (port : PortNo) → port.0 ≡ port_key g → granted_at one.controller port ≡ put grant_label lent_one (granted_at a.controller port)
  one_own_grants port same = granted_own a.controller one.controller g lent_linked there refl refl port same
      ∙ ap (put grant_label lent_one) (sym (granted_old a.controller one.controller g lent_linked there refl refl port same))

  one_other_grants : (port : PortNo) → port.0 ≢ port_key g → granted_at one.controller port ≡ granted_at a.controller port
  one_other_grants port differs = granted_others a.controller one.controller g lent_linked there refl refl port differs

  -- *The label* is joined
  record Holds (c : Controller) : Type 0 where
    linked : Linked
    found : linked_at c input.port ≡ Some linked
    held : label_at linked.port number ≡ Some label

  holds_in : (o : Option Linked) → linked_at one.controller input.port ≡ o → option_and_then (λ (linked : Linked). label_at linked.port number) o ≡ Some label → Holds one.controller
  holds_in None found e = absurd (cc e)
  holds_in (Some linked) found e = record { linked = linked; found = found; held = e }

  holds : Holds one.controller
  holds = holds_in (linked_at one.controller input.port) refl (one_labels input ∙ is)

  abbrev l : Linked
  l = holds.linked

  l_place : port_key l ≡ input.port.0
  l_place = at_key port_key input.port.0 one.controller.ports l holds.found

  l_there : at port_key (port_key l) one.controller.ports ≡ Some l
  l_there = subst (λ n. at port_key n one.controller.ports ≡ Some l) (sym l_place) holds.found

  label_is : label.number ≡ number
  label_is = at_key label_number number (labels_of l.port) label holds.held

  abbrev joined_one : Label
  joined_one = record label { join = Some output }

  abbrev joins_session : Session → Session
  joins_session s = record s { labels = put label_number joined_one s.labels }

  abbrev joined_port : Port
  joined_port = record l.port { session = option_map joins_session l.port.session }

  abbrev joined_linked : Linked
  joined_linked = record l { port = joined_port }

  abbrev two : Acted
  two = with_linked one joined_linked

  second_is : enters_label one join ≡ two
  second_is = ap (works one (λ (setup : Setup) (desk : Desk) (w : Work). joined w number output)) holds.found
      ∙ ap (λ (o : Option Label). works one (λ (setup : Setup) (desk : Desk) (w : Work). joins_label w (Some output) o) (Some l)) holds.held

  put_own : (o : Option Session) → at label_number number (option_map_or (λ (s : Session). s.labels) o []) ≡ Some label
      → at label_number number (option_map_or (λ (s : Session). s.labels) (option_map joins_session o) []) ≡ Some joined_one
  put_own None e = absurd (cc e)
  put_own (Some s) e = subst (λ k. at label_number k (put label_number joined_one s.labels) ≡ Some joined_one) label_is
      (at_put_same label_number joined_one s.labels label (subst (λ k. at label_number k s.labels ≡ Some label) (sym label_is) e))

  put_other : (k : ℕ) (o : Option Session) → number ≢ k
      → at label_number k (option_map_or (λ (s : Session). s.labels) (option_map joins_session o) []) ≡ at label_number k (option_map_or (λ (s : Session). s.labels) o [])
  put_other k None differ = refl
  put_other k (Some s) differ = at_put_other label_number joined_one k s.labels (λ e. differ (sym label_is ∙ e))

  not_joined : (what : FlowId × End) → joined_label label ≡ Some what → ⊥
  not_joined what e = by (is_offered label.state) (sym (ap (λ (o : Option End). if is_offered label.state then option_map (λ (x : End). (label.flow, x)) o else None) unjoined) ∙ e)
    where
      nothing : Option (FlowId × End)
      nothing = option_map (λ (x : End). (label.flow, x)) None

      by : (t : Bool) → (if t then nothing else None) ≡ Some what → ⊥
      by true e = cc e
      by false e = cc e

  two_keeps_port : KeepsPort l.port joined_port
  two_keeps_port = record {
    joined = λ k what h. by_eq number k
        (λ same t. absurd (not_joined what (sym (ap (option_and_then joined_label) (subst (λ n. label_at l.port n ≡ Some label) same holds.held)) ∙ h)))
        (λ differs t. ap (option_and_then joined_label) (put_other k l.port.session differs) ∙ h);
    lent = λ k what h. h;
  }

  two_keeps : KeepsJoins one.controller two.controller
  two_keeps = put_keeps one.controller two.controller l joined_linked l_there refl refl two_keeps_port

  two_own : label_on two.controller input ≡ Some joined_one
  two_own = label_own one.controller two.controller l joined_linked l_there refl refl input (sym l_place) ∙ put_own l.port.session holds.held

  two_others : (e : End) → IsElse e input → label_on two.controller e ≡ label_on one.controller e
  two_others e other = by_eq e.port.0 (port_key l)
      (λ same t. label_own one.controller two.controller l joined_linked l_there refl refl e same
      ∙ (put_other (number_of_channel e.channel) l.port.session (λ equal. elsewhere same equal other)
      ∙ sym (label_old one.controller two.controller l joined_linked l_there refl refl e same)))
      (λ differs t. label_others one.controller two.controller l joined_linked l_there refl refl e differs)
    where
      elsewhere : e.port.0 ≡ port_key l → number ≡ number_of_channel e.channel → IsElse e input → ⊥
      elsewhere same equal (inl differ) = differ (same ∙ l_place)
      elsewhere same equal (inr differ) = differ (sym equal)

  two_grants : (port : PortNo) → granted_at two.controller port ≡ granted_at one.controller port
  two_grants port = by_eq port.0 (port_key l)
      (λ same t. granted_own one.controller two.controller l joined_linked l_there refl refl port same ∙ sym (granted_old one.controller two.controller l joined_linked l_there refl refl port same))
      (λ differs t. granted_others one.controller two.controller l joined_linked l_there refl refl port differs)

  -- *Move Branch* is asked
  abbrev three : Acted
  three = asks two request

  whole : joins a (Some join) ≡ three
  whole = ap (λ (x : Acted). asks (enters_label x join) request) first_is ∙ ap (λ (x : Acted). asks x request) second_is

  rest : SameRest (with_desk two (asked two.controller.desk request)).controller three.controller
  rest = asks_rest two request (record { up = can.up; number_left = can.number_left })

  three_labels : (e : End) → label_on three.controller e ≡ label_on two.controller e
  three_labels e = ap (λ (ports : List Linked). option_and_then (λ (x : Linked). label_at x.port (number_of_channel e.channel)) (at port_key e.port.0 ports)) rest.ports

  three_grants : (port : PortNo) → granted_at three.controller port ≡ granted_at two.controller port
  three_grants port = ap (λ (ports : List Linked). option_map_or (λ (x : Linked). x.port.grants) (at port_key port.0 ports) []) rest.ports

  three_entered : IsEntered a three input label g grant
  three_entered = record {
    keeps = keeps_then a.controller one.controller three.controller one_keeps (keeps_then one.controller two.controller three.controller two_keeps (keeps_same two.controller three.controller rest.ports));
    own = three_labels input ∙ two_own;
    others = λ e other. three_labels e ∙ (two_others e other ∙ one_labels e);
    own_grants = λ port same. three_grants port ∙ (two_grants port ∙ one_own_grants port same);
    other_grants = λ port differs. three_grants port ∙ (two_grants port ∙ one_other_grants port differs);
    desk = rest.desk;
    table = rest.table;
    waiting = rest.waiting;
    is_begun = rest.is_begun;
  }

  pub is_entered : IsEntered a (joins a (Some join)) input label g grant
  is_entered = subst (λ (b : Acted). IsEntered a b input label g grant) (sym whole) three_entered
