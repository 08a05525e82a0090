-- all ports of a controller at peace tick: what their labels and grants are then

use Rattle.std.proofs.Common.{◌≡◌, ◌≢◌, ℕ, ◌<◌, Bool, true, false, List, [], ◌∷◌, ◌++◌, append_assoc, fold, map, Option, None, Some, refl, sym, ◌∙◌, ap, subst, arith, if◌then◌else◌}
use Rattle.std.specs.Prelude.{◌&&◌, flat_map, is_none, nat_eq}
use Rattle.std.specs.Option.{option_map, option_map_or}
use Rattle.world_model.specs.Words.{PortNo, FlowId, same_flow, at, put, label_end, Label, label_number, label_at, labels_of, Grant, grant_for, is_by_controller, Session, one_idler, one_older, Controller, Linked, port_key, with_linked, inputs_at, says_ifmp, default_home, default_payload, ifmp_packet_of, with_control, next_control}
use Rattle.world_model.specs.Controller.{Acted}
use Rattle.world_model.specs.ifmp_wire.Message.{octets_of as ifmp_octets}
use Rattle.world_model.specs.ifmp_wire.declared.message.Message.{Message}
use Rattle.law_port_facts.specs.ordered_lists.Ordered.{Every, InOrder}
use Rattle.law_port_facts.proofs.Keyed.{on_both, at_map}
use Rattle.law_live_ticks.specs.Law.{shorter, aged, is_due, told_anew}
use Rattle.law_live_ticks.proofs.Places.{put_place, one_before}
use Rattle.law_live_nodes.specs.Law.{IsPortAtPeace, ticked_port, messages_of, port_ticks}
use Rattle.law_live_mirrored_ticks.proofs.Aging.{aged_port, tick_is}
use Rattle.law_live_joining.proofs.Entering.{SameRest, sent_rest}

rest_then : (a b c : Controller) → SameRest a b → SameRest b c → SameRest a c
rest_then a b c p q = record { ports = q.ports ∙ p.ports; desk = q.desk ∙ p.desk; adjacency = q.adjacency ∙ p.adjacency; table = q.table ∙ p.table; waiting = q.waiting ∙ p.waiting; is_begun = q.is_begun ∙ p.is_begun }

all_said : (port : PortNo) (messages : List Message) (a : Acted) → SameRest a.controller (fold (says_ifmp port) a messages).controller
all_said port [] a = record { ports = refl; desk = refl; adjacency = refl; table = refl; waiting = refl; is_begun = refl }
all_said port (message ∷ messages) a = rest_then a.controller (says_ifmp port a message).controller (fold (says_ifmp port) (says_ifmp port a message) messages).controller
    (sent_rest (record a { numbers = with_control a.numbers }) (default_home port).channel (next_control a.numbers) (default_payload (ifmp_packet_of a.controller.address (ifmp_octets message))))
    (all_said port messages (says_ifmp port a message))

pub ticked_key : (linked : Linked) → IsPortAtPeace linked → port_key (ticked_port linked) ≡ port_key linked
ticked_key linked is = ap port_key (tick_is linked is)

-- *All ports tick*, each in its place
abbrev pub ArePlaced : List Linked → List Linked → Type 0
ArePlaced before after = Every (λ (x : Linked). Every (λ (b : Linked). port_key b ≢ port_key x) before) after

more_placed : (before : List Linked) (linked : Linked) (after : List Linked) → IsPortAtPeace linked → ArePlaced before after → Every (λ (x : Linked). port_key linked < port_key x) after
    → ArePlaced (before ++ ticked_port linked ∷ []) after
more_placed before linked [] is apart behind = tt
more_placed before linked (x ∷ after) is apart behind =
    (one_before port_key before linked (ticked_port linked) (port_key x) (below (port_key linked) (port_key x) behind.0) apart.0 (ticked_key linked is), more_placed before linked after is apart.1 behind.1)
  where
    below : (m n : ℕ) → m < n → m ≢ n
    below m n less same = omega (arith, less, same)

pub record AllTicked (a b : Controller) (before after : List Linked) : Type 0 where
  pub ports : b.ports ≡ before ++ map ticked_port after
  pub desk : b.desk ≡ a.desk
  pub adjacency : b.adjacency ≡ a.adjacency
  pub table : b.table ≡ a.table
  pub waiting : b.waiting ≡ a.waiting
  pub is_begun : b.is_begun ≡ a.is_begun

pub all_ticked : (before after : List Linked) (a : Acted) → a.controller.ports ≡ before ++ after → ArePlaced before after → InOrder (λ (x y : Linked). port_key x < port_key y) after
    → Every IsPortAtPeace after → AllTicked a.controller (fold port_ticks a after).controller before after
all_ticked before [] a ports apart order peace = record { ports = ports; desk = refl; adjacency = refl; table = refl; waiting = refl; is_begun = refl }
all_ticked before (linked ∷ after) a ports apart order peace =
    let rest : SameRest (with_linked a (ticked_port linked)).controller (port_ticks a linked).controller = all_said linked.setup.port (messages_of linked) (with_linked a (ticked_port linked)) in
    let key : port_key (ticked_port linked) ≡ port_key linked = ticked_key linked peace.0 in
    let behind : AllTicked (port_ticks a linked).controller (fold port_ticks (port_ticks a linked) after).controller (before ++ ticked_port linked ∷ []) after =
    all_ticked (before ++ ticked_port linked ∷ []) after (port_ticks a linked)
    (rest.ports ∙ (ap (put port_key (ticked_port linked)) ports
    ∙ (put_place port_key before linked (ticked_port linked) after (sym key) (subst (λ k. Every (λ (b : Linked). port_key b ≢ k) before) (sym key) apart.0)
    ∙ sym (append_assoc before (ticked_port linked ∷ []) after))))
    (more_placed before linked after peace.0 apart.1 order.0) order.1 peace.1 in
    record {
      ports = behind.ports ∙ append_assoc before (ticked_port linked ∷ []) (map ticked_port after);
      desk = behind.desk ∙ rest.desk;
      adjacency = behind.adjacency ∙ rest.adjacency;
      table = behind.table ∙ rest.table;
      waiting = behind.waiting ∙ rest.waiting;
      is_begun = behind.is_begun ∙ rest.is_begun;
    }

-- *A label that grows older* is the same in what it is joined by
pub record IsLike (label after : Label) : Type 0 where
  pub number : after.number ≡ label.number
  pub state : after.state ≡ label.state
  pub flow : after.flow ≡ label.flow
  pub join : after.join ≡ label.join

aged_like : (label : Label) → IsLike label (aged label)
aged_like label = on_both (λ (x : Label). IsLike label (one_older x)) (is_none label.join) (one_idler label) label
    (record { number = refl; state = refl; flow = refl; join = refl }) (record { number = refl; state = refl; flow = refl; join = refl })

told_like : (linked : Linked) (label : Label) → IsLike label (told_anew linked.setup label)
told_like linked label = by (aged_like label)
  where
    by : IsLike label (aged label) → IsLike label (told_anew linked.setup label)
    by so = on_both (IsLike label) (is_due linked.setup label) (record (aged label) { ticks = 0 }) (aged label) (record { number = so.number; state = so.state; flow = so.flow; join = so.join }) so

pub data AreLike : Option Label → Option Label → Type 0 where
  none : AreLike None None
  some : (label after : Label) → IsLike label after → AreLike (Some label) (Some after)

like_told : (linked : Linked) (o : Option Label) → AreLike o (option_map (told_anew linked.setup) o)
like_told linked None = none
like_told linked (Some label) = some label (told_anew linked.setup label) (told_like linked label)

-- *A port at peace* that ticked
module _ (linked : Linked) (is : IsPortAtPeace linked) where
  labels_are : labels_of linked.port ≡ is.session.labels
  labels_are = ap (λ (o : Option Session). option_map_or (λ (s : Session). s.labels) o []) is.peace.is_open

  pub port_labels : (number : ℕ) → AreLike (label_at linked.port number) (label_at (ticked_port linked).port number)
  port_labels number = subst (λ (l : Linked). AreLike (label_at linked.port number) (label_at l.port number)) (sym (tick_is linked is))
      (subst (λ (labels : List Label). AreLike (at label_number number labels) (label_at (aged_port linked is) number)) (sym labels_are)
      (subst (AreLike (at label_number number is.session.labels)) (sym (at_map label_number label_number (told_anew linked.setup) (λ label. (told_like linked label).number) number is.session.labels))
      (like_told linked (at label_number number is.session.labels))))

  pub port_grants : (ticked_port linked).port.grants ≡ map shorter linked.port.grants
  port_grants = ap (λ (l : Linked). l.port.grants) (tick_is linked is)

  same_ends : (port : PortNo) (labels : List Label) → map (λ (label : Label). label_end port label.number) (map (told_anew linked.setup) labels) ≡ map (λ (label : Label). label_end port label.number) labels
  same_ends port [] = refl
  same_ends port (label ∷ labels) = λ i. label_end port ((told_like linked label).number i) ∷ same_ends port labels i

  port_inputs : inputs_at (ticked_port linked) ≡ inputs_at linked
  port_inputs = ap inputs_at (tick_is linked is) ∙ (same_ends linked.setup.port is.session.labels ∙ sym (ap (map (λ (label : Label). label_end linked.setup.port label.number)) labels_are))

pub all_inputs : (ports : List Linked) → Every IsPortAtPeace ports → flat_map inputs_at (map ticked_port ports) ≡ flat_map inputs_at ports
all_inputs [] peace = refl
all_inputs (linked ∷ ports) peace = λ i. port_inputs linked peace.0 i ++ all_inputs ports peace.1 i

pub find_shorter : (next : FlowId) (grants : List Grant) → grant_for (map shorter grants) next ≡ option_map shorter (grant_for grants next)
find_shorter next [] = refl
find_shorter next (grant ∷ grants) = by (is_by_controller grant.state && same_flow grant.flow next) (find_shorter next grants)
  where
    by : (b : Bool) → grant_for (map shorter grants) next ≡ option_map shorter (grant_for grants next)
        → (if b then Some (shorter grant) else grant_for (map shorter grants) next) ≡ option_map shorter (if b then Some grant else grant_for grants next)
    by true e = refl
    by false e = e

-- a port among all that ticked
pub at_ticked : (k : ℕ) (ports : List Linked) → Every IsPortAtPeace ports → at port_key k (map ticked_port ports) ≡ option_map ticked_port (at port_key k ports)
at_ticked k [] peace = refl
at_ticked k (linked ∷ ports) peace = ap (λ n. if nat_eq n k then Some (ticked_port linked) else at port_key k (map ticked_port ports)) (ticked_key linked peace.0)
    ∙ by (nat_eq (port_key linked) k) (at_ticked k ports peace.1)
  where
    by : (b : Bool) → at port_key k (map ticked_port ports) ≡ option_map ticked_port (at port_key k ports)
        → (if b then Some (ticked_port linked) else at port_key k (map ticked_port ports)) ≡ option_map ticked_port (if b then Some linked else at port_key k ports)
    by true e = refl
    by false e = e
