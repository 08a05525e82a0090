-- a tick of a node at peace: its ports tick, and then joins are tried

use Rattle.std.proofs.Common.{◌≡◌, ◌≢◌, ℕ, ◌≤◌, ◌<◌, ◌+◌, List, [], ◌∷◌, ◌++◌, append_assoc, length, length-append, Option, None, Some, refl, sym, ◌∙◌, ap, subst, arith, fold, map}
use Rattle.std.specs.Prelude.{flat_map}
use Rattle.std.specs.Option.{option_map, option_map_or}
use Rattle.std.proofs.lemmas.List.{length-map}
use Rattle.live_model.specs.world_model.Words.{PortNo, Ack, said, greeting_of, at, put, is_estab, last_transaction, label_end, Label, labels_of, Grant, grant_label, Session, Controller, Linked, linked_at, port_key, with_linked, inputs_at, says_ifmp, default_channel, default_home, default_payload, ifmp_packet_of, with_control, next_control}
use Rattle.live_model.specs.world_model.Controller.{Acted}
use Rattle.live_model.specs.world_model.Ticks.{ticks}
use Rattle.live_model.specs.world_model.gsmp_wire.Layout.{octets_of as gsmp_octets}
use Rattle.live_model.specs.world_model.gsmp_wire.declared.message.Message.TheVariants.{Adjacency}
use Rattle.live_model.specs.world_model.ifmp_wire.Message.{octets_of as ifmp_octets}
use Rattle.live_model.specs.world_model.ifmp_wire.declared.message.Message.{Message}
use Rattle.law_port_facts.specs.ordered_lists.Ordered.{Every, InOrder}
use Rattle.law_port_facts.proofs.ordered_lists.Every.{every_map, every_mapped}
use Rattle.law_port_facts.proofs.ordered_lists.InOrder.{order_mapped}
use Rattle.law_port_facts.proofs.Keyed.{at_map}
use Rattle.law_live_ticks.specs.Law.{shorter, told_anew, next_port}
use Rattle.law_live_ticks.proofs.Places.{put_place, one_before}
use Rattle.law_live_nodes.specs.Law.{idle_work, IsPortAtPeace, IsNodeAtPeace, ticked_port, messages_of, port_ticks, greeted}
use Rattle.law_live_nodes.proofs.Ports.{nodes_tick_on}
use Rattle.law_live_ports.specs.Law.{MayJoinAll, IsLeft, PortsAreLeft, AddressesStay}
use Rattle.law_live_ports.proofs.Keeping.{HasApart, LikeAt, Keeps}
use Rattle.law_live_ports.proofs.Joining.{SameRest, sent_rest, all_tried}

rest_then : (a b c : Controller) → SameRest a b → SameRest b c → SameRest a c
rest_then a b c p q = record { ports = q.ports ∙ p.ports; desk = q.desk ∙ p.desk; adjacency = q.adjacency ∙ p.adjacency; address = q.address ∙ p.address }

all_said : (port : PortNo) (messages : List Message) (a : Acted) → SameRest a.controller (fold (says_ifmp port) a messages).controller
all_said port [] a = record { ports = refl; desk = refl; adjacency = refl; address = refl }
all_said port (message ∷ messages) a = rest_then a.controller (says_ifmp port a message).controller (fold (says_ifmp port) (says_ifmp port a message) messages).controller
    (sent_rest (record a { numbers = with_control a.numbers }) (default_home port).channel (next_control a.numbers) (default_payload (ifmp_packet_of a.controller.address (ifmp_octets message))))
    (all_said port messages (says_ifmp port a message))

-- its number stays
ticked_setup : (linked : Linked) → (ticked_port linked).setup ≡ linked.setup
ticked_setup linked = by linked.port.session
  where
    by : (o : Option Session) → (option_map_or (λ (s : Session). record linked { port = next_port linked.setup (idle_work linked) s }) o linked).setup ≡ linked.setup
    by None = refl
    by (Some s) = refl

ticked_key : (linked : Linked) → port_key (ticked_port linked) ≡ port_key linked
ticked_key linked = ap (λ setup. setup.port.0) (ticked_setup linked)

-- *All ports tick*: each in its own place
abbrev ArePlaced : List Linked → List Linked → Type 0
ArePlaced before after = Every (λ (x : Linked). Every (λ (b : Linked). port_key b ≢ port_key x) before) after

more_placed : (before : List Linked) (linked : Linked) (after : List Linked) → ArePlaced before after → Every (λ (x : Linked). port_key linked < port_key x) after
    → ArePlaced (before ++ ticked_port linked ∷ []) after
more_placed before linked [] apart behind = tt
more_placed before linked (x ∷ after) apart behind =
    (one_before port_key before linked (ticked_port linked) (port_key x) (below (port_key linked) (port_key x) behind.0) apart.0 (ticked_key linked), more_placed before linked after apart.1 behind.1)
  where
    below : (m n : ℕ) → m < n → m ≢ n
    below m n less same = omega (arith, less, same)

-- what they leave
pub record AllTicked (a b : Controller) (before after : List Linked) : Type 0 where
  pub ports : b.ports ≡ before ++ map ticked_port after
  pub desk : b.desk ≡ a.desk
  pub adjacency : b.adjacency ≡ a.adjacency
  pub address : b.address ≡ a.address

all_ticked : (before after : List Linked) (a : Acted) → a.controller.ports ≡ before ++ after → ArePlaced before after → InOrder (λ (x y : Linked). port_key x < port_key y) after
    → AllTicked a.controller (fold port_ticks a after).controller before after
all_ticked before [] a ports apart order = record { ports = ports; desk = refl; adjacency = refl; address = refl }
all_ticked before (linked ∷ after) a ports apart order =
    let rest : SameRest (with_linked a (ticked_port linked)).controller (port_ticks a linked).controller = all_said linked.setup.port (messages_of linked) (with_linked a (ticked_port linked)) in
    let behind : AllTicked (port_ticks a linked).controller (fold port_ticks (port_ticks a linked) after).controller (before ++ ticked_port linked ∷ []) after =
    all_ticked (before ++ ticked_port linked ∷ []) after (port_ticks a linked)
    (rest.ports ∙ (ap (put port_key (ticked_port linked)) ports
    ∙ (put_place port_key before linked (ticked_port linked) after (sym (ticked_key linked)) (subst (λ k. Every (λ (b : Linked). port_key b ≢ k) before) (sym (ticked_key linked)) apart.0)
    ∙ sym (append_assoc before (ticked_port linked ∷ []) after))))
    (more_placed before linked after apart.1 order.0) order.1 in
    record {
      ports = behind.ports ∙ append_assoc before (ticked_port linked ∷ []) (map ticked_port after);
      desk = behind.desk ∙ rest.desk;
      adjacency = behind.adjacency ∙ rest.adjacency;
      address = behind.address ∙ rest.address;
    }

-- *Labels and grants* of a port that ticked
same_inputs : (linked : Linked) → length (inputs_at (ticked_port linked)) ≡ length (inputs_at linked)
same_inputs linked =
    length-map (labels_of (ticked_port linked).port) (λ (label : Label). label_end (ticked_port linked).setup.port label.number)
    ∙ (by linked.port.session refl ∙ sym (length-map (labels_of linked.port) (λ (label : Label). label_end linked.setup.port label.number)))
  where
    by : (o : Option Session) → linked.port.session ≡ o
        → length (labels_of (option_map_or (λ (s : Session). record linked { port = next_port linked.setup (idle_work linked) s }) o linked).port) ≡ length (labels_of linked.port)
    by None is = refl
    by (Some s) is = length-map s.labels (told_anew linked.setup) ∙ ap (λ (o : Option Session). length (option_map_or (λ (s : Session). s.labels) o [])) (sym is)

as_many : (ports : List Linked) → length (flat_map inputs_at (map ticked_port ports)) ≡ length (flat_map inputs_at ports)
as_many [] = refl
as_many (linked ∷ ports) = length-append (inputs_at (ticked_port linked)) (flat_map inputs_at (map ticked_port ports))
    ∙ (ap (λ n. n + length (flat_map inputs_at (map ticked_port ports))) (same_inputs linked)
    ∙ (ap (λ n. length (inputs_at linked) + n) (as_many ports) ∙ sym (length-append (inputs_at linked) (flat_map inputs_at ports))))

ticked_apart : (linked : Linked) → IsPortAtPeace linked → HasApart (ticked_port linked)
ticked_apart linked is = subst (λ (o : Option Session). HasApart (option_map_or (λ (s : Session). record linked { port = next_port linked.setup (idle_work linked) s }) o linked)) (sym is.peace.is_open)
    (order_mapped shorter (λ (a b : Grant). grant_label a ≡ grant_label b → ⊥) linked.port.grants is.peace.grants_apart)

module _ (a : Acted) (is : IsNodeAtPeace a) (may : MayJoinAll a) where
  abbrev now : Acted
  now = greeted a

  abbrev calm : Acted
  calm = record a { controller = record a.controller { adjacency = record a.controller.adjacency { silence = a.controller.adjacency.silence + 1 } } }

  rest : SameRest calm.controller now.controller
  rest = sent_rest (record calm { numbers = with_control calm.numbers }) default_channel (next_control calm.numbers) (gsmp_octets (Adjacency (greeting_of (said a.controller.adjacency Ack))))

  abbrev ticked : Acted
  ticked = fold port_ticks now a.controller.ports

  none_before : (ports : List Linked) → ArePlaced [] ports
  none_before [] = tt
  none_before (linked ∷ ports) = (tt, none_before ports)

  left : AllTicked now.controller ticked.controller [] a.controller.ports
  left = all_ticked [] a.controller.ports now rest.ports (none_before a.controller.ports) is.ports_apart

  keeps : Keeps ticked.controller (ticks a).controller
  keeps = subst (λ (b : Acted). Keeps ticked.controller b.controller) (sym (nodes_tick_on a is))
      (all_tried (flat_map inputs_at ticked.controller.ports) ticked
      (subst (Every HasApart) (sym left.ports) (every_mapped ticked_port HasApart a.controller.ports (every_map IsPortAtPeace (λ (linked : Linked). HasApart (ticked_port linked)) a.controller.ports ticked_apart is.ports)))
      (ap (λ side. is_estab side.state) (left.adjacency ∙ rest.adjacency) ∙ ap is_estab is.up)
      (subst (λ n. n ≤ last_transaction)
      (sym (ap (λ desk. desk.next + length (flat_map inputs_at ticked.controller.ports)) (left.desk ∙ rest.desk)
      ∙ ap (λ n. a.controller.desk.next + n) (ap (λ ports. length (flat_map inputs_at ports)) left.ports ∙ as_many a.controller.ports))) may))

  pub left_at : (port : PortNo) (linked : Linked) → linked_at a.controller port ≡ Some linked → IsLeft linked (linked_at (ticks a).controller port)
  left_at port linked found = record { linked = like.after; there = like.there; setup = like.setup ∙ ticked_setup linked; alike = like.alike }
    where
      there : linked_at ticked.controller port ≡ Some (ticked_port linked)
      there = ap (at port_key port.0) left.ports ∙ (at_map port_key port_key ticked_port ticked_key port.0 a.controller.ports ∙ ap (option_map ticked_port) found)

      like : LikeAt (ticked_port linked) (linked_at (ticks a).controller port)
      like = keeps.ports port (ticked_port linked) there

  pub address : (ticks a).controller.address ≡ a.controller.address
  address = keeps.address ∙ (left.address ∙ rest.address)

pub ports_left : PortsAreLeft
ports_left a port linked is may found = left_at a is may port linked found

pub addresses_stay : AddressesStay
addresses_stay a is may = address a is may
