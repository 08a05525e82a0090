-- a tick of a controller at peace

use Rattle.std.proofs.Common.{◌≡◌, ◌≢◌, ℕ, ◌+◌, ◌≤◌, ◌<◌, true, List, [], ◌∷◌, length, fold, Some, refl, sym, ◌∙◌, ap, subst, arith}
use Rattle.std.specs.Prelude.{flat_map}
use Rattle.world_model.specs.Words.{PortNo, End, Ack, said, greeting_of, is_estab, is_label_number, label_number_of, at, put, last_transaction, Standing, is_delete_all, label_end, Desk, Label, labels_of, Linked, port_key, with_linked, inputs_at, says_ifmp, default_channel, default_home, default_payload, ifmp_packet_of, tries_joins}
use Rattle.std.specs.List.{list_any}
use Rattle.world_model.specs.Controller.{Acted}
use Rattle.world_model.specs.Ticks.{ticks}
use Rattle.world_model.specs.gsmp_wire.Layout.{octets_of as gsmp_octets}
use Rattle.world_model.specs.gsmp_wire.declared.message.Message.TheVariants.{Adjacency}
use Rattle.world_model.specs.ifmp_wire.Message.{octets_of as ifmp_octets}
use Rattle.world_model.specs.ifmp_wire.declared.message.Message.{Message}
use Rattle.law_port_facts.specs.ordered_lists.Ordered.{Every, InOrder}
use Rattle.law_port_facts.proofs.ordered_lists.Every.{every_map, every_map2, every_mapped, every_join}
use Rattle.law_port_facts.proofs.ordered_lists.InOrder.{order_map}
use Rattle.law_port_facts.proofs.Keyed.{at_put_other, put_every, each_found}
use Rattle.law_live_nodes.specs.Law.{IsPortAtPeace, ticked_port, messages_of, port_ticks, greeted}
use Rattle.law_live_nodes.proofs.Ports.{nodes_tick_on}
use Rattle.law_live_ports.proofs.Keeping.{HasApart}
use Rattle.law_live_mirrors.specs.Mirrors.{is_labels, other_end}
use Rattle.law_live_mirrors.specs.Standing.{LeadAlike}
use Rattle.law_live_mirrors.specs.Asking.{AsksMirrored, KeepsMirrors}
use Rattle.law_live_mirrors.proofs.Nodes.{SameNode, same_itself, same_then, control_same, turn_none}
use Rattle.law_live_mirrors.proofs.Ports.{put_ports, put_alike, alike_itself, alike_then, alike_by, is_labels_end}
use Rattle.law_live_mirrors.proofs.Joining.{Tried}
use Rattle.law_live_mirrored_ticks.specs.Law.{MayTick, TicksKeepMirrors}
use Rattle.law_live_mirrored_ticks.proofs.Trying.{asks_then, MayTryEach, all_tried}
use Rattle.law_live_mirrored_ticks.proofs.Aging.{aged_port, tick_is, aged_leads, aged_out, aged_inputs, aged_numbers, aged_apart, as_many}

-- *A port of a link*, whose labels are in range, and whose grants are of different labels
record IsFine (linked : Linked) : Type 0 where
  link : linked.setup.port.0 ≢ 0
  labels : Every (λ (label : Label). is_label_number label.number ≡ true) (labels_of linked.port)
  apart : HasApart linked

-- *Messages are said*
all_said : (port : PortNo) (messages : List Message) (a : Acted) → SameNode a (fold (says_ifmp port) a messages)
all_said port [] a = same_itself a
all_said port (message ∷ messages) a = same_then a (says_ifmp port a message) (fold (says_ifmp port) (says_ifmp port a message) messages)
    (control_same a (default_home port).channel (default_payload (ifmp_packet_of a.controller.address (ifmp_octets message)))) (all_said port messages (says_ifmp port a message))

-- *All ports tick*
record Ported (a b : Acted) : Type 0 where
  desk : b.controller.desk ≡ a.controller.desk
  adjacency : b.controller.adjacency ≡ a.controller.adjacency
  fine : Every IsFine b.controller.ports
  inputs : length (flat_map inputs_at b.controller.ports) ≡ length (flat_map inputs_at a.controller.ports)
  alike : (input : End) → LeadAlike a.controller.ports b.controller.ports input

module _ (a : Acted) (linked : Linked) (is : IsPortAtPeace linked) (found : at port_key (port_key linked) a.controller.ports ≡ Some linked) (fine : Every IsFine a.controller.ports) (own : IsFine linked) where
  abbrev after_one : Acted
  after_one = port_ticks a linked

  one_ports : after_one.controller.ports ≡ put_ports a.controller.ports linked (aged_port linked is)
  one_ports = by (all_said linked.setup.port (messages_of linked) (with_linked a (ticked_port linked)))
    where
      by : SameNode (with_linked a (ticked_port linked)) after_one → after_one.controller.ports ≡ put_ports a.controller.ports linked (aged_port linked is)
      by s = s.ports ∙ ap (λ (l : Linked). put port_key l a.controller.ports) (tick_is linked is)

  one_ported : Ported a after_one
  one_ported = by (all_said linked.setup.port (messages_of linked) (with_linked a (ticked_port linked)))
    where
      aged : Linked
      aged = record linked { port = aged_port linked is }

      by : SameNode (with_linked a (ticked_port linked)) after_one → Ported a after_one
      by s = record {
        desk = s.desk;
        adjacency = s.adjacency;
        fine = subst (Every IsFine) (sym one_ports) (put_every port_key IsFine aged a.controller.ports (record { link = own.link; labels = aged_numbers linked is own.labels; apart = aged_apart linked is own.apart }) fine);
        inputs = ap (λ (ports : List Linked). length (flat_map inputs_at ports)) one_ports ∙ as_many aged linked a.controller.ports found (aged_inputs linked is);
        alike = λ input. alike_by a.controller.ports (put_ports a.controller.ports linked (aged_port linked is)) after_one.controller.ports input one_ports
            (put_alike a.controller.ports linked found (aged_port linked is) input (λ same labels. aged_leads linked is input) (λ same. aged_out linked is (label_number_of (other_end input).channel)));
      }

  -- the others are where they were
  still_found : (ports : List Linked) → Every (λ (x : Linked). port_key linked < port_key x) ports → Every (λ (x : Linked). at port_key (port_key x) a.controller.ports ≡ Some x) ports
      → Every (λ (x : Linked). at port_key (port_key x) after_one.controller.ports ≡ Some x) ports
  still_found ports behind all = every_map2 (λ (x : Linked). port_key linked < port_key x) (λ (x : Linked). at port_key (port_key x) a.controller.ports ≡ Some x)
      (λ (x : Linked). at port_key (port_key x) after_one.controller.ports ≡ Some x) ports
      (λ x less there. ap (at port_key (port_key x)) one_ports ∙ (at_put_other port_key (record linked { port = aged_port linked is }) (port_key x) a.controller.ports (below (port_key linked) (port_key x) less) ∙ there)) behind all
    where
      below : (m n : ℕ) → m < n → m ≢ n
      below m n less same = omega (arith, less, same)

all_ported : (ports : List Linked) (a : Acted) → Every (λ (x : Linked). at port_key (port_key x) a.controller.ports ≡ Some x) ports → InOrder (λ (x y : Linked). port_key x < port_key y) ports
    → Every IsPortAtPeace ports → Every IsFine ports → Every IsFine a.controller.ports → Ported a (fold port_ticks a ports)
all_ported [] a found order peace own fine = record { desk = refl; adjacency = refl; fine = fine; inputs = refl; alike = λ input. alike_itself a.controller.ports input }
all_ported (linked ∷ ports) a found order peace own fine =
    let b : Acted = port_ticks a linked in
    let one : Ported a b = one_ported a linked peace.0 found.0 fine own.0 in
    let rest : Ported b (fold port_ticks b ports) = all_ported ports b (still_found a linked peace.0 found.0 fine own.0 ports order.0 found.1) order.1 peace.1 own.1 one.fine in
    record {
      desk = rest.desk ∙ one.desk;
      adjacency = rest.adjacency ∙ one.adjacency;
      fine = rest.fine;
      inputs = rest.inputs ∙ one.inputs;
      alike = λ input. alike_then a.controller.ports b.controller.ports (fold port_ticks b ports).controller.ports input (one.alike input) (rest.alike input);
    }

-- *The inputs of labels*
label_inputs : (linked : Linked) → IsFine linked → Every (λ (input : End). is_labels input ≡ true) (inputs_at linked)
label_inputs linked fine = every_mapped (λ (label : Label). label_end linked.setup.port label.number) (λ (input : End). is_labels input ≡ true) (labels_of linked.port)
    (every_map (λ (label : Label). is_label_number label.number ≡ true) (λ (label : Label). is_labels (label_end linked.setup.port label.number) ≡ true) (labels_of linked.port)
    (λ label is. is_labels_end linked.setup.port label.number fine.link is) fine.labels)

all_inputs : (ports : List Linked) → Every IsFine ports → Every (λ (input : End). is_labels input ≡ true) (flat_map inputs_at ports)
all_inputs [] h = tt
all_inputs (linked ∷ ports) h = every_join (λ (input : End). is_labels input ≡ true) (inputs_at linked) (flat_map inputs_at ports) (label_inputs linked h.0) (all_inputs ports h.1)

module _ (a : Acted) (may : MayTick a) where
  all_fine : Every IsFine a.controller.ports
  all_fine = every_map2 (λ (linked : Linked). linked.setup.port.0 ≢ 0) (λ (linked : Linked). Every (λ (label : Label). is_label_number label.number ≡ true) (labels_of linked.port) × IsPortAtPeace linked) IsFine a.controller.ports
      (λ linked link both. record { link = link; labels = both.0; apart = both.1.peace.grants_apart }) may.links
      (every_map2 (λ (linked : Linked). Every (λ (label : Label). is_label_number label.number ≡ true) (labels_of linked.port)) IsPortAtPeace
      (λ (linked : Linked). Every (λ (label : Label). is_label_number label.number ≡ true) (labels_of linked.port) × IsPortAtPeace linked) a.controller.ports (λ linked p q. (p, q)) may.labels may.peace.ports)

  abbrev calm : Acted
  calm = record a { controller = record a.controller { adjacency = record a.controller.adjacency { silence = a.controller.adjacency.silence + 1 } } }

  abbrev now : Acted
  now = greeted a

  rest : SameNode calm now
  rest = control_same calm default_channel (gsmp_octets (Adjacency (greeting_of (said a.controller.adjacency Ack))))

  abbrev ticked : Acted
  ticked = fold port_ticks now a.controller.ports

  found_now : Every (λ (x : Linked). at port_key (port_key x) now.controller.ports ≡ Some x) a.controller.ports
  found_now = subst (λ (ports : List Linked). Every (λ (x : Linked). at port_key (port_key x) ports ≡ Some x) a.controller.ports) (sym rest.ports)
      (each_found port_key a.controller.ports (order_map (λ (x y : Linked). port_key x < port_key y) (λ (x y : Linked). port_key x ≢ port_key y) IsFine a.controller.ports
      (λ x y p q less. below (port_key x) (port_key y) less) all_fine may.peace.ports_apart))
    where
      below : (m n : ℕ) → m < n → m ≢ n
      below m n less same = omega (arith, less, same)

  ported : Ported now ticked
  ported = all_ported a.controller.ports now found_now may.peace.ports_apart may.peace.ports all_fine (subst (Every IsFine) (sym rest.ports) all_fine)

  ticked_asks : AsksMirrored a ticked []
  ticked_asks = turn_none a ticked ticked.controller.ports refl (ported.desk ∙ rest.desk)
      (λ input. alike_then a.controller.ports now.controller.ports ticked.controller.ports input
      (alike_by a.controller.ports a.controller.ports now.controller.ports input rest.ports (alike_itself a.controller.ports input)) (ported.alike input))

  may_each : MayTryEach ticked (flat_map inputs_at ticked.controller.ports)
  may_each = record {
    up = ap (λ side. is_estab side.state) (ported.adjacency ∙ rest.adjacency) ∙ ap is_estab may.peace.up;
    numbers = subst (λ n. n ≤ last_transaction) (sym (ap (λ (desk : Desk). desk.next + length (flat_map inputs_at ticked.controller.ports)) (ported.desk ∙ rest.desk)
        ∙ ap (λ n. a.controller.desk.next + n) (ported.inputs ∙ ap (λ (ports : List Linked). length (flat_map inputs_at ports)) rest.ports))) may.joins;
    labels = all_inputs ticked.controller.ports ported.fine;
    none = λ port. ap (λ (standing : List Standing). list_any (λ (s : Standing). is_delete_all port s.request) standing) (ap (λ (desk : Desk). desk.standing) (ported.desk ∙ rest.desk) ∙ may.peace.nothing_asked);
    grants = every_map IsFine HasApart ticked.controller.ports (λ linked fine. fine.apart) ported.fine;
  }

  tick_keeps : KeepsMirrors a (ticks a)
  tick_keeps = subst (KeepsMirrors a) (sym (nodes_tick_on a may.peace)) (by (all_tried (flat_map inputs_at ticked.controller.ports) ticked may_each))
    where
      by : Tried ticked (tries_joins ticked) → KeepsMirrors a (tries_joins ticked)
      by t = record { requests = t.requests; asks = asks_then a ticked (tries_joins ticked) [] t.requests ticked_asks t.asks }

pub ticks_keep : TicksKeepMirrors
ticks_keep a may = tick_keeps a may
