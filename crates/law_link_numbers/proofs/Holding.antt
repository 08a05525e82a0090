-- as a frame comes, a port says one message for each label at most, and one more

use Rattle.std.proofs.Common.{◌≡◌, ◌≢◌, ℕ, suc, ◌≤◌, Bool, true, List, drop, length, Option, None, Some, Result, refl, sym, ap, ◌∙◌, subst, arith, if◌then◌else◌}
use Rattle.std.specs.Prelude.{◌+◌, ◌==◌, Ok, Err}
use Rattle.world_model.specs.Words.{PortNo, Hello, Mark, Peer, PacketFault, EncapsFault, protocol_of, source_of, control_protocol, default_unwrapped, unwrapped, last_number, labels_of, ifmp_received, ifmp_in, counts, hears, at, Linked, linked_at, port_key, begins, joins_of, forwards_packet, counted_at, ifmp_holds, packet_holds, default_holds, gsmp_holds, ForGsmp, ForDefault, ForLabel, frame_holds}
use Rattle.std.specs.Option.{option_and_then}
use Rattle.world_model.specs.Ways.{ok_of}
use Rattle.world_model.specs.adjacency_table.declared.message.Answer.TheVariants.{Reset}
use Rattle.world_model.specs.ipv4_packet.Packet.{first_fault}
use Rattle.world_model.specs.ifmp_wire.Fields.{decoded as ifmp_decoded}
use Rattle.world_model.specs.ifmp_wire.declared.message.Message.{Message}
use Rattle.world_model.specs.ifmp_wire.declared.message.Message.TheVariants as ifmp_messages
use Rattle.world_model.specs.ifmp_wire.declared.reader.Fault.{Fault}
use Rattle.world_model.specs.gsmp_wire.Fields.{decoded as gsmp_decoded}
use Rattle.world_model.specs.gsmp_wire.declared.fault.Fault.{Fault as GsmpFault}
use Rattle.world_model.specs.gsmp_wire.declared.message.Message.{Message as GsmpMessage}
use Rattle.world_model.specs.Controller.{Acted}
use Rattle.law_port_facts.proofs.Keyed.{on_each, by_eq}
use Rattle.law_live_links.specs.Law.{number_of}
use Rattle.law_live_others.specs.Law.{IsUp}
use Rattle.law_live_others.proofs.Holding.{SameWork, forwards_same, label_leaves, other_default}
use Rattle.law_live_others.proofs.Settling.{anyhow}
use Rattle.law_link_numbers.specs.Law.{HasNumbers, FramesKeepParties, EntriesKeepParties}
use Rattle.law_link_numbers.proofs.Room.{fewer}
use Rattle.law_link_numbers.proofs.Hearing.{Spares, hearing, counting}
use Rattle.law_link_numbers.proofs.Spending.{Costs, costs_more, costs_behind, costs_alike, costs_same, rule_costs, rule_none}
use Rattle.law_link_numbers.proofs.Answers.{message_costs}
use Rattle.law_link_numbers.proofs.Ticking.{kept_party}

low : (n : ℕ) → 0 ≤ n
low n = omega arith

module _ (port : PortNo) (a : Acted) (linked : Linked) (found : linked_at a.controller port ≡ Some linked) where
  abbrev own : Peer
  own = linked.port.adjacency.own

  abbrev most : ℕ
  most = length (labels_of linked.port) + (length (joins_of a.controller) + 2)

  abbrev On : Acted → Type 0
  On b = Costs port own most a b

  none_said : (b : Acted) → Costs port own 0 a b → On b
  none_said b h = costs_more port own 0 most a b (low most) h

  same_here : (b : Acted) → b.controller.ports ≡ a.controller.ports → b.controller.adjacency ≡ a.controller.adjacency → On b
  same_here b ports adjacency = none_said b (costs_same port own a b ports adjacency)

  -- *Of the switch*
  gsmp_cost : IsUp a → (r : Result GsmpMessage GsmpFault) → On (gsmp_holds a r)
  gsmp_cost up (Err fault) = same_here (gsmp_holds a (Err fault)) refl refl
  gsmp_cost up (Ok message) = costs_more port own (length (joins_of a.controller) + 1) most a (gsmp_holds a (Ok message)) (few (length (labels_of linked.port)) (length (joins_of a.controller)))
      (message_costs port own a message up)
    where
      few : (l j : ℕ) → j + 1 ≤ l + (j + 2)
      few l j = omega arith

  -- *On its own default channel*
  module _ (q : PortNo) where
    heard_cost : (packet : List ℕ) (r : Result Message Fault)
        → ((message : Message) → r ≡ Ok message → Spares own linked.setup a.controller.desk (begins a linked) (source_of packet) message) → On (ifmp_holds a q packet r)
    heard_cost packet (Err fault) spares = same_here (ifmp_holds a q packet (Err fault)) refl refl
    heard_cost packet (Ok message) spares = rule_costs port own most a q (λ setup desk w. hears setup desk w (source_of packet) message)
        (λ l is k room. (let same : linked ≡ l = one linked l (sym found ∙ is) in
        hearing own l.setup a.controller.desk k (begins a l) (source_of packet) message
        (subst (λ (x : Linked). Spares own x.setup a.controller.desk (begins a x) (source_of packet) message) same (spares message refl))
        (fewer own (begins a l) (few (length (labels_of l.port)) (length (labels_of linked.port)) (length (joins_of a.controller)) k (ap (λ (x : Linked). length (labels_of x.port)) (sym same))) room)))
      where
        one : (x y : Linked) → Some x ≡ Some y → x ≡ y
        one x y e = cc

        few : (m l j k : ℕ) → m ≡ l → m + suc k ≤ l + (j + 2) + k
        few m l j k e = omega (arith, e)

    counted_cost : (mark : Mark) (packet : List ℕ) → On (counted_at (forwards_packet a mark packet) q packet)
    counted_cost mark packet =
        let b : Acted = forwards_packet a mark packet in
        let same : SameWork a b = forwards_same a mark packet in
        none_said (counted_at b q packet) (costs_behind port own 0 a b (counted_at b q packet) (costs_same port own a b same.ports same.adjacency)
        (rule_none port own b q (λ setup desk w. counts setup desk w packet) (λ l is k room. counting own l.setup b.controller.desk k (begins b l) packet room)))

    packet_cost : (mark : Mark) (packet : List ℕ) (o : Option PacketFault)
        → ((hello : Hello) → ifmp_in packet ≡ Some (ifmp_messages.Adjacency hello) → (ifmp_received linked.port.adjacency (source_of packet) hello).answer ≢ Reset)
        → On (packet_holds a q mark packet o)
    packet_cost mark packet (Some fault) spares = same_here (packet_holds a q mark packet (Some fault)) refl refl
    packet_cost mark packet None spares = on_each On (protocol_of packet == control_protocol) (ifmp_holds a q packet (ifmp_decoded (drop 20 packet))) (counted_at (forwards_packet a mark packet) q packet)
        (λ control. heard_cost packet (ifmp_decoded (drop 20 packet)) (λ message is. spared control message is))
        (λ other. counted_cost mark packet)
      where
        read : (m : Message) → (protocol_of packet == control_protocol) ≡ true → ifmp_decoded (drop 20 packet) ≡ Ok m → ifmp_in packet ≡ Some m
        read m control is = ap (λ (b : Bool). if b then ok_of (ifmp_decoded (drop 20 packet)) else None) control ∙ ap (λ (r : Result Message Fault). ok_of r) is

        spared : (protocol_of packet == control_protocol) ≡ true → (message : Message) → ifmp_decoded (drop 20 packet) ≡ Ok message
            → Spares own linked.setup a.controller.desk (begins a linked) (source_of packet) message
        spared control (ifmp_messages.Adjacency hello) is = spares hello (read (ifmp_messages.Adjacency hello) control is)
        spared control (ifmp_messages.Redirect sender peer number lifetime channel flow) is = tt
        spared control (ifmp_messages.Reclaim sender peer number channel flow) is = tt
        spared control (ifmp_messages.ReclaimAck sender peer number channel flow) is = tt
        spared control (ifmp_messages.LabelRange sender peer number least greatest) is = tt
        spared control (ifmp_messages.Error sender peer number code channel) is = tt

    default_cost : (mark : Mark) (r : Result (List ℕ) EncapsFault)
        → ((packet : List ℕ) (hello : Hello) → r ≡ Ok packet → option_and_then ifmp_in (ok_of r) ≡ Some (ifmp_messages.Adjacency hello) → (ifmp_received linked.port.adjacency (source_of packet) hello).answer ≢ Reset)
        → On (default_holds a q mark r)
    default_cost mark (Err fault) spares = same_here (default_holds a q mark (Err fault)) refl refl
    default_cost mark (Ok packet) spares = packet_cost mark packet (first_fault packet) (λ hello is. spares packet hello refl is)

  -- the port has room, and keeps its party where nothing more is said
  kept : HasNumbers port a → (b : Acted) → IsUp b → On b → (now : Linked) → linked_at b.controller port ≡ Some now → now.port.adjacency.own ≡ own
  kept numbers b up cost = kept_party port own b (cost.kept up 0 (record { linked = linked; is = found; own_party = refl; room = room (number_of linked.port) (length (labels_of linked.port)) (length (joins_of a.controller)) (numbers linked found) }))
    where
      room : (n l j : ℕ) → n + (l + j) + 2 ≤ last_number → n + (l + (j + 2) + 0) ≤ last_number
      room n l j few = omega (arith, few)

pub frames_keep_parties : FramesKeepParties
frames_keep_parties port a ForGsmp mark payload linked found numbers spares up up_then =
    kept port a linked found numbers (gsmp_holds a (gsmp_decoded payload)) up_then (gsmp_cost port a linked found up (gsmp_decoded payload))
frames_keep_parties port a (ForDefault q) mark payload linked found numbers spares up up_then =
    kept port a linked found numbers (default_holds a q.setup.port mark (default_unwrapped payload)) up_then
    (by_eq q.setup.port.0 port.0 (λ e t. default_cost port a linked found q.setup.port mark (default_unwrapped payload) (spares e))
    (λ differs t. none_said port a linked found (default_holds a q.setup.port mark (default_unwrapped payload))
    (costs_alike port linked.port.adjacency.own a (default_holds a q.setup.port mark (default_unwrapped payload)) (other_default (anyhow port) q.setup.port differs a mark (default_unwrapped payload)))))
frames_keep_parties port a (ForLabel q label) mark payload linked found numbers spares up up_then =
    kept port a linked found numbers (frame_holds a (ForLabel q label) mark payload) up_then
    (none_said port a linked found (frame_holds a (ForLabel q label) mark payload)
    (costs_alike port linked.port.adjacency.own a (frame_holds a (ForLabel q label) mark payload) (label_leaves (anyhow port) a q label mark (unwrapped label.flow payload))))

pub entries_keep_parties : EntriesKeepParties
entries_keep_parties port a number packet linked found now found_then =
    ap (λ (l : Linked). l.port.adjacency.own) (one now linked (sym found_then ∙ (ap (at port_key port.0) (forwards_same a (record { packet = number; frame = 0 }) packet).ports ∙ found)))
  where
    one : (x y : Linked) → Some x ≡ Some y → x ≡ y
    one x y e = cc
