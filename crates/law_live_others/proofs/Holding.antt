-- what a packet and a message of IFMP leave of a port

use Rattle.std.proofs.Common.{◌≡◌, ◌≢◌, ℕ, Bool, true, false, List, [], Option, None, Some, Result, refl, sym, ◌∙◌, ap, subst, ◌⊎◌, inl, inr, drop, if◌then◌else◌}
use Rattle.std.specs.Prelude.{◌==◌, Ok, Err}
use Rattle.world_model.specs.Words.{PortNo, Mark, PacketFault, EncapsFault, protocol_of, source_of, control_protocol, default_unwrapped, unwrapped, Desk, Label, Work, counts, used, hears, Linked, linked_at, port_key, begins, forwards_packet, ForDefault, ForLabel, counted_at, ifmp_holds, packet_holds, default_holds, label_holds, frame_holds, Channel, with_control, next_control, at_port, Setup}
use Rattle.world_model.specs.ipv4_packet.Packet.{first_fault}
use Rattle.world_model.specs.ifmp_wire.Fields.{decoded as ifmp_decoded}
use Rattle.world_model.specs.ifmp_wire.declared.message.Message.{Message}
use Rattle.world_model.specs.ifmp_wire.declared.reader.Fault.{Fault}
use Rattle.world_model.specs.Controller.{Acted}
use Rattle.world_model.specs.port_model.Port.{Port}
use Rattle.law_port_facts.proofs.Keyed.{on_both}
use Rattle.law_rule_walks.proofs.Cells.{Forwards, routes_kept}
use Rattle.law_live_unseen.specs.Law.{AreAlike}
use Rattle.law_live_ports.proofs.Joining.{SameRest, sent_rest}
use Rattle.law_live_others.specs.Law.{IsOnlyCounted, IsRefused, IsUnheardAs, IsUnheardPacket, IsUnheard}
use Rattle.law_live_others.proofs.Leaving.{Terms, Leaves, leaves_same, leaves_then}
use Rattle.law_live_others.proofs.Working.{IsUnseen, sends_leaves, control_leaves, other_leaves, rule_leaves}
use Rattle.law_live_others.proofs.Counting.{use_unseen, count_unseen}

-- *A packet that is sent on* changes no port and no desk, nor the adjacency with the switch, and takes no instance
pub record SameWork (a b : Acted) : Type 0 where
  pub ports : b.controller.ports ≡ a.controller.ports
  pub desk : b.controller.desk ≡ a.controller.desk
  pub adjacency : b.controller.adjacency ≡ a.controller.adjacency
  pub instances : b.numbers.instances ≡ a.numbers.instances

works_same : (a : Acted) → Forwards (SameWork a)
works_same a = record {
  sending = λ b channel mark payload h. (let rest : SameRest b.controller _ = sent_rest b channel mark payload in record { ports = rest.ports ∙ h.ports; desk = rest.desk ∙ h.desk; adjacency = rest.adjacency ∙ h.adjacency; instances = h.instances });
  sending_control = λ b channel payload h. (let rest : SameRest b.controller _ = sent_rest (record b { numbers = with_control b.numbers }) channel (next_control b.numbers) payload in
      record { ports = rest.ports ∙ h.ports; desk = rest.desk ∙ h.desk; adjacency = rest.adjacency ∙ h.adjacency; instances = h.instances });
  ending = λ b item is h. record { ports = h.ports; desk = h.desk; adjacency = h.adjacency; instances = h.instances };
}

pub forwards_same : (a : Acted) (came : Mark) (packet : List ℕ) → SameWork a (forwards_packet a came packet)
forwards_same a came packet = routes_kept (works_same a) a came packet (record { ports = refl; desk = refl; adjacency = refl; instances = refl })

module _ (t : Terms) where
  forwarding : (a : Acted) → Forwards (Leaves t a)
  forwarding a = record {
    sending = λ b channel mark payload h. leaves_then t a b _ h (sends_leaves t b channel mark payload);
    sending_control = λ b channel payload h. leaves_then t a b _ h (control_leaves t b channel payload);
    ending = λ b item is h. leaves_then t a b _ h (leaves_same t b _ refl refl refl);
  }

  forwards_leaves : (a : Acted) (came : Mark) (packet : List ℕ) → Leaves t a (forwards_packet a came packet)
  forwards_leaves a came packet = routes_kept (forwarding a) a came packet (leaves_same t a a refl refl refl)

  -- *On the channel of a label*
  pub label_leaves : (a : Acted) (linked : Linked) (label : Label) (mark : Mark) (r : Result (List ℕ) EncapsFault) → Leaves t a (label_holds a linked label mark r)
  label_leaves a linked label mark (Err fault) = leaves_same t a _ refl refl refl
  label_leaves a linked label mark (Ok packet) =
      let b : Acted = forwards_packet a mark packet in
      leaves_then t a b _ (forwards_leaves a mark packet)
      (rule_leaves t b linked.setup.port (λ setup desk w. used w label.number) (λ l found same is. use_unseen l.setup b.controller.desk l.port b.numbers.instances label.number))

  -- *On the default channel of another port*
  module _ (q : PortNo) (differs : q.0 ≢ t.port.0) where
    other_hears : (a : Acted) (packet : List ℕ) (r : Result Message Fault) → Leaves t a (ifmp_holds a q packet r)
    other_hears a packet (Err fault) = leaves_same t a _ refl refl refl
    other_hears a packet (Ok message) = other_leaves t a q (λ setup desk w. hears setup desk w (source_of packet) message) (λ same x is. differs same)

    other_counts : (a : Acted) (mark : Mark) (packet : List ℕ) → Leaves t a (counted_at (forwards_packet a mark packet) q packet)
    other_counts a mark packet =
        let b : Acted = forwards_packet a mark packet in
        leaves_then t a b (counted_at b q packet) (forwards_leaves a mark packet) (other_leaves t b q (λ setup desk w. counts setup desk w packet) (λ same x is. differs same))

    other_packet : (a : Acted) (mark : Mark) (packet : List ℕ) (o : Option PacketFault) → Leaves t a (packet_holds a q mark packet o)
    other_packet a mark packet (Some fault) = leaves_same t a _ refl refl refl
    other_packet a mark packet None = on_both (Leaves t a) (protocol_of packet == control_protocol) (ifmp_holds a q packet (ifmp_decoded (drop 20 packet))) (counted_at (forwards_packet a mark packet) q packet)
        (other_hears a packet (ifmp_decoded (drop 20 packet))) (other_counts a mark packet)

    pub other_default : (a : Acted) (mark : Mark) (r : Result (List ℕ) EncapsFault) → Leaves t a (default_holds a q mark r)
    other_default a mark (Err fault) = leaves_same t a _ refl refl refl
    other_default a mark (Ok packet) = other_packet a mark packet (first_fault packet)

  -- *On that of a port that doesn't hear it*
  module _ (a : Acted) (q : PortNo) (mark : Mark) where
    counted_unseen : (packet : List ℕ) → ((linked : Linked) → linked_at a.controller q ≡ Some linked → IsOnlyCounted a packet linked)
        → Leaves t a (counted_at (forwards_packet a mark packet) q packet)
    counted_unseen packet only =
        leaves_then t a b (counted_at b q packet) (forwards_leaves a mark packet) (rule_leaves t b q (λ setup desk w. counts setup desk w packet) unseen)
      where
        b : Acted
        b = forwards_packet a mark packet

        same : SameWork a b
        same = forwards_same a mark packet

        unseen : (linked : Linked) → linked_at b.controller q ≡ Some linked → port_key linked ≡ t.port.0 → t.is linked.port → IsUnseen linked.port (counts linked.setup b.controller.desk (begins b linked) packet)
        unseen linked found e is = count_unseen linked.setup b.controller.desk linked.port b.numbers.instances packet here.labels_in_order (ap (λ (w : Work). w.actions) moved ∙ here.asks_nothing)
          where
            here : IsOnlyCounted a packet linked
            here = only linked (sym (ap (λ ports. linked_at (record a.controller { ports = ports }) q) same.ports) ∙ found)

            moved : counts linked.setup b.controller.desk (begins b linked) packet ≡ counts linked.setup a.controller.desk (begins a linked) packet
            moved = λ i. counts linked.setup (same.desk i) (record { port = linked.port; actions = []; halted = false; instances = same.instances i }) packet

    unheard_as : (packet : List ℕ) (is_message : Bool) → IsUnheardAs a q packet is_message
        → Leaves t a (if is_message then ifmp_holds a q packet (ifmp_decoded (drop 20 packet)) else counted_at (forwards_packet a mark packet) q packet)
    unheard_as packet true refused = by (ifmp_decoded (drop 20 packet)) refused
      where
        by : (r : Result Message Fault) → IsRefused r → Leaves t a (ifmp_holds a q packet r)
        by (Err fault) refused = leaves_same t a _ refl refl refl
        by (Ok message) refused = absurd refused
    unheard_as packet false only = counted_unseen packet only

    unheard_packet : (packet : List ℕ) (o : Option PacketFault) → IsUnheardPacket a q packet o → Leaves t a (packet_holds a q mark packet o)
    unheard_packet packet (Some fault) unheard = leaves_same t a _ refl refl refl
    unheard_packet packet None unheard = unheard_as packet (protocol_of packet == control_protocol) unheard

    pub unheard_default : (r : Result (List ℕ) EncapsFault) → IsUnheard a q r → Leaves t a (default_holds a q mark r)
    unheard_default (Err fault) unheard = leaves_same t a _ refl refl refl
    unheard_default (Ok packet) unheard = unheard_packet packet (first_fault packet) unheard
