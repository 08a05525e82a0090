-- a frame in peace, whoever takes it

use Rattle.std.proofs.Common.{◌≡◌, ℕ, Bool, true, false, List, [], drop, Option, None, Some, Result, Ok, Err, refl, sym, ◌∙◌, ap, subst, if◌then◌else◌}
use Rattle.std.specs.Prelude.{◌==◌}
use Rattle.world_model.specs.Words.{PortNo, Mark, Addr, PacketFault, EncapsFault, protocol_of, source_of, control_protocol, default_unwrapped, unwrapped, Label, Work, counts, used, hears, Linked, linked_at, begins, forwards_packet, ForGsmp, ForDefault, ForLabel, counted_at, ifmp_holds, packet_holds, default_holds, label_holds}
use Rattle.world_model.specs.ipv4_packet.Packet.{first_fault}
use Rattle.world_model.specs.ifmp_wire.Fields.{decoded as ifmp_decoded}
use Rattle.world_model.specs.ifmp_wire.declared.message.Message.{Message}
use Rattle.world_model.specs.ifmp_wire.declared.reader.Fault.{Fault}
use Rattle.world_model.specs.gsmp_wire.Fields.{decoded as gsmp_decoded}
use Rattle.world_model.specs.Controller.{Acted}
use Rattle.law_live_others.specs.Law.{IsOnlyCounted}
use Rattle.law_live_others.proofs.Holding.{SameWork, forwards_same}
use Rattle.law_live_joining.specs.Joins.{KeepsJoins}
use Rattle.law_live_joining.specs.Frames.{IsPeers, IsPeersIf, IsPeacefulAs, IsPeacefulPacket, IsPeacefulIn, FramesKeepJoins}
use Rattle.law_live_joining.proofs.Keeping.{keeps_same, keeps_then}
use Rattle.law_live_joining.proofs.Ports.{IsKind, rule_keeps}
use Rattle.law_live_joining.proofs.Counting.{use_kind, count_kind}
use Rattle.law_live_joining.proofs.Hearing.{hearing_kind}
use Rattle.law_live_joining.proofs.Answers.{gsmp_keeps}

module _ (a : Acted) where
  -- *On the channel of a label*
  label_keeps : (linked : Linked) (label : Label) (mark : Mark) (r : Result (List ℕ) EncapsFault) → KeepsJoins a.controller (label_holds a linked label mark r).controller
  label_keeps linked label mark (Err fault) = keeps_same a.controller a.controller refl
  label_keeps linked label mark (Ok packet) =
      let b : Acted = forwards_packet a mark packet in
      keeps_then a.controller b.controller (label_holds a linked label mark (Ok packet)).controller (keeps_same a.controller b.controller (forwards_same a mark packet).ports)
      (rule_keeps b linked.setup.port (λ setup desk w. used w label.number) (λ l found. use_kind l.setup b.controller.desk l.port b.numbers.instances label.number))

  -- *On a default channel*
  module _ (q : PortNo) (mark : Mark) where
    hears_keeps : (packet : List ℕ) (r : Result Message Fault) → ((linked : Linked) → linked_at a.controller q ≡ Some linked → IsPeersIf linked (source_of packet) r)
        → KeepsJoins a.controller (ifmp_holds a q packet r).controller
    hears_keeps packet (Err fault) peers = keeps_same a.controller a.controller refl
    hears_keeps packet (Ok message) peers = rule_keeps a q (λ setup desk w. hears setup desk w (source_of packet) message) (λ linked found. each linked (peers linked found))
      where
        each : (linked : Linked) → IsPeers linked (source_of packet) message → IsKind linked.port (hears linked.setup a.controller.desk (begins a linked) (source_of packet) message)
        each linked is = subst (λ (from : Addr). IsKind linked.port (hears linked.setup a.controller.desk (begins a linked) from message)) (sym is.from)
            (hearing_kind a.controller.desk a.numbers.instances (record { setup = linked.setup; port = linked.port; said = is.said }) is.other message is.rest is.agreed is.first)

    counted_keeps : (packet : List ℕ) → ((linked : Linked) → linked_at a.controller q ≡ Some linked → IsOnlyCounted a packet linked)
        → KeepsJoins a.controller (counted_at (forwards_packet a mark packet) q packet).controller
    counted_keeps packet only = keeps_then a.controller b.controller (counted_at b q packet).controller (keeps_same a.controller b.controller same.ports)
        (rule_keeps b q (λ setup desk w. counts setup desk w packet) kind)
      where
        b : Acted
        b = forwards_packet a mark packet

        same : SameWork a b
        same = forwards_same a mark packet

        kind : (linked : Linked) → linked_at b.controller q ≡ Some linked → IsKind linked.port (counts linked.setup b.controller.desk (begins b linked) packet)
        kind linked found = count_kind linked.setup b.controller.desk linked.port b.numbers.instances packet here.labels_in_order (ap (λ (w : Work). w.actions) moved ∙ here.asks_nothing)
          where
            here : IsOnlyCounted a packet linked
            here = only linked (sym (ap (λ ports. linked_at (record a.controller { ports = ports }) q) same.ports) ∙ found)

            moved : counts linked.setup b.controller.desk (begins b linked) packet ≡ counts linked.setup a.controller.desk (begins a linked) packet
            moved = λ i. counts linked.setup (same.desk i) (record { port = linked.port; actions = []; halted = false; instances = same.instances i }) packet

    as_keeps : (packet : List ℕ) (is_message : Bool) → ((linked : Linked) → linked_at a.controller q ≡ Some linked → IsPeacefulAs a linked packet is_message)
        → KeepsJoins a.controller (if is_message then ifmp_holds a q packet (ifmp_decoded (drop 20 packet)) else counted_at (forwards_packet a mark packet) q packet).controller
    as_keeps packet true peace = hears_keeps packet (ifmp_decoded (drop 20 packet)) peace
    as_keeps packet false peace = counted_keeps packet peace

    packet_keeps : (packet : List ℕ) (o : Option PacketFault) → ((linked : Linked) → linked_at a.controller q ≡ Some linked → IsPeacefulPacket a linked packet o)
        → KeepsJoins a.controller (packet_holds a q mark packet o).controller
    packet_keeps packet (Some fault) peace = keeps_same a.controller a.controller refl
    packet_keeps packet None peace = as_keeps packet (protocol_of packet == control_protocol) peace

    pub default_keeps : (r : Result (List ℕ) EncapsFault) → ((linked : Linked) → linked_at a.controller q ≡ Some linked → IsPeacefulIn a linked r) → KeepsJoins a.controller (default_holds a q mark r).controller
    default_keeps (Err fault) peace = keeps_same a.controller a.controller refl
    default_keeps (Ok packet) peace = packet_keeps packet (first_fault packet) peace

pub frames_keep_joins : FramesKeepJoins
frames_keep_joins a ForGsmp mark payload up peace = gsmp_keeps a up (gsmp_decoded payload) peace
frames_keep_joins a (ForDefault q) mark payload up peace = default_keeps a q.setup.port mark (default_unwrapped payload) peace
frames_keep_joins a (ForLabel q label) mark payload up peace = label_keeps a q label mark (unwrapped label.flow payload)
