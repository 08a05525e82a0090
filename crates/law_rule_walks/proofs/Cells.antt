-- What a few changes of a controller keep, and what it notes and sends of packets, a packet that enters keeps, and a cell
-- that comes

use Rattle.std.proofs.Common.{◌≡◌, ℕ, List, [], ◌∷◌, drop, Option, None, Some, Result, refl}
use Rattle.std.specs.Prelude.{◌==◌, nat_lt, Ok, Err}
use Rattle.world_model.specs.Words.{NodeId, PortNo, Channel, Mark, Cell, protocol_of, PacketFault, hop_of, onward, Hop, Here, On, kind_of, default_payload, default_unwrapped, labelled_payload, unwrapped, EncapsFault, Record, Delivered, Dropped, Bad, Loss, Unbound, encaps_refusal, packet_refusal, ifmp_refusal, gsmp_refusal, Tested, tested, last_mark, next_mark, control_end, Setup, Desk, Work, Action, Grant, Label, Linked, default_home, sends_control, is_control, sends_next, goes_by, grant_by, forwards_packet, control_protocol, gsmp_holds, ForGsmp, ForDefault, ForLabel, taker_of, reassembly_of, with_reassembly, label_holds, ifmp_holds, counted_at, packet_holds, default_holds, frame_holds, takes_cell}
use Rattle.world_model.specs.ipv4_packet.Packet.{first_fault}
use Rattle.world_model.specs.ipv4_forward.declared.outcome.Hop.TheVariants.{NoRoute, Expired}
use Rattle.world_model.specs.ifmp_wire.declared.message.Message.{Message as IfmpMessage}
use Rattle.world_model.specs.ifmp_wire.declared.reader.Fault.{Fault as IfmpFault}
use Rattle.world_model.specs.ifmp_wire.Fields.{decoded as ifmp_decoded}
use Rattle.world_model.specs.gsmp_wire.declared.fault.Fault.{Fault as GsmpFault}
use Rattle.world_model.specs.gsmp_wire.declared.message.Message.{Message}
use Rattle.world_model.specs.gsmp_wire.Fields.{decoded as gsmp_decoded}
use Rattle.world_model.specs.link_model.declared.record.DropCause.{DropCause}
use Rattle.world_model.specs.link_model.declared.record.DropCause.TheVariants as drop_causes
use Rattle.world_model.specs.link_model.declared.record.Layer.{Layer}
use Rattle.world_model.specs.link_model.declared.record.Layer.TheVariants as layers
use Rattle.world_model.specs.link_model.declared.record.Refusal.{Refusal}
use Rattle.world_model.specs.frame_model.Reassembly.{Taken, taken}
use Rattle.law_port_facts.specs.Port.{Lives}
use Rattle.law_port_facts.proofs.Keyed.{on_both}
use Rattle.world_model.specs.Controller.{Acted, free_slots, note}
use Rattle.world_model.specs.Sending.{sends}
use Rattle.world_model.specs.Packets.{forwarded}
use Rattle.world_model.specs.Gsmp.{message_comes}
use Rattle.world_model.specs.Cells.{Taker, opened_frame, ends_frame, cell_comes}
use Rattle.law_rule_walks.proofs.Controllers.{Keeps, used_kept, counted_kept, ifmp_kept}

-- *What is noted of a packet*: that it is delivered or dropped, or what is wrong with it
pub data IsEnd : Record → Type 0 where
  is_delivered : (node : NodeId) (packet : ℕ) (octets : List ℕ) → IsEnd (Delivered node packet octets)
  is_dropped : (node : NodeId) (packet : ℕ) (cause : DropCause) → IsEnd (Dropped node packet cause)
  is_bad : (node : NodeId) (layer : Layer) (refusal : Refusal) → IsEnd (Bad node layer refusal)

-- *What forwarding keeps*: a frame is sent, or one of control, and the end of a packet is noted
pub record Forwards (P : Acted → Type 0) : Type 0 where
  pub sending : (a : Acted) (channel : Channel) (mark : Mark) (payload : List ℕ) → P a → P (sends a channel mark payload)
  pub sending_control : (a : Acted) (channel : Channel) (payload : List ℕ) → P a → P (sends_control a channel payload)
  pub ending : (a : Acted) (item : Record) → IsEnd item → P a → P (note a item)

module _ {P : Acted → Type 0} (f : Forwards P) where
  next_kept : (a : Acted) (came : Mark) (channel : Channel) (payload : List ℕ) → P a → P (sends_next a came channel payload)
  next_kept a came channel payload h = on_both P (is_control came) (sends_control a channel payload) (sends a channel (next_mark came) payload)
      (f.sending_control a channel payload h) (f.sending a channel (next_mark came) payload h)

  goes_by_kept : (a : Acted) (came : Mark) (port : PortNo) (packet : List ℕ) (o : Option Grant) → P a → P (goes_by a came port packet o)
  goes_by_kept a came port packet None h = next_kept a came (default_home port).channel (default_payload packet) h
  goes_by_kept a came port packet (Some grant) h = next_kept a came (control_end port grant.label).channel (labelled_payload (kind_of grant.flow) packet) h

  forwarded_kept : (a : Acted) (came : Mark) (packet : List ℕ) (hop : Hop) → P a → P (forwarded a came packet hop)
  forwarded_kept a came packet Here h = f.ending a (Delivered a.controller.node came.packet packet) (is_delivered a.controller.node came.packet packet) h
  forwarded_kept a came packet NoRoute h = f.ending a (Dropped a.controller.node came.packet drop_causes.NoRoute) (is_dropped a.controller.node came.packet drop_causes.NoRoute) h
  forwarded_kept a came packet Expired h = f.ending a (Dropped a.controller.node came.packet drop_causes.Expired) (is_dropped a.controller.node came.packet drop_causes.Expired) h
  forwarded_kept a came packet (On port) h = goes_by_kept a came port (onward packet) (grant_by a.controller port (onward packet)) h

  pub routes_kept : (a : Acted) (came : Mark) (packet : List ℕ) → P a → P (forwards_packet a came packet)
  routes_kept a came packet h = forwarded_kept a came packet (hop_of a.controller.table packet) h

  bad_kept : (a : Acted) (layer : Layer) (refusal : Refusal) → P a → P (note a (Bad a.controller.node layer refusal))
  bad_kept a layer refusal h = f.ending a (Bad a.controller.node layer refusal) (is_bad a.controller.node layer refusal) h

  -- *What a frame holds*, where labels may be bound, each message that is read lives, and those of the switch are kept
  module _ {Binds : Type 0} {K : Setup → Desk → Work → Type 0} {A : Setup → Action → Type 0} (k : Keeps Binds P K A) (binds : Binds)
      (lives : (octets : List ℕ) (message : IfmpMessage) → ifmp_decoded octets ≡ Ok message → Lives message)
      (tells : (a : Acted) (message : Message) → P a → P (message_comes a message)) where
    heard_kept : (a : Acted) (port : PortNo) (packet octets : List ℕ) (r : Result IfmpMessage IfmpFault) → ifmp_decoded octets ≡ r → P a → P (ifmp_holds a port packet r)
    heard_kept a port packet octets (Err fault) is h = bad_kept a layers.Ifmp (ifmp_refusal fault) h
    heard_kept a port packet octets (Ok message) is h = ifmp_kept k binds a port packet message (lives octets message is) h

    gsmp_kept : (a : Acted) (r : Result Message GsmpFault) → P a → P (gsmp_holds a r)
    gsmp_kept a (Ok message) h = tells a message h
    gsmp_kept a (Err fault) h = bad_kept a layers.Gsmp (gsmp_refusal fault) h

    label_kept : (a : Acted) (linked : Linked) (label : Label) (mark : Mark) (r : Result (List ℕ) EncapsFault) → P a → P (label_holds a linked label mark r)
    label_kept a linked label mark (Err fault) h = bad_kept a layers.Encaps (encaps_refusal fault) h
    label_kept a linked label mark (Ok packet) h = used_kept k (forwards_packet a mark packet) linked.setup.port label.number (routes_kept a mark packet h)

    packet_kept : (a : Acted) (port : PortNo) (mark : Mark) (packet : List ℕ) (o : Option PacketFault) → P a → P (packet_holds a port mark packet o)
    packet_kept a port mark packet (Some fault) h = bad_kept a layers.Packet (packet_refusal fault) h
    packet_kept a port mark packet None h = on_both P (protocol_of packet == control_protocol) (ifmp_holds a port packet (ifmp_decoded (drop 20 packet))) (counted_at (forwards_packet a mark packet) port packet)
        (heard_kept a port packet (drop 20 packet) (ifmp_decoded (drop 20 packet)) refl h)
        (counted_kept k (forwards_packet a mark packet) port packet (routes_kept a mark packet h))

    default_kept : (a : Acted) (port : PortNo) (mark : Mark) (r : Result (List ℕ) EncapsFault) → P a → P (default_holds a port mark r)
    default_kept a port mark (Err fault) h = bad_kept a layers.Encaps (encaps_refusal fault) h
    default_kept a port mark (Ok packet) h = packet_kept a port mark packet (first_fault packet) h

    frame_kept : (a : Acted) (taker : Taker) (mark : Mark) (payload : List ℕ) → P a → P (frame_holds a taker mark payload)
    frame_kept a ForGsmp mark payload h = gsmp_kept a (gsmp_decoded payload) h
    frame_kept a (ForDefault linked) mark payload h = default_kept a linked.setup.port mark (default_unwrapped payload) h
    frame_kept a (ForLabel linked label) mark payload h = label_kept a linked label mark (unwrapped label.flow payload) h

    opened_kept : (a : Acted) (taker : Taker) (mark : Mark) (o : Option (List ℕ)) → P a → P (opened_frame a taker mark o)
    opened_kept a taker mark None h = h
    opened_kept a taker mark (Some payload) h = frame_kept a taker mark payload h

    -- *A chain that has ended*, where its test keeps it
    module _ (testing : (a : Acted) (cells : List Cell) → P a → P (record a { notes = (tested a.notes cells).notes })) where
      pub ends_kept : (a : Acted) (taker : Taker) (cells : List Cell) → P a → P (ends_frame a taker cells)
      ends_kept a taker [] h = h
      ends_kept a taker (cell ∷ cells) h =
          let test : Tested = tested a.notes (cell ∷ cells) in
          opened_kept (record a { notes = test.notes }) taker (last_mark (cell ∷ cells)) test.payload (testing a (cell ∷ cells) h)

      -- *A cell that comes*, where it is lost at a channel that nobody takes, or gathered
      module _ (losing : (a : Acted) (mark : Mark) → P a → P (note a (Loss mark Unbound)))
          (gathering : (a : Acted) (taker : Taker) (cell : Cell) → taker_of a.controller cell.header.channel ≡ Some taker → P a
          → P (with_reassembly (record a { notes = (taken a.notes (nat_lt 0 (free_slots a.controller)) (reassembly_of a.controller taker) cell).notes }) taker
          (taken a.notes (nat_lt 0 (free_slots a.controller)) (reassembly_of a.controller taker) cell).reassembly)) where
        takes_kept : (a : Acted) (cell : Cell) (o : Option Taker) → taker_of a.controller cell.header.channel ≡ o → P a → P (takes_cell a cell o)
        takes_kept a cell None found h = losing a cell.mark h
        takes_kept a cell (Some taker) found h =
            let t : Taken = taken a.notes (nat_lt 0 (free_slots a.controller)) (reassembly_of a.controller taker) cell in
            ends_kept (with_reassembly (record a { notes = t.notes }) taker t.reassembly) taker t.ended (gathering a taker cell found h)

        pub cell_kept : (a : Acted) (cell : Cell) → P a → P (cell_comes a cell)
        cell_kept a cell h = takes_kept a cell (taker_of a.controller cell.header.channel) refl h
