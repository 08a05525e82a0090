-- what bears on the records alone: all that a controller does keeps it, where each record that it makes does

use Rattle.std.proofs.Common.{◌≡◌, ℕ, true, List, [], ◌∷◌, ◌++◌, length, Option, None, Some, refl, sym, subst}
use Rattle.std.specs.Prelude.{nat_le, ◌==◌, drop, Result, Ok, Err}
use Rattle.law_arrival_views.specs.world_model.Words.{PortNo, Channel, Mark, next_control, with_control, protocol_of, PacketFault, hop_of, onward, Hop, Here, On, kind_of, default_payload, labelled_payload, default_unwrapped, unwrapped, EncapsFault, Record, Bad, Loss, Delivered, Dropped, PoolFull, Journal, noted, encaps_refusal, packet_refusal, frame_cells, made, next_mark, control_end, Label, Grant, Controller, Linked, default_channel, default_home, sends_control, is_control, sends_next, goes_by, grant_by, forwards_packet, control_protocol, ForGsmp, ForDefault, ForLabel, label_holds, ifmp_holds, counted_at, packet_holds, default_holds, frame_holds}
use Rattle.law_arrival_views.specs.world_model.ipv4_packet.Packet.{first_fault}
use Rattle.law_arrival_views.specs.world_model.ipv4_forward.declared.outcome.Hop.TheVariants.{NoRoute, Expired}
use Rattle.law_arrival_views.specs.world_model.ifmp_wire.Fields.{decoded as ifmp_decoded}
use Rattle.law_arrival_views.specs.world_model.gsmp_wire.Layout.{octets_of as gsmp_octets}
use Rattle.law_arrival_views.specs.world_model.gsmp_wire.Fields.{decoded as gsmp_decoded}
use Rattle.law_arrival_views.specs.world_model.link_model.declared.record.Layer.TheVariants as layers
use Rattle.law_arrival_views.specs.world_model.link_model.declared.record.DropCause.TheVariants as drop_causes
use Rattle.law_arrival_views.specs.world_model.frame_model.Sending.{Sender}
use Rattle.law_arrival_views.proofs.law_port_facts.Keyed.{on_both}
use Rattle.law_arrival_views.specs.world_model.Controller.{Acted, free_slots}
use Rattle.law_arrival_views.specs.world_model.Sending.{with_cells, sends}
use Rattle.law_arrival_views.specs.world_model.Packets.{forwarded}
use Rattle.law_arrival_views.specs.world_model.Cells.{Taker, opened_frame}
use Rattle.law_packet_worlds.proofs.Quiet.{is_fate, Allows}
use Rattle.law_unused_labels.proofs.law_causes.Noting.{AllowsBinding}
use Rattle.law_packet_worlds.proofs.Walk.{Kept, used_kept, counted_kept, ifmp_holds_kept, gsmp_holds_kept}

-- fates may be noted too
abbrev pub AllowsFates : (Record → Type 0) → Type 0
AllowsFates Q = (item : Record) → is_fate item ≡ true → Q item

module _ (R : List Record → Type 0) (Q : Record → Type 0) (may : Allows Q) (push : (records : List Record) (item : Record) → Q item → R records → R (records ++ item ∷ [])) where
  abbrev pub Has : Acted → Type 0
  Has a = R a.notes.records

  pub sends_has : (a : Acted) (channel : Channel) (mark : Mark) (payload : List ℕ) → Has a → Has (sends a channel mark payload)
  sends_has a channel mark payload h = on_both (λ (s : Sender Controller). R s.notes.records) (nat_le (length (frame_cells channel mark payload)) (free_slots a.controller))
      (record { queues = with_cells a.controller (frame_cells channel mark payload); notes = made a.notes mark payload })
      (record { queues = a.controller; notes = noted (made a.notes mark payload) (Loss mark PoolFull) })
      h (push a.notes.records (Loss mark PoolFull) (may (Loss mark PoolFull) refl refl) h)

  control_has : (a : Acted) (channel : Channel) (payload : List ℕ) → Has a → Has (sends_control a channel payload)
  control_has a channel payload h = sends_has (record a { numbers = with_control a.numbers }) channel (next_control a.numbers) payload h

  pub records_kept : Kept Q Has
  records_kept = record {
    alike = λ a b same h. subst (λ (n : Journal). R n.records) (sym same.notes) h;
    noted = λ a item q h. push a.notes.records item q h;
    told = λ a message h. control_has a default_channel (gsmp_octets message) h;
    said = λ port a message h. control_has a (default_home port).channel _ h;
  }

  module _ (fates : AllowsFates Q) where
    next_has : (a : Acted) (came : Mark) (channel : Channel) (payload : List ℕ) → Has a → Has (sends_next a came channel payload)
    next_has a came channel payload h = on_both Has (is_control came) (sends_control a channel payload) (sends a channel (next_mark came) payload)
        (control_has a channel payload h) (sends_has a channel (next_mark came) payload h)

    goes_by_has : (a : Acted) (came : Mark) (port : PortNo) (packet : List ℕ) (o : Option Grant) → Has a → Has (goes_by a came port packet o)
    goes_by_has a came port packet None h = next_has a came (default_home port).channel (default_payload packet) h
    goes_by_has a came port packet (Some grant) h = next_has a came (control_end port grant.label).channel (labelled_payload (kind_of grant.flow) packet) h

    forwarded_has : (a : Acted) (came : Mark) (packet : List ℕ) (hop : Hop) → Has a → Has (forwarded a came packet hop)
    forwarded_has a came packet Here h = push a.notes.records (Delivered a.controller.node came.packet packet) (fates (Delivered a.controller.node came.packet packet) refl) h
    forwarded_has a came packet NoRoute h = push a.notes.records (Dropped a.controller.node came.packet drop_causes.NoRoute) (fates (Dropped a.controller.node came.packet drop_causes.NoRoute) refl) h
    forwarded_has a came packet Expired h = push a.notes.records (Dropped a.controller.node came.packet drop_causes.Expired) (fates (Dropped a.controller.node came.packet drop_causes.Expired) refl) h
    forwarded_has a came packet (On port) h = goes_by_has a came port (onward packet) (grant_by a.controller port (onward packet)) h

    pub routes_has : (a : Acted) (came : Mark) (packet : List ℕ) → Has a → Has (forwards_packet a came packet)
    routes_has a came packet h = forwarded_has a came packet (hop_of a.controller.table packet) h

    -- *Frames*
    module _ (binds : AllowsBinding Q) where
      label_has : (a : Acted) (linked : Linked) (label : Label) (mark : Mark) (r : Result (List ℕ) EncapsFault) → Has a → Has (label_holds a linked label mark r)
      label_has a linked label mark (Err fault) h = push a.notes.records _ (may (Bad a.controller.node layers.Encaps (encaps_refusal fault)) refl refl) h
      label_has a linked label mark (Ok packet) h = used_kept Q may Has records_kept (forwards_packet a mark packet) linked.setup.port label.number (routes_has a mark packet h)

      packet_has : (a : Acted) (port : PortNo) (mark : Mark) (packet : List ℕ) (o : Option PacketFault) → Has a → Has (packet_holds a port mark packet o)
      packet_has a port mark packet (Some fault) h = push a.notes.records _ (may (Bad a.controller.node layers.Packet (packet_refusal fault)) refl refl) h
      packet_has a port mark packet None h = on_both Has (protocol_of packet == control_protocol) (ifmp_holds a port packet (ifmp_decoded (drop 20 packet))) (counted_at (forwards_packet a mark packet) port packet)
          (ifmp_holds_kept Q may Has records_kept binds a port packet (drop 20 packet) (ifmp_decoded (drop 20 packet)) refl h)
          (counted_kept Q may Has records_kept (forwards_packet a mark packet) port packet (routes_has a mark packet h))

      default_has : (a : Acted) (port : PortNo) (mark : Mark) (r : Result (List ℕ) EncapsFault) → Has a → Has (default_holds a port mark r)
      default_has a port mark (Err fault) h = push a.notes.records _ (may (Bad a.controller.node layers.Encaps (encaps_refusal fault)) refl refl) h
      default_has a port mark (Ok packet) h = packet_has a port mark packet (first_fault packet) h

      frame_has : (a : Acted) (taker : Taker) (mark : Mark) (payload : List ℕ) → Has a → Has (frame_holds a taker mark payload)
      frame_has a ForGsmp mark payload h = gsmp_holds_kept Q may Has records_kept binds a (gsmp_decoded payload) h
      frame_has a (ForDefault linked) mark payload h = default_has a linked.setup.port mark (default_unwrapped payload) h
      frame_has a (ForLabel linked label) mark payload h = label_has a linked label mark (unwrapped label.flow payload) h

      pub opened_has : (a : Acted) (taker : Taker) (mark : Mark) (o : Option (List ℕ)) → Has a → Has (opened_frame a taker mark o)
      opened_has a taker mark None h = h
      opened_has a taker mark (Some payload) h = frame_has a taker mark payload h
