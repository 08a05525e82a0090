-- a frame on a port's own default channel is refused, or is a packet, where it holds no message; and what is left alike at a controller is
-- left so in the network

use Rattle.std.proofs.Common.{◌≡◌, ◌⊎◌, inl, inr, ℕ, ◌==◌, Bool, true, false, List, drop, Option, None, Some, Result, refl, sym, ◌∙◌, ap, if◌then◌else◌}
use Rattle.std.specs.Prelude.{Ok, Err}
use Rattle.std.specs.Option.{option_and_then}
use Rattle.world_model.specs.Words.{PortNo, Up, Cell, Mark, PacketFault, EncapsFault, protocol_of, control_protocol, default_unwrapped, nothing_taken, with_reassembly, taker_of, frame_holds, Linked, linked_at, ifmp_of, Topology, World, site_at, queue_at, with_queue_in, next}
use Rattle.world_model.specs.Ways.{ifmp_in, ok_of}
use Rattle.world_model.specs.Controller.{Acted}
use Rattle.world_model.specs.Cells.{Taker}
use Rattle.world_model.specs.ipv4_packet.Packet.{first_fault}
use Rattle.world_model.specs.ifmp_wire.Fields.{decoded as ifmp_decoded}
use Rattle.world_model.specs.ifmp_wire.declared.message.Message.{Message}
use Rattle.world_model.specs.ifmp_wire.declared.reader.Fault.{Fault}
use Rattle.world_model.specs.network_model.declared.link.LinkEnd.{LinkEnd}
use Rattle.world_model.specs.network_model.declared.event.Event.TheVariants.{Carry}
use Rattle.law_live_binding_beats.specs.law_live_hearing.Law.{acting}
use Rattle.law_live_binding_beats.specs.law_live_worlds.Law.{Shows, IsLeftAlike}
use Rattle.law_live_binding_beats.proofs.law_live_elsewhere.Elsewhere.{gathered, taker_is_of}
use Rattle.law_live_binding_beats.specs.law_live_others.Law.{IsAlikeAt, LeavesAlike, IsRefused, IsUnheardAs, IsUnheardPacket, IsUnheard}
use Rattle.law_live_binding_beats.proofs.law_live_passed_by.Frames.{then_alike}
use Rattle.law_live_binding_beats.specs.law_live_bound.Law.{HoldsPacket}

-- *No message is in it*: so it isn't heard, or it holds a packet
pub record Packet (payload : List ℕ) : Type 0 where
  pub packet : List ℕ
  pub holds : HoldsPacket payload packet

module _ (a : Acted) (port : PortNo) (payload : List ℕ) (none : ifmp_of payload ≡ None) where
  is_refused : (read : Result Message Fault) → ok_of read ≡ None → IsRefused read
  is_refused (Err fault) e = tt
  is_refused (Ok message) e = absurd (cc e)

  by_kind : (packet : List ℕ) → default_unwrapped payload ≡ Ok packet → first_fault packet ≡ None → (b : Bool) → (protocol_of packet == control_protocol) ≡ b
      → IsUnheardAs a port packet b ⊎ Packet payload
  by_kind packet e whole true t = inl (is_refused (ifmp_decoded (drop 20 packet))
      (ap (λ (message : Bool). if message then ok_of (ifmp_decoded (drop 20 packet)) else None) (sym t)
      ∙ (ap (λ (read : Result (List ℕ) EncapsFault). option_and_then ifmp_in (ok_of read)) (sym e) ∙ none)))
  by_kind packet e whole false t = inr (record { packet = packet; holds = record { is = e; whole = whole; no_message = t } })

  by_packet : (packet : List ℕ) → default_unwrapped payload ≡ Ok packet → (fault : Option PacketFault) → first_fault packet ≡ fault → IsUnheardPacket a port packet fault ⊎ Packet payload
  by_packet packet e (Some fault) is = inl tt
  by_packet packet e None is = by_kind packet e is (protocol_of packet == control_protocol) refl

  by_read : (read : Result (List ℕ) EncapsFault) → default_unwrapped payload ≡ read → IsUnheard a port read ⊎ Packet payload
  by_read (Err fault) e = inl tt
  by_read (Ok packet) e = by_packet packet e (first_fault packet) refl

  pub unheard_or_packet : IsUnheard a port (default_unwrapped payload) ⊎ Packet payload
  unheard_or_packet = by_read (default_unwrapped payload) refl

-- *What is left alike* by a frame that a carry ends
module _ (topology : Topology) (w : World) (one : LinkEnd) {linked : Linked} (shows : Shows w one linked) (cell : Cell) (taker : Taker)
    (takes : taker_of shows.site.controller cell.header.channel ≡ Some taker) (mark : Mark) (payload : List ℕ)
    (acts : site_at (next topology w (Carry (Up one.node))) one.node
    ≡ Some (record (with_queue_in shows.site (Up one.node) (drop 1 (queue_at w (Up one.node)))) {
      controller = (frame_holds (with_reassembly (acting w shows.site) taker nothing_taken) taker mark payload).controller;
    })) where
  abbrev a : Acted
  a = acting w shows.site

  abbrev before : Acted
  before = with_reassembly a taker nothing_taken

  abbrev b : Acted
  b = frame_holds before taker mark payload

  pub left_so : LeavesAlike one.port before b → IsLeftAlike linked (next topology w (Carry (Up one.node))) one
  left_so left = record {
    linked = now.after;
    shows = record {
      site = record (with_queue_in shows.site (Up one.node) (drop 1 (queue_at w (Up one.node)))) { controller = b.controller };
      there = acts;
      of_port = now.there;
      address = ap (λ side. side.own.address) now.alike.adjacency ∙ (shows.address ∙ sym all.address);
    };
    setup = now.setup;
    alike = now.alike;
  }
    where
      all : LeavesAlike one.port a b
      all = then_alike one.port a before b (gathered a taker nothing_taken (taker_is_of shows.site.controller cell.header.channel taker takes)) left

      now : IsAlikeAt linked (linked_at b.controller one.port)
      now = all.left linked shows.of_port
