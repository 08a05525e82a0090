-- the frames that say a port's messages greet as these do

use Rattle.std.proofs.Common.{◌≡◌, ◌≢◌, ℕ, Bool, true, false, List, Option, None, Some, Result, refl, sym, ◌∙◌, ap, if◌then◌else◌}
use Rattle.std.specs.Prelude.{◌==◌, drop}
use Rattle.std.specs.Option.{option_and_then}
use Rattle.world_model.specs.Words.{Addr, Mark, Frame, Hello, Syn, Synack, Rstack, Ack, Peer, Said, Side, Reply, Silent, Says, Resets, ticked, followed_tick, tick_reply, Redirect, Reclaim, ReclaimAck, LabelRange, Error, EncapsFault, default_payload, ifmp_packet_of, protocol_of, control_protocol, ifmp_in, ifmp_of}
use Rattle.world_model.specs.adjacency_table.Side.{counted}
use Rattle.world_model.specs.ifmp_wire.declared.message.Message.{Message}
use Rattle.world_model.specs.ifmp_wire.declared.message.Message.TheVariants.{Adjacency}
use Rattle.world_model.specs.ifmp_wire.declared.reader.Fault.{Fault}
use Rattle.world_model.specs.ifmp_wire.Fields.{decoded, decoded_by, message_at}
use Rattle.world_model.specs.ifmp_wire.Message.{octets_of as ifmp_octets}
use Rattle.world_model.specs.ifmp_wire.Tests.{first_fault}
use Rattle.world_model.specs.Ways.{ok_of}
use Rattle.law_live_waking_links.specs.law_port_facts.ordered_lists.Ordered.{Every}
use Rattle.law_live_waking_links.proofs.law_frame_readings.law_wire.Packets.{message_is, unwrapped_again}
use Rattle.law_live_waking_links.specs.law_live_meetings.Exchange.{said_in}
use Rattle.law_live_waking_links.specs.law_live_orders.Messages.{AreSaid, none, says, passed}
use Rattle.law_live_waking_links.specs.Hellos.{Greet}
use Rattle.law_live_waking_links.specs.Hellos as hellos
use Rattle.law_live_tables.proofs.Plain.{IsOther}
use Rattle.law_live_tables.proofs.Ticking.{Hellos}
use Rattle.law_live_tables.proofs.Ticking as ticking

-- *Another message* isn't read as a greeting
other_fields : (message : Message) → IsOther message → (hello : Hello) → message_at (ifmp_octets message) ≡ Adjacency hello → ⊥
other_fields (Adjacency own) other hello e = other
other_fields (Redirect sender peer number lifetime channel flow) other hello e = absurd (cc e)
other_fields (Reclaim sender peer number channel flow) other hello e = absurd (cc e)
other_fields (ReclaimAck sender peer number channel flow) other hello e = absurd (cc e)
other_fields (LabelRange sender peer number least greatest) other hello e = absurd (cc e)
other_fields (Error sender peer number code channel) other hello e = absurd (cc e)

other_read : (message : Message) → IsOther message → (hello : Hello) → ok_of (decoded (ifmp_octets message)) ≡ Some (Adjacency hello) → ⊥
unfolding decoded
other_read message other hello = by (first_fault (ifmp_octets message))
  where
    one : (x y : Message) → Some x ≡ Some y → x ≡ y
    one x y e = cc

    by : (o : Option Fault) → ok_of (decoded_by o (ifmp_octets message)) ≡ Some (Adjacency hello) → ⊥
    by None e = other_fields message other hello (one (message_at (ifmp_octets message)) (Adjacency hello) e)
    by (Some fault) e = absurd (cc e)

other_unread : (address : Addr) (message : Message) → IsOther message → (hello : Hello) → ifmp_of (default_payload (ifmp_packet_of address (ifmp_octets message))) ≢ Some (Adjacency hello)
other_unread address message other hello e = by (protocol_of packet == control_protocol)
    (sym (ap (λ (r : Result (List ℕ) EncapsFault). option_and_then ifmp_in (ok_of r)) (unwrapped_again packet)) ∙ e)
  where
    packet : List ℕ
    packet = ifmp_packet_of address (ifmp_octets message)

    by : (b : Bool) → (if b then ok_of (decoded (drop 20 (ifmp_packet_of address (ifmp_octets message)))) else None) ≡ Some (Adjacency hello) → ⊥
    by true is = other_read message other hello (sym (ap (λ (octets : List ℕ). ok_of (decoded octets)) (message_is address (ifmp_octets message))) ∙ is)
    by false is = absurd (cc is)

-- one that holds no message greets nobody
none_unread : (o : Option Message) → o ≡ None → (hello : Hello) → o ≢ Some (Adjacency hello)
none_unread o is hello e = absurd (cc (sym is ∙ e))

-- *What is said is a greeting of an address*
pub said_greets : (address : Addr) (frames : List Frame) (marks : List Mark) (messages : List Message) (said : List (Said Peer)) → AreSaid address frames marks messages → Hellos messages said
    → Every (λ (m : Said Peer). m.sender.address ≡ address) said → Greet address frames marks said
said_greets address frames _ _ _ none ticking.none each = hellos.none
said_greets address frames _ _ _ (says mark _ made rest) (ticking.says next m more) each =
    hellos.greets mark m (record { next = next; sender = each.0; says = made }) (said_greets address frames _ _ _ rest more each.1)
said_greets address frames _ _ said (says mark _ made rest) (ticking.passes message other more) each =
    hellos.passed mark (record { payload = default_payload (ifmp_packet_of address (ifmp_octets message)); made = made; unread = other_unread address message other })
    (said_greets address frames _ _ said rest more each)
said_greets address frames _ messages said (passed mark holds rest) more each =
    hellos.passed mark (record { payload = holds.payload; made = holds.made; unread = none_unread (ifmp_of holds.payload) holds.no_message }) (said_greets address frames _ messages said rest more each)

-- *A tick says its own*
pub ticked_own_words : (address : Addr) (side : Side Peer) → side.own.address ≡ address → Every (λ (m : Said Peer). m.sender.address ≡ address) (said_in (ticked side).answer)
ticked_own_words address side own = by (tick_reply side.state (counted side.state side.silence))
  where
    by : (reply : Reply) → Every (λ (m : Said Peer). m.sender.address ≡ address) (said_in (followed_tick side reply).answer)
    by Silent = tt
    by (Says Syn) = (own, tt)
    by (Says Synack) = (own, tt)
    by (Says Rstack) = (own, tt)
    by (Says Ack) = (own, tt)
    by Resets = tt

pub ticked_own_party : (side : Side Peer) → (ticked side).side.own ≡ side.own
ticked_own_party side = by (tick_reply side.state (counted side.state side.silence))
  where
    by : (reply : Reply) → (followed_tick side reply).side.own ≡ side.own
    by Silent = refl
    by (Says kind) = refl
    by Resets = refl
