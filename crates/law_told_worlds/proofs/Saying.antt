-- what is read in each frame that an event may make: a packet, a message of GSMP, or a message of IFMP that disowns no label

use Rattle.std.proofs.Common.{◌≡◌, ◌≢◌, ℕ, ◌<◌, ◌≤◌, Bool, true, false, List, [], ◌∷◌, Option, None, Some, Result, Ok, Err, refl, sym, ◌∙◌, ap, arith, drop, if◌then◌else◌, inl, inr}
use Rattle.std.specs.Prelude.{◌==◌, ◌||◌, nat_le, slice_index}
use Rattle.std.specs.List.{list_any}
use Rattle.std.specs.Option.{option_and_then}
use Rattle.std.proofs.lemmas.Bool.Decides.{nat_tests}
use Rattle.world_model.specs.Words.{Hello, HelloKind, Syn, Synack, Rstack, Ack, Addr, protocol_of, total_length_of, ifmp_packet_of, IsPacket, FlowKind, onward, EncapsFault, default_payload, labelled_payload, default_unwrapped, Redirect, Reclaim, ReclaimAck, LabelRange, Error, hello_code, hello_at, instance_at, redirection_at, Frame, control_protocol, ifmp_in, ifmp_of, is_disowning}
use Rattle.world_model.specs.ipv4_packet.declared.flow.FlowKind.TheVariants.{One as ConnectionKind, Two as HostsKind}
use Rattle.world_model.proofs.ipv4_packet.HeaderLemmas.{on_header}
use Rattle.world_model.specs.gsmp_wire.declared.message.Message.{Message as GsmpMessage}
use Rattle.world_model.specs.gsmp_wire.Layout.{octets_of as gsmp_octets}
use Rattle.world_model.specs.ifmp_wire.declared.message.Message.{Message}
use Rattle.world_model.specs.ifmp_wire.declared.message.Message.TheVariants.{Adjacency}
use Rattle.world_model.specs.ifmp_wire.declared.reader.Fault.{Fault}
use Rattle.world_model.specs.ifmp_wire.Message.{octets_of}
use Rattle.world_model.specs.ifmp_wire.Tests.{first_fault}
use Rattle.world_model.specs.ifmp_wire.Fields.{message_at, decoded_by, decoded}
use Rattle.law_frame_readings.specs.octet_fields.Fields.{u32_at}
use Rattle.law_frame_readings.proofs.law_wire.Packets.{message_is, unwrapped_again}
use Rattle.world_model.specs.Ways.{ok_of}
use Rattle.law_frame_readings.specs.ordered_lists.Ordered.{Every}
use Rattle.law_frame_readings.specs.law_controller_views.Lifted.{payload_by}
use Rattle.law_frame_readings.specs.law_world_views.Made.{IsFit}
use Rattle.law_frame_readings.proofs.Apart.{default_is, not_default, snaps_apart, gsmp_taken}
use Rattle.law_frame_readings.proofs.Packets.{is_forwarded}
use Rattle.law_running_worlds.proofs.Making.{fit_packet, fit_onward}
use Rattle.law_port_words.specs.Words.{DisownsNone, IsMade, was_made, of_default, of_label, of_gsmp, of_port}

-- *A frame* that disowns nothing
abbrev pub IsFair : Frame → Type 0
IsFair frame = is_disowning (ifmp_of frame.payload) ≡ false

-- what stands in no default encapsulation is no message
unread : (payload : List ℕ) → ((packet : List ℕ) → default_unwrapped payload ≡ Ok packet → ⊥) → is_disowning (ifmp_of payload) ≡ false
unread payload none = by (default_unwrapped payload) refl
  where
    by : (r : Result (List ℕ) EncapsFault) → default_unwrapped payload ≡ r → is_disowning (ifmp_of payload) ≡ false
    by (Err fault) e = ap (λ (x : Result (List ℕ) EncapsFault). is_disowning (option_and_then ifmp_in (ok_of x))) e
    by (Ok packet) e = absurd (none packet e)

-- what stands in it is read
unwraps : (packet : List ℕ) → is_disowning (ifmp_of (default_payload packet)) ≡ is_disowning (ifmp_in packet)
unwraps packet = ap (λ (x : Result (List ℕ) EncapsFault). is_disowning (option_and_then ifmp_in (ok_of x))) (unwrapped_again packet)

-- *A message of GSMP* is in another encapsulation
gsmp_fair : (message : GsmpMessage) → is_disowning (ifmp_of (gsmp_octets message)) ≡ false
gsmp_fair message = unread (gsmp_octets message) (not_default (gsmp_octets message) (λ head. snaps_apart (sym head ∙ gsmp_taken message)))

-- *A packet that is sent on* is of another protocol
default_fair : (packet : List ℕ) → IsFit packet → is_disowning (ifmp_of (default_payload (onward packet))) ≡ false
default_fair packet fit = unwraps (onward packet)
    ∙ ap (λ (b : Bool). is_disowning (if b then ok_of (decoded (drop 20 (onward packet))) else None)) (is_forwarded (onward packet) (fit_onward packet fit)).other

-- and under a label it begins with its length, which is small, or with 0
first_octet : (kind : FlowKind) (packet : List ℕ) → IsPacket packet → slice_index (labelled_payload kind packet) 0 < 170
first_octet ConnectionKind packet is = on_header (λ p. total_length_of p ≤ 1500 → slice_index (labelled_payload ConnectionKind p) 0 < 170) (λ a b c d e f g h i j k l m n o p q r s t rest small. omega (arith, small)) packet
    is.has_header (omega (arith, is.own_length, is.fits_mtu))
first_octet HostsKind packet is = omega arith

label_fair : (kind : FlowKind) (packet : List ℕ) → IsFit packet → is_disowning (ifmp_of (labelled_payload kind (onward packet))) ≡ false
label_fair kind packet fit = unread (labelled_payload kind (onward packet)) (λ other e. apart (first_octet kind (onward packet) (fit_packet (onward packet) (fit_onward packet fit)))
    (ap (λ (octets : List ℕ). slice_index octets 0) (default_is (labelled_payload kind (onward packet)) other e)))
  where
    apart : slice_index (labelled_payload kind (onward packet)) 0 < 170 → slice_index (labelled_payload kind (onward packet)) 0 ≡ 170 → ⊥
    apart small is = omega (arith, small, is)

-- *A message of IFMP* is read as one of its kind, and an Error under its code
greeting_fair : (kind : HelloKind) (hello : Hello) (other : Message) → is_disowning (Some (if nat_le (hello_code kind) 3 then Adjacency hello else other)) ≡ false
greeting_fair Syn hello other = refl
greeting_fair Synack hello other = refl
greeting_fair Rstack hello other = refl
greeting_fair Ack hello other = refl

codes_apart : (code : ℕ) → code ≢ 1 → code ≢ 4 → ((code == 1) || (code == 4)) ≡ false
codes_apart code one four = grind (arith, nat_tests, one, four)

fields_fair : (message : Message) → DisownsNone (λ (code : ℕ). ⊥) message → is_disowning (Some (message_at (octets_of message))) ≡ false
fields_fair (Adjacency hello) none = greeting_fair hello.kind (hello_at (octets_of (Adjacency hello)))
    (redirection_at (octets_of (Adjacency hello)) (instance_at (octets_of (Adjacency hello)) 4) (instance_at (octets_of (Adjacency hello)) 8) (u32_at (octets_of (Adjacency hello)) 12))
fields_fair (Redirect sender peer number lifetime channel flow) none = refl
fields_fair (Reclaim sender peer number channel flow) none = refl
fields_fair (ReclaimAck sender peer number channel flow) none = refl
fields_fair (LabelRange sender peer number least greatest) none = refl
fields_fair (Error sender peer number code channel) none = elim none [ inl refused ↦ absurd refused | inr other ↦ codes_apart code other.0 other.1 ]

message_fair : (message : Message) → DisownsNone (λ (code : ℕ). ⊥) message → is_disowning (ok_of (decoded (octets_of message))) ≡ false
unfolding decoded
message_fair message none = by (first_fault (octets_of message)) refl
  where
    by : (o : Option Fault) → first_fault (octets_of message) ≡ o → is_disowning (ok_of (decoded_by (first_fault (octets_of message)) (octets_of message))) ≡ false
    by (Some fault) e = ap (λ (o : Option Fault). is_disowning (ok_of (decoded_by o (octets_of message)))) e
    by None e = ap (λ (o : Option Fault). is_disowning (ok_of (decoded_by o (octets_of message)))) e ∙ fields_fair message none

port_fair : (address : Addr) (message : Message) → DisownsNone (λ (code : ℕ). ⊥) message → is_disowning (ifmp_of (payload_by address message)) ≡ false
port_fair address message none = unwraps packet ∙ by (protocol_of packet == control_protocol)
  where
    packet : List ℕ
    packet = ifmp_packet_of address (octets_of message)

    by : (b : Bool) → is_disowning (if b then ok_of (decoded (drop 20 packet)) else None) ≡ false
    by true = ap (λ (octets : List ℕ). is_disowning (ok_of (decoded octets))) (message_is address (octets_of message)) ∙ message_fair message none
    by false = refl

-- *Each frame*
pub made_fair : (framed : Frame → Type 0) (address : Addr) → ((frame : Frame) → framed frame → IsFair frame) → (frame : Frame) → IsMade framed (λ (code : ℕ). ⊥) address frame → IsFair frame
made_fair framed address before frame (was_made has) = before frame has
made_fair framed address before frame (of_default packet fit is) = ap (λ (p : List ℕ). is_disowning (ifmp_of p)) is ∙ default_fair packet fit
made_fair framed address before frame (of_label kind packet fit is) = ap (λ (p : List ℕ). is_disowning (ifmp_of p)) is ∙ label_fair kind packet fit
made_fair framed address before frame (of_gsmp message is) = ap (λ (p : List ℕ). is_disowning (ifmp_of p)) is ∙ gsmp_fair message
made_fair framed address before frame (of_port message none is) = ap (λ (p : List ℕ). is_disowning (ifmp_of p)) is ∙ port_fair address message none

pub says_fair : (frame : Frame) (message : GsmpMessage) → frame.payload ≡ gsmp_octets message → IsFair frame
says_fair frame message is = ap (λ (p : List ℕ). is_disowning (ifmp_of p)) is ∙ gsmp_fair message

-- *All of them*
either : (a b : Bool) → (a || b) ≡ false → (a ≡ false) × (b ≡ false)
either true b e = absurd (cc e)
either false b e = (refl, e)

pub none_any : (frames : List Frame) → Every IsFair frames → list_any (λ (frame : Frame). is_disowning (ifmp_of frame.payload)) frames ≡ false
none_any [] all = refl
none_any (frame ∷ frames) all = ap (λ (b : Bool). b || list_any (λ (frame : Frame). is_disowning (ifmp_of frame.payload)) frames) all.0 ∙ none_any frames all.1

pub all_fair : (frames : List Frame) → list_any (λ (frame : Frame). is_disowning (ifmp_of frame.payload)) frames ≡ false → Every IsFair frames
all_fair [] e = tt
all_fair (frame ∷ frames) e =
    let both = either (is_disowning (ifmp_of frame.payload)) (list_any (λ (frame : Frame). is_disowning (ifmp_of frame.payload)) frames) e in
    (both.0, all_fair frames both.1)
