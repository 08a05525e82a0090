-- the payloads of packets, of messages of IFMP and of messages of GSMP begin with different octets

use Rattle.std.proofs.Common.{◌≡◌, ℕ, ◌<◌, ◌≤◌, Bool, true, false, not, List, [], ◌∷◌, ◌++◌, length, take, drop, Option, None, Some, Result, Ok, Err, refl, sym, ◌∙◌, ap, subst, arith, if◌then◌else◌}
use Rattle.std.specs.Prelude.{◌==◌, nat_lt, slice_index}
use Rattle.std.specs.Str.{bytes_eq}
use Rattle.std.proofs.lemmas.List.{take-append-drop}
use Rattle.std.proofs.lemmas.Slice.Eq.{bytes_eq-Decides}
use Rattle.law_controller_lifts.specs.world_model.Words.{total_length_of, FlowId, FlowKind, kind_of, EncapsFault, BadSnap, llc_snap, default_payload, labelled_payload, Carries, default_unwrapped, snap_header, refusal, refusal_by, type_of}
use Rattle.law_controller_lifts.proofs.world_model.ipv4_packet.HeaderLemmas.{on_header}
use Rattle.law_controller_lifts.specs.world_model.ipv4_packet.declared.flow.FlowKind.TheVariants.{One as ConnectionKind, Two as HostsKind}
use Rattle.law_controller_lifts.specs.world_model.flow_encaps.declared.default.EncapsFault.TheVariants.{Short}
use Rattle.law_controller_lifts.specs.world_model.gsmp_wire.declared.fault.Fault.{Fault}
use Rattle.law_controller_lifts.specs.world_model.gsmp_wire.declared.fault.Fault.TheVariants as faults
use Rattle.law_controller_lifts.specs.world_model.gsmp_wire.declared.message.Message.{Message}
use Rattle.law_controller_lifts.specs.world_model.gsmp_wire.Layout.{octets_of}
use Rattle.law_controller_lifts.specs.world_model.gsmp_wire.Fields.{decoded_by, decoded}

-- *The default encapsulation*: what unwraps is the payload of that packet
pub default_is : (payload packet : List ℕ) → default_unwrapped payload ≡ Ok packet → payload ≡ default_payload packet
default_is payload packet e = by_size (nat_lt (length payload) 8) e
  where
    by_head : (b : Bool) → bytes_eq (take 8 payload) llc_snap ≡ b → ◌≡◌ {A = Result (List ℕ) EncapsFault} (if not b then Err BadSnap else Ok (drop 8 payload)) (Ok packet) → payload ≡ default_payload packet
    by_head false t e = absurd (cc e)
    by_head true t e =
        let same : drop 8 payload ≡ packet = cc in
        let head : take 8 payload ≡ llc_snap = (bytes_eq-Decides (take 8 payload) llc_snap).0 t in
        sym (take-append-drop 8 payload) ∙ (λ i. head i ++ same i)

    by_size : (b : Bool) → ◌≡◌ {A = Result (List ℕ) EncapsFault} (if b then Err Short else (if not (bytes_eq (take 8 payload) llc_snap) then Err BadSnap else Ok (drop 8 payload))) (Ok packet) → payload ≡ default_payload packet
    by_size true e = absurd (cc e)
    by_size false e = by_head (bytes_eq (take 8 payload) llc_snap) refl e

-- what begins otherwise doesn't unwrap
pub not_default : (payload : List ℕ) → (take 8 payload ≡ llc_snap → ⊥) → (packet : List ℕ) → default_unwrapped payload ≡ Ok packet → ⊥
not_default payload other packet e = other (ap (λ (octets : List ℕ). take 8 octets) (default_is payload packet e))

-- *GSMP*: what is read begins with its header
head_of : (payload : List ℕ) → refusal payload ≡ None → take 8 payload ≡ snap_header
head_of payload e = by_size (nat_lt (length payload) 12) e
  where
    rest : Option Fault
    rest = if not (slice_index payload 8 == 1) then Some faults.Version else refusal_by (type_of (slice_index payload 9)) (drop 8 payload)

    by_head : (b : Bool) → bytes_eq (take 8 payload) snap_header ≡ b → (if not b then Some faults.Snap else rest) ≡ None → take 8 payload ≡ snap_header
    by_head false t e = absurd (cc e)
    by_head true t e = (bytes_eq-Decides (take 8 payload) snap_header).0 t

    by_size : (b : Bool) → (if b then Some faults.Short else (if not (bytes_eq (take 8 payload) snap_header) then Some faults.Snap else rest)) ≡ None → take 8 payload ≡ snap_header
    by_size true e = absurd (cc e)
    by_size false e = by_head (bytes_eq (take 8 payload) snap_header) refl e

pub gsmp_head : (payload : List ℕ) (message : Message) → decoded payload ≡ Ok message → take 8 payload ≡ snap_header
unfolding decoded
gsmp_head payload message e = by_fault (refusal payload) refl e
  where
    by_fault : (o : Option Fault) → refusal payload ≡ o → decoded_by o (type_of (slice_index payload 9)) (drop 8 payload) ≡ Ok message → take 8 payload ≡ snap_header
    by_fault (Some fault) t e = absurd (cc e)
    by_fault None t e = head_of payload t

-- *Apart*: EtherType 0800 against 88 0C
pub snaps_apart : llc_snap ≡ snap_header → ⊥
snaps_apart e = apart (ap (λ (octets : List ℕ). slice_index octets 6) e)
  where
    apart : ◌≡◌ {A = ℕ} 8 136 → ⊥
    apart e = absurd (omega (arith, e))

-- a label's frame begins with Total Length, which is at most 1500, or with 0
first_connection : (packet : List ℕ) → 20 ≤ length packet → total_length_of packet ≤ 1500 → slice_index (labelled_payload ConnectionKind packet) 0 < 170
first_connection packet long = on_header (λ p. total_length_of p ≤ 1500 → slice_index (labelled_payload ConnectionKind p) 0 < 170) (λ a b c d e f g h i j k l m n o p q r s t rest small. omega (arith, small)) packet long

first_hosts : (packet : List ℕ) → slice_index (labelled_payload HostsKind packet) 0 < 170
first_hosts packet = omega arith

pub first_small : (flow : FlowId) (packet payload : List ℕ) → Carries flow packet payload → slice_index payload 0 < 170
first_small flow packet payload c = subst (λ (octets : List ℕ). slice_index octets 0 < 170) (sym c.filled) (by_kind (kind_of flow))
  where
    by_kind : (kind : FlowKind) → slice_index (labelled_payload kind packet) 0 < 170
    by_kind ConnectionKind = first_connection packet c.is_packet.has_header (omega (arith, c.is_packet.own_length, c.is_packet.fits_mtu))
    by_kind HostsKind = first_hosts packet

pub first_taken : (octets rest : List ℕ) (first : ℕ) → take 8 octets ≡ first ∷ rest → slice_index octets 0 ≡ first
first_taken [] rest first e = absurd (cc e)
first_taken (octet ∷ octets) rest first e = ap (λ (taken : List ℕ). slice_index taken 0) e

pub labelled_apart : (flow : FlowId) (packet payload rest : List ℕ) → Carries flow packet payload → take 8 payload ≡ 170 ∷ rest → ⊥
labelled_apart flow packet payload rest c e = (let is = first_taken payload rest 170 e in let less = first_small flow packet payload c in absurd (omega (arith, is, less)))

-- a message of GSMP begins with its header
pub gsmp_taken : (message : Message) → take 8 (octets_of message) ≡ snap_header
gsmp_taken message = refl
