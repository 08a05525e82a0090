-- a message copied behind its header

use Rattle.std.proofs.Common.{◌≡◌, ℕ, ◌+◌, ◌-◌, ◌≤◌, List, ◌++◌, length, take, drop, refl, ap, ◌∙◌, arith, append_assoc, length-append}
use Rattle.std.proofs.lemmas.List.{drop-drop}
use Rattle.std.proofs.Math.Seq.{take-append_seam, drop-append_seam}
use borrow.Rule.Slice.PartMut.{put_mid}
use Rattle.net_types.specs.declared.prefix.Addr.{Addr}
use Rattle.ipv4_packet.specs.Packet.{canonical, ifmp_header, ifmp_packet_of, IsPacket}
use Rattle.ipv4_packet.proofs.HeaderLemmas.{length-canonical, IsPacket-canonical}

pub take-front : (front back : List ℕ) (size : ℕ) → length front ≡ size → take size (front ++ back) ≡ front
take-front front back size same = rw same at (take-append_seam front back)

pub drop-front : (front back : List ℕ) (size : ℕ) → length front ≡ size → drop size (front ++ back) ≡ back
drop-front front back size same = rw same at (drop-append_seam front back)

put_mid-after_header : (header message octets : List ℕ) (size : ℕ) → length header ≡ 20 → put_mid 20 (20 + size - 20) (header ++ drop 20 octets) message ≡ (header ++ message) ++ drop (20 + size) octets
put_mid-after_header header message octets size twenty =
    let rest : 20 + size - 20 ≡ size = omega arith in
    rw (take-front header (drop 20 octets) 20 twenty, drop-front header (drop 20 octets) 20 twenty, rest, drop-drop, append_assoc)

-- the header is written over the first 20 octets, the message behind it, and then the checksum of both
pub packet-written : (header message octets headed whole packet : List ℕ) (size : ℕ) → length header ≡ 20 → length message ≡ size → headed ≡ header ++ drop 20 octets → whole ≡ put_mid 20 (20 + size - 20) headed message → packet ≡ canonical (take (20 + size) whole) → packet ++ drop (20 + size) whole ≡ canonical (header ++ message) ++ drop (20 + size) octets
packet-written header message octets headed whole packet size twenty same head_is whole_is packet_is =
    let joined : length (header ++ message) ≡ 20 + size = length-append header message ∙ (rw (twenty, same) refl) in
    let all_of : whole ≡ (header ++ message) ++ drop (20 + size) octets = whole_is ∙ (rw head_is (put_mid-after_header header message octets size twenty)) in
    let front : take (20 + size) whole ≡ header ++ message = rw all_of (take-front (header ++ message) (drop (20 + size) octets) (20 + size) joined) in
    let back : drop (20 + size) whole ≡ drop (20 + size) octets = rw all_of (drop-front (header ++ message) (drop (20 + size) octets) (20 + size) joined) in
    ap (λ (octets : List ℕ). octets ++ drop (20 + size) whole) (packet_is ∙ ap canonical front) ∙ ap (λ (rest : List ℕ). canonical (header ++ message) ++ rest) back

pub IsPacket-ifmp_packet_of : (source : Addr) (message : List ℕ) → length message ≤ 40 → IsPacket (ifmp_packet_of source message)
IsPacket-ifmp_packet_of source message short =
    IsPacket-canonical (ifmp_header source (length message) ++ message) (omega arith) (omega arith) refl (omega arith)

pub length-ifmp_packet_of : (source : Addr) (message : List ℕ) → length (ifmp_packet_of source message) ≡ 20 + length message
length-ifmp_packet_of source message =
    let whole : length (ifmp_header source (length message) ++ message) ≡ 20 + length message = omega arith in
    length-canonical (ifmp_header source (length message) ++ message) (omega arith) ∙ whole
