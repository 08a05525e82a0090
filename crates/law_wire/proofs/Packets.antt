-- a packet of IFMP, and the payload that carries a packet

use Rattle.std.proofs.Common.{◌≡◌, ℕ, ◌<◌, ◌≤◌, false, List, ◌++◌, length, drop, Ok, refl, ap, ◌∙◌, arith}
use Rattle.std.specs.Prelude.{◌^◌, nat_lt}
use Rattle.std.proofs.lemmas.Bool.Decides.{nat_tests}
use Rattle.std.proofs.lemmas.Nat.{from_be_bytes-to_be_bytes_4}
use Rattle.net_types.specs.declared.prefix.Addr.{Addr}
use Rattle.octet_fields.specs.Fields.{u32_at}
use Rattle.ipv4_packet.specs.Packet.{canonical, ifmp_header, ifmp_packet_of, protocol_of, source_of}
use Rattle.ipv4_packet.proofs.HeaderLemmas.{on_header}
use Rattle.flow_encaps.specs.Default.{default_payload}
use Rattle.flow_encaps.specs.Unwrapped.{default_unwrapped}

-- the checksum of a header leaves these
kept_protocol : (octets : List ℕ) → 20 ≤ length octets → protocol_of (canonical octets) ≡ protocol_of octets
kept_protocol octets long = on_header (λ p. protocol_of (canonical p) ≡ protocol_of p) (λ a b c d e f g h i j k l m n o p q r s t rest. refl) octets long

kept_source : (octets : List ℕ) → 20 ≤ length octets → u32_at (canonical octets) 12 ≡ u32_at octets 12
kept_source octets long = on_header (λ p. u32_at (canonical p) 12 ≡ u32_at p 12) (λ a b c d e f g h i j k l m n o p q r s t rest. refl) octets long

kept_rest : (octets : List ℕ) → 20 ≤ length octets → drop 20 (canonical octets) ≡ drop 20 octets
kept_rest octets long = on_header (λ p. drop 20 (canonical p) ≡ drop 20 p) (λ a b c d e f g h i j k l m n o p q r s t rest. refl) octets long

long_enough : (source : Addr) (message : List ℕ) → 20 ≤ length (ifmp_header source (length message) ++ message)
long_enough source message = omega arith

pub protocol_is : (source : Addr) (message : List ℕ) → protocol_of (ifmp_packet_of source message) ≡ 101
protocol_is source message = kept_protocol (ifmp_header source (length message) ++ message) (long_enough source message)

pub source_is : (source : Addr) (message : List ℕ) → source.0 < 2 ^ 32 → source_of (ifmp_packet_of source message) ≡ source
source_is source message fits =
    ap (λ (n : ℕ). record { 0 = n }) (kept_source (ifmp_header source (length message) ++ message) (long_enough source message) ∙ from_be_bytes-to_be_bytes_4 source.0 fits)

pub message_is : (source : Addr) (message : List ℕ) → drop 20 (ifmp_packet_of source message) ≡ message
message_is source message = kept_rest (ifmp_header source (length message) ++ message) (long_enough source message)

pub unwrapped_again : (packet : List ℕ) → default_unwrapped (default_payload packet) ≡ Ok packet
unwrapped_again packet =
    let long : nat_lt (length (default_payload packet)) 8 ≡ false = grind (arith, nat_tests) in
    rw long refl
