-- what a packet with another Time To Live keeps

use Rattle.std.proofs.Common.{◌≡◌, ℕ, ◌≤◌, List, length, drop, refl, ◌∙◌}
use Rattle.std.proofs.lemmas.List.{length-set}
use Rattle.ipv4_packet.specs.Packet.{tos_of, total_length_of, identification_of, fragment_of, ttl_of, protocol_of, source_of, destination_of, header_sum, with_ttl, canonical}
use Rattle.ipv4_packet.proofs.HeaderLemmas.{on_header, length-canonical, header_sum-canonical}

pub length-rerouted : (packet : List ℕ) (ttl : ℕ) → 20 ≤ length packet → length (canonical (with_ttl packet ttl)) ≡ length packet
length-rerouted packet ttl long =
    let same : length (with_ttl packet ttl) ≡ length packet = length-set packet 8 ttl in
    length-canonical (with_ttl packet ttl) (rw same long) ∙ same

pub header_sum-rerouted : (packet : List ℕ) (ttl : ℕ) → 20 ≤ length packet → header_sum (canonical (with_ttl packet ttl)) ≡ 65535
header_sum-rerouted packet ttl long =
    let same : length (with_ttl packet ttl) ≡ length packet = length-set packet 8 ttl in
    header_sum-canonical (with_ttl packet ttl) (rw same long)

pub ttl_of-rerouted : (packet : List ℕ) (ttl : ℕ) → 20 ≤ length packet → ttl_of (canonical (with_ttl packet ttl)) ≡ ttl
ttl_of-rerouted packet ttl = on_header (λ p. ttl_of (canonical (with_ttl p ttl)) ≡ ttl) (λ a b c d e f g h i j k l m n o p q r s t rest. refl) packet

pub tos_of-rerouted : (packet : List ℕ) (ttl : ℕ) → 20 ≤ length packet → tos_of (canonical (with_ttl packet ttl)) ≡ tos_of packet
tos_of-rerouted packet ttl = on_header (λ p. tos_of (canonical (with_ttl p ttl)) ≡ tos_of p) (λ a b c d e f g h i j k l m n o p q r s t rest. refl) packet

pub total_length_of-rerouted : (packet : List ℕ) (ttl : ℕ) → 20 ≤ length packet → total_length_of (canonical (with_ttl packet ttl)) ≡ total_length_of packet
total_length_of-rerouted packet ttl = on_header (λ p. total_length_of (canonical (with_ttl p ttl)) ≡ total_length_of p) (λ a b c d e f g h i j k l m n o p q r s t rest. refl) packet

pub identification_of-rerouted : (packet : List ℕ) (ttl : ℕ) → 20 ≤ length packet → identification_of (canonical (with_ttl packet ttl)) ≡ identification_of packet
identification_of-rerouted packet ttl = on_header (λ p. identification_of (canonical (with_ttl p ttl)) ≡ identification_of p) (λ a b c d e f g h i j k l m n o p q r s t rest. refl) packet

pub fragment_of-rerouted : (packet : List ℕ) (ttl : ℕ) → 20 ≤ length packet → fragment_of (canonical (with_ttl packet ttl)) ≡ fragment_of packet
fragment_of-rerouted packet ttl = on_header (λ p. fragment_of (canonical (with_ttl p ttl)) ≡ fragment_of p) (λ a b c d e f g h i j k l m n o p q r s t rest. refl) packet

pub protocol_of-rerouted : (packet : List ℕ) (ttl : ℕ) → 20 ≤ length packet → protocol_of (canonical (with_ttl packet ttl)) ≡ protocol_of packet
protocol_of-rerouted packet ttl = on_header (λ p. protocol_of (canonical (with_ttl p ttl)) ≡ protocol_of p) (λ a b c d e f g h i j k l m n o p q r s t rest. refl) packet

pub source_of-rerouted : (packet : List ℕ) (ttl : ℕ) → 20 ≤ length packet → source_of (canonical (with_ttl packet ttl)) ≡ source_of packet
source_of-rerouted packet ttl = on_header (λ p. source_of (canonical (with_ttl p ttl)) ≡ source_of p) (λ a b c d e f g h i j k l m n o p q r s t rest. refl) packet

pub destination_of-rerouted : (packet : List ℕ) (ttl : ℕ) → 20 ≤ length packet → destination_of (canonical (with_ttl packet ttl)) ≡ destination_of packet
destination_of-rerouted packet ttl = on_header (λ p. destination_of (canonical (with_ttl p ttl)) ≡ destination_of p) (λ a b c d e f g h i j k l m n o p q r s t rest. refl) packet

pub drop_20-rerouted : (packet : List ℕ) (ttl : ℕ) → 20 ≤ length packet → drop 20 (canonical (with_ttl packet ttl)) ≡ drop 20 packet
drop_20-rerouted packet ttl = on_header (λ p. drop 20 (canonical (with_ttl p ttl)) ≡ drop 20 p) (λ a b c d e f g h i j k l m n o p q r s t rest. refl) packet

-- the second of two hops alone is seen
pub rerouted-rerouted : (packet : List ℕ) (first second : ℕ) → 20 ≤ length packet → canonical (with_ttl (canonical (with_ttl packet first)) second) ≡ canonical (with_ttl packet second)
rerouted-rerouted packet first second = on_header (λ p. canonical (with_ttl (canonical (with_ttl p first)) second) ≡ canonical (with_ttl p second)) (λ a b c d e f g h i j k l m n o p q r s t rest. refl) packet

pub canonical-canonical : (packet : List ℕ) → 20 ≤ length packet → canonical (canonical packet) ≡ canonical packet
canonical-canonical packet = on_header (λ p. canonical (canonical p) ≡ canonical p) (λ a b c d e f g h i j k l m n o p q r s t rest. refl) packet
