-- what the canonical checksum leaves and completes

use Rattle.std.proofs.Common.{◌≡◌, ℕ, ◌+◌, ◌≤◌, ◌<◌, List, ◌∷◌, ◌++◌, length, drop, get_or, sum, refl, sym, ◌∙◌, arith}
use Rattle.std.specs.Int.{w16, w32, to_be_bytes}
use Rattle.std.proofs.lemmas.List.{length-set}
use Rattle.net_types.specs.declared.prefix.Addr.{Addr}
use Rattle.octet_fields.specs.Fields.{written}
use Rattle.ipv4_packet.specs.Packet.{words, header, header_sum, total_length_of, with_ttl, with_checksum, canonical, canonical_checksum, ifmp_header, IsPacket}
use Rattle.ipv4_packet.proofs.WordLemmas.{ones_complement-completed}

-- a claim about every list of at least 20 octets follows from the claim about one that is written out
pub on_header : (P : List ℕ → Type 0) → ((a b c d e f g h i j k l m n o p q r s t : ℕ) (rest : List ℕ) → P (a ∷ b ∷ c ∷ d ∷ e ∷ f ∷ g ∷ h ∷ i ∷ j ∷ k ∷ l ∷ m ∷ n ∷ o ∷ p ∷ q ∷ r ∷ s ∷ t ∷ rest)) → (octets : List ℕ) → 20 ≤ length octets → P octets
on_header P claim (a ∷ b ∷ c ∷ d ∷ e ∷ f ∷ g ∷ h ∷ i ∷ j ∷ k ∷ l ∷ m ∷ n ∷ o ∷ p ∷ q ∷ r ∷ s ∷ t ∷ rest) long = claim a b c d e f g h i j k l m n o p q r s t rest
on_header P claim _ long = absurd (omega arith)

pub length-with_checksum : (octets : List ℕ) (checksum : ℕ) → 20 ≤ length octets → length (with_checksum octets checksum) ≡ length octets
length-with_checksum octets checksum = on_header (λ p. length (with_checksum p checksum) ≡ length p) (λ a b c d e f g h i j k l m n o p q r s t rest. refl) octets

pub length-canonical : (octets : List ℕ) → 20 ≤ length octets → length (canonical octets) ≡ length octets
length-canonical octets = length-with_checksum octets (canonical_checksum octets)

-- a checksum of 16 bits adds itself to the words of the rest
sum_words-with_checksum : (octets : List ℕ) (checksum : ℕ) → 20 ≤ length octets → checksum < 65536 → sum (words (header (with_checksum octets checksum))) ≡ sum (words (header (with_checksum octets 0))) + checksum
sum_words-with_checksum octets checksum long small = on_header (λ p. sum (words (header (with_checksum p checksum))) ≡ sum (words (header (with_checksum p 0))) + checksum) (λ a b c d e f g h i j k l m n o p q r s t rest. omega arith) octets long

pub header_sum-canonical : (octets : List ℕ) → 20 ≤ length octets → header_sum (canonical octets) ≡ 65535
header_sum-canonical octets long =
    let fits : canonical_checksum octets < 65536 = omega arith in
    rw (sum_words-with_checksum octets (canonical_checksum octets) long fits) (ones_complement-completed (sum (words (header (with_checksum octets 0)))))

-- the fields besides the checksum stay
pub slice_index-canonical_0 : (octets : List ℕ) → 20 ≤ length octets → get_or (canonical octets) 0 0 ≡ get_or octets 0 0
slice_index-canonical_0 octets = on_header (λ p. get_or (canonical p) 0 0 ≡ get_or p 0 0) (λ a b c d e f g h i j k l m n o p q r s t rest. refl) octets

pub total_length-canonical : (octets : List ℕ) → 20 ≤ length octets → total_length_of (canonical octets) ≡ total_length_of octets
total_length-canonical octets = on_header (λ p. total_length_of (canonical p) ≡ total_length_of p) (λ a b c d e f g h i j k l m n o p q r s t rest. refl) octets

pub IsPacket-canonical : (octets : List ℕ) → 20 ≤ length octets → length octets ≤ 1500 → get_or octets 0 0 ≡ 69 → total_length_of octets ≡ length octets → IsPacket (canonical octets)
IsPacket-canonical octets long short first own = record {
  has_header = rw (length-canonical octets long) long;
  fits_mtu = rw (length-canonical octets long) short;
  version_and_header_length = slice_index-canonical_0 octets long ∙ first;
  own_length = total_length-canonical octets long ∙ own ∙ sym (length-canonical octets long);
  sums_up = header_sum-canonical octets long;
}

pub IsPacket-with_ttl : (packet : List ℕ) (ttl : ℕ) → IsPacket packet → IsPacket (canonical (with_ttl packet ttl))
IsPacket-with_ttl packet ttl known =
    let same_length : length (with_ttl packet ttl) ≡ length packet = length-set packet 8 ttl in
    let same_first = on_header (λ p. get_or (with_ttl p ttl) 0 0 ≡ get_or p 0 0) (λ a b c d e f g h i j k l m n o p q r s t rest. refl) packet known.has_header in
    let same_own = on_header (λ p. total_length_of (with_ttl p ttl) ≡ total_length_of p) (λ a b c d e f g h i j k l m n o p q r s t rest. refl) packet known.has_header in
    IsPacket-canonical (with_ttl packet ttl) (rw same_length known.has_header) (rw same_length known.fits_mtu)
    (same_first ∙ known.version_and_header_length) (same_own ∙ known.own_length ∙ sym same_length)

-- of two checksums the second stays
pub with_checksum-with_checksum : (octets : List ℕ) (first second : ℕ) → 20 ≤ length octets → with_checksum (with_checksum octets first) second ≡ with_checksum octets second
with_checksum-with_checksum octets first second = on_header (λ p. with_checksum (with_checksum p first) second ≡ with_checksum p second) (λ a b c d e f g h i j k l m n o p q r s t rest. refl) octets

-- the header of an IFMP packet, written field by field
pub ifmp_header-written : (source : Addr) (size : ℕ) (octets : List ℕ) → 20 ≤ length octets → written (written (written (69 ∷ 0 ∷ 0 ∷ 0 ∷ 0 ∷ 0 ∷ 0 ∷ 0 ∷ 1 ∷ 101 ∷ 0 ∷ 0 ∷ drop 12 octets) 2 (to_be_bytes w16 (20 + size))) 12 (to_be_bytes w32 source.0)) 16 (to_be_bytes w32 4294967295) ≡ ifmp_header source size ++ drop 20 octets
ifmp_header-written source size octets = on_header (λ p. written (written (written (69 ∷ 0 ∷ 0 ∷ 0 ∷ 0 ∷ 0 ∷ 0 ∷ 0 ∷ 1 ∷ 101 ∷ 0 ∷ 0 ∷ drop 12 p) 2 (to_be_bytes w16 (20 + size))) 12 (to_be_bytes w32 source.0)) 16 (to_be_bytes w32 4294967295) ≡ ifmp_header source size ++ drop 20 p) (λ a b c d e f g h i j k l m n o p q r s t rest. refl) octets
