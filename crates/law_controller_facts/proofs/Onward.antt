-- a packet of octets that a node sends on is one of octets, and what a receiver finds no fault with is a packet

use Rattle.std.proofs.Common.{◌≡◌, ℕ, zero, suc, ◌-◌, ◌/◌, ◌%◌, ◌<◌, Bool, true, false, not, List, [], ◌∷◌, ◌++◌, length, take, drop, Option, None, Some, refl, arith, slice_index, slice_set, nat_lt, ◌==◌, if◌then◌else◌}
use Rattle.std.specs.Int.{w16, to_be_bytes}
use Rattle.std.proofs.lemmas.Bool.Decides.{nat_tests}
use Rattle.law_port_facts.proofs.octet_fields.FieldLemmas.{AreOctets, AreOctets-take, AreOctets-drop}
use Rattle.claims_model.specs.world_model.Words.{PacketFault, Version, Options, TooLong, Checksum, ttl_of, total_length_of, header_sum, with_ttl, canonical, canonical_checksum, IsPacket, onward}
use Rattle.claims_model.specs.world_model.ipv4_packet.declared.validate.PacketFault.TheVariants.{Short, Length}
use Rattle.claims_model.specs.world_model.ipv4_packet.Packet.{first_fault}
use Rattle.claims_model.proofs.world_model.flow_encaps.RebuiltLemmas.{AreOctets-pair}

-- *Octets*, behind a hop
octets_append : (front back : List ℕ) → AreOctets front → AreOctets back → AreOctets (front ++ back)
octets_append [] back small more place = more place
octets_append (octet ∷ front) back small more zero = small 0
octets_append (octet ∷ front) back small more (suc place) = octets_append front back (λ (i : ℕ). small (suc i)) more place

octets_set : (octets : List ℕ) (place octet : ℕ) → octet < 256 → AreOctets octets → AreOctets (slice_set octets place octet)
octets_set [] place octet is small i = small i
octets_set (first ∷ octets) zero octet is small zero = is
octets_set (first ∷ octets) zero octet is small (suc i) = small (suc i)
octets_set (first ∷ octets) (suc place) octet is small zero = small 0
octets_set (first ∷ octets) (suc place) octet is small (suc i) = octets_set octets place octet is (λ (j : ℕ). small (suc j)) i

byte_small : (number : ℕ) → number % 256 < 256
byte_small number = omega arith

octets_canonical : (octets : List ℕ) → AreOctets octets → AreOctets (canonical octets)
octets_canonical octets small =
    let checksum = canonical_checksum octets in
    octets_append (take 10 octets) (to_be_bytes w16 checksum ++ drop 12 octets) (AreOctets-take octets 10 small)
    (octets_append (to_be_bytes w16 checksum) (drop 12 octets) (AreOctets-pair (checksum / 256 % 256) (checksum % 256) (byte_small (checksum / 256)) (byte_small checksum)) (AreOctets-drop octets 12 small))

pub octets_onward : (packet : List ℕ) → AreOctets packet → AreOctets (onward packet)
octets_onward packet small = octets_canonical (with_ttl packet (ttl_of packet - 1)) (octets_set packet 8 (ttl_of packet - 1) (omega (arith, small 8)) small)

pub guard : (b : Bool) (fault : PacketFault) (rest : Option PacketFault) → (if b then Some fault else rest) ≡ None → (b ≡ false) × (rest ≡ None)
guard true fault rest e = absurd (cc e)
guard false fault rest e = (refl, e)

-- the tests of a receiver are all that a packet is
pub packet_of : (octets : List ℕ) → first_fault octets ≡ None → IsPacket octets
packet_of octets none =
    let a = guard (nat_lt (length octets) 20) Short _ none in
    let b = guard (not (slice_index octets 0 / 16 == 4)) Version _ a.1 in
    let c = guard (not (slice_index octets 0 % 16 == 5)) Options _ b.1 in
    let d = guard (not (total_length_of octets == length octets)) Length _ c.1 in
    let e = guard (nat_lt 1500 (length octets)) TooLong _ d.1 in
    let f = guard (not (header_sum octets == 65535)) Checksum _ e.1 in
    record {
      has_header = grind (arith, nat_tests, a.0);
      fits_mtu = grind (arith, nat_tests, e.0);
      version_and_header_length = first_octet (slice_index octets 0) b.0 c.0;
      own_length = grind (arith, nat_tests, d.0);
      sums_up = grind (arith, nat_tests, f.0);
    }
  where
    first_octet : (n : ℕ) → not (n / 16 == 4) ≡ false → not (n % 16 == 5) ≡ false → n ≡ 69
    first_octet n e f =
        let high : n / 16 ≡ 4 = grind (arith, nat_tests, e) in
        let low : n % 16 ≡ 5 = grind (arith, nat_tests, f) in
        omega (arith, high, low)
