-- IPv4 packets with a header of 20 octets (RFC 791 3.1) and their checksum (RFC 1071)

use Rattle.std.specs.Prelude.{◌≡◌, ℕ, ◌+◌, ◌-◌, ◌*◌, ◌/◌, ◌%◌, ◌≤◌, ◌==◌, nat_lt, not, List, [], ◌∷◌, ◌++◌, length, take, sum, slice_index, slice_set, Option, Some, None, if◌then◌else◌}
use Rattle.std.specs.Int.{w16, w32, to_be_bytes}
use Rattle.net_types.specs.declared.prefix.Addr.{Addr}
use Rattle.ipv4_packet.specs.declared.validate.PacketFault.{PacketFault}
use Rattle.ipv4_packet.specs.declared.validate.PacketFault.TheVariants.{Short, Version, Options, Length, TooLong, Checksum}
use Rattle.octet_fields.specs.Fields.{u16_at, u32_at, written}

-- the 16-bit words of octets, the first octet of each highest; a last octet that stands alone is
-- followed by zero (RFC 1071 4.1)
abbrev pub words : List ℕ → List ℕ
words [] = []
words (high ∷ []) = 256 * high ∷ []
words (high ∷ low ∷ octets) = (256 * high + low) ∷ words octets

-- the one's complement sum of words whose plain sum this is (RFC 1071 1): one division
abbrev pub ones_complement : ℕ → ℕ
ones_complement total = if total == 0 then 0 else 1 + (total - 1) % 65535

abbrev pub internet_sum_of : List ℕ → ℕ
internet_sum_of octets = ones_complement (sum (words octets))

abbrev pub header : List ℕ → List ℕ
header octets = take 20 octets

abbrev pub header_sum : List ℕ → ℕ
header_sum octets = internet_sum_of (header octets)

-- the fields of a header, by their places (RFC 791 3.1)
abbrev pub tos_of : List ℕ → ℕ
tos_of octets = slice_index octets 1

abbrev pub total_length_of : List ℕ → ℕ
total_length_of octets = u16_at octets 2

abbrev pub identification_of : List ℕ → ℕ
identification_of octets = u16_at octets 4

-- Flags in the highest 3 bits, Fragment Offset in the others
abbrev pub fragment_of : List ℕ → ℕ
fragment_of octets = u16_at octets 6

abbrev pub ttl_of : List ℕ → ℕ
ttl_of octets = slice_index octets 8

abbrev pub protocol_of : List ℕ → ℕ
protocol_of octets = slice_index octets 9

abbrev pub source_of : List ℕ → Addr
source_of octets = record { 0 = u32_at octets 12 }

abbrev pub destination_of : List ℕ → Addr
destination_of octets = record { 0 = u32_at octets 16 }

-- the same octets with this Time To Live, and with this header checksum
abbrev pub with_ttl : List ℕ → ℕ → List ℕ
with_ttl octets ttl = slice_set octets 8 ttl

abbrev pub with_checksum : List ℕ → ℕ → List ℕ
with_checksum octets checksum = written octets 10 (to_be_bytes w16 checksum)

-- the same packet with the canonical checksum: the complement of the sum of the header whose
-- checksum field is zero, so never FFFF unless all the rest is zero
abbrev pub canonical_checksum : List ℕ → ℕ
canonical_checksum octets = 65535 - header_sum (with_checksum octets 0)

abbrev pub canonical : List ℕ → List ℕ
canonical octets = with_checksum octets (canonical_checksum octets)

-- the most octets of a packet: this project's own limit
abbrev pub greatest_packet : ℕ
greatest_packet = 1500

-- a packet: version 4, a header of 5 words of 4 octets, at most 1500 octets, its own length, and a
-- header that sums to FFFF
pub record IsPacket (octets : List ℕ) : Type 0 where
  pub has_header : 20 ≤ length octets
  pub fits_mtu : length octets ≤ greatest_packet
  pub version_and_header_length : slice_index octets 0 ≡ 69
  pub own_length : total_length_of octets ≡ length octets
  pub sums_up : header_sum octets ≡ 65535

-- the tests of a receiver in their order: which fails first
abbrev pub first_fault : List ℕ → Option PacketFault
first_fault octets =
    if nat_lt (length octets) 20 then Some Short
    else if not (slice_index octets 0 / 16 == 4) then Some Version
    else if not (slice_index octets 0 % 16 == 5) then Some Options
    else if not (total_length_of octets == length octets) then Some Length
    else if nat_lt greatest_packet (length octets) then Some TooLong
    else if not (header_sum octets == 65535) then Some Checksum
    else None

-- a message of the Ipsilon Flow Management Protocol in a packet of its own: protocol 101, to the
-- neighbour alone (RFC 1953)
abbrev pub ifmp_header : Addr → ℕ → List ℕ
ifmp_header source size =
    69 ∷ 0 ∷ (to_be_bytes w16 (20 + size)
    ++ (0 ∷ 0 ∷ 0 ∷ 0 ∷ 1 ∷ 101 ∷ 0 ∷ 0 ∷ (to_be_bytes w32 source.0
    ++ (255 ∷ 255 ∷ 255 ∷ 255 ∷ []))))

abbrev pub ifmp_packet_of : Addr → List ℕ → List ℕ
ifmp_packet_of source message = canonical (ifmp_header source (length message) ++ message)
