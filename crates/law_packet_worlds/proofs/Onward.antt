-- a packet that no test refuses is one behind a hop too

use Rattle.std.proofs.Common.{◌≡◌, ℕ, ◌-◌, ◌/◌, ◌%◌, ◌≤◌, ◌==◌, nat_lt, not, if◌then◌else◌, List, length, Option, None, Some, refl, sym, ◌∙◌, arith, slice_index}
use Rattle.std.proofs.lemmas.Bool.Decides.{nat_tests}
use Rattle.law_arrival_views.specs.world_model.Words.{ttl_of, total_length_of, header_sum, with_ttl, canonical, PacketFault, Version, Options, TooLong, Checksum, onward}
use Rattle.law_arrival_views.specs.world_model.ipv4_packet.Packet.{first_fault}
use Rattle.law_arrival_views.specs.world_model.ipv4_packet.declared.validate.PacketFault.TheVariants.{Short, Length}
use Rattle.law_arrival_views.proofs.world_model.ipv4_packet.HeaderLemmas.{on_header}
use Rattle.law_arrival_views.proofs.world_model.ipv4_packet.RouteLemmas.{length-rerouted, header_sum-rerouted, total_length_of-rerouted}
use Rattle.law_arrival_views.proofs.law_controller_facts.Onward.{guard}

-- the first test that fails, by the numbers that are tested: length, first octet, Total Length, sum
abbrev fault_by : (size first total sum : ℕ) → Option PacketFault
fault_by size first total sum =
    if nat_lt size 20 then Some Short
    else if not (first / 16 == 4) then Some Version
    else if not (first % 16 == 5) then Some Options
    else if not (total == size) then Some Length
    else if nat_lt 1500 size then Some TooLong
    else if not (sum == 65535) then Some Checksum
    else None

-- octets that no test refuses
record IsSound (octets : List ℕ) : Type 0 where
  pub long : 20 ≤ length octets
  pub short : length octets ≤ 1500
  pub sum : header_sum octets ≡ 65535

sound : (octets : List ℕ) → first_fault octets ≡ None → IsSound octets
sound octets none =
    let a = guard (nat_lt (length octets) 20) Short _ none in
    let b = guard (not (slice_index octets 0 / 16 == 4)) Version _ a.1 in
    let c = guard (not (slice_index octets 0 % 16 == 5)) Options _ b.1 in
    let d = guard (not (total_length_of octets == length octets)) Length _ c.1 in
    let e = guard (nat_lt 1500 (length octets)) TooLong _ d.1 in
    let f = guard (not (header_sum octets == 65535)) Checksum _ e.1 in
    record { long = grind (arith, nat_tests, a.0); short = grind (arith, nat_tests, e.0); sum = grind (arith, nat_tests, f.0) }

-- the packet behind a hop
first-rerouted : (packet : List ℕ) (ttl : ℕ) → 20 ≤ length packet → slice_index (canonical (with_ttl packet ttl)) 0 ≡ slice_index packet 0
first-rerouted packet ttl = on_header (λ p. slice_index (canonical (with_ttl p ttl)) 0 ≡ slice_index p 0) (λ a b c d e f g h i j k l m n o p q r s t rest. refl) packet

pub fault_onward : (packet : List ℕ) → first_fault packet ≡ None → first_fault (onward packet) ≡ None
fault_onward packet none =
    let s : IsSound packet = sound packet none in
    let less : ℕ = ttl_of packet - 1 in
    let size : length (onward packet) ≡ length packet = length-rerouted packet less s.long in
    let first : slice_index (onward packet) 0 ≡ slice_index packet 0 = first-rerouted packet less s.long in
    let total : total_length_of (onward packet) ≡ total_length_of packet = total_length_of-rerouted packet less s.long in
    let sum : header_sum (onward packet) ≡ header_sum packet = header_sum-rerouted packet less s.long ∙ sym s.sum in
    (λ i. fault_by (size i) (first i) (total i) (sum i)) ∙ none
