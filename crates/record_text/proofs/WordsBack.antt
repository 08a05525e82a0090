-- each word of a record's line is a word, and says again what was written

use Rattle.std.proofs.Common.{◌≡◌, ℕ, zero, suc, ◌+◌, ◌-◌, ◌*◌, ◌/◌, ◌%◌, ◌^◌, ◌<◌, ◌≤◌, ◌==◌, ◌&&◌, Bool, true, false, List, [], ◌∷◌, ◌++◌, nat_lt, nat_le, bytes_eq, Some, decimal, refl, ap, arith}
use Rattle.std.specs.Int.{w16, w32, to_be_bytes, byte_at}
use Rattle.std.specs.Char.{is_ascii_digit}
use Rattle.std.proofs.lemmas.Bool.Decides.{nat_tests}
use Rattle.std.proofs.lemmas.Fmt.{decimal_digit}
use Rattle.net_types.specs.declared.node.PortNo.{PortNo}
use Rattle.net_types.specs.declared.node.Place.{Place}
use Rattle.net_types.specs.declared.node.Place.TheVariants.{Down, Up, Out}
use Rattle.net_types.specs.declared.number.Mark.{Mark}
use Rattle.net_types.specs.Label.{is_label_number, label_channel_of}
use Rattle.ipv4_packet.specs.declared.flow.FlowId.{FlowId}
use Rattle.ipv4_packet.specs.declared.flow.FlowId.TheVariants.{One, Two}
use Rattle.ipv4_packet.specs.Flow.{IsFlow}
use Rattle.ipv4_packet.specs.Identifier.{identifier, FitsFields}
use Rattle.ipv4_packet.proofs.IdentifierLemmas.{flow_at-identifier, first_fault-identifier}
use Rattle.topology.specs.world_model.Topology.{Topology, vpis_of}
use Rattle.topology.specs.world_model.Lines.{is_linked}
use Rattle.topology.specs.world_model.Conditions.{AreOctets, IsPort, IsTopology}
use Rattle.topology.specs.world_model.Places.{place_node}
use Rattle.script_model.specs.Records.{has_node, is_label, has_place}
use Rattle.script_model.specs.Sayable.{IsName}
use Rattle.script_model.specs.Texts.{name_of, port_text, label_text, mark_text, place_text}
use Rattle.script_model.proofs.Numbers.{decimal_digits, number_back, number_in_back, lacks, lacks_sign, parts_back}
use Rattle.script_model.proofs.ReadBack.{name_octets, byte_small}
use Rattle.script_model.proofs.ReadForms.{both}
use Rattle.script_model.proofs.Tokens.{IsWord}
use Rattle.script_model.proofs.WordTexts.{decimal_word, channel_word, name_word, end_word, word_append}
use Rattle.lab_text.specs.Forms.{is_name_octet}
use Rattle.record_text.specs.Forms.{number_of, long_of, port_of, mark_of, label_of, place_of, flow_of}
use Rattle.record_text.specs.Readable.{FitsMark, HasName}
use Rattle.record_text.proofs.Linked.{node_found, linked_port}

-- *Numbers*
pub number_read : (n : ℕ) → n < 2 ^ 32 → number_of (decimal n) ≡ Some n
number_read n few =
    let fits : nat_lt n (2 ^ 32) ≡ true = grind (arith, nat_tests) in
    rw (number_back n (omega (arith, few)), fits) refl

pub long_read : (n : ℕ) → n < 2 ^ 64 → long_of (decimal n) ≡ Some n
long_read n few = number_in_back 0 (2 ^ 64 - 1) n (omega arith) (omega (arith, few)) few

pub port_read : (port : PortNo) → port.0 ≤ 8 → port_of (port_text port) ≡ Some port
port_read port within = rw (number_in_back 0 8 port.0 (omega arith) within (omega (arith, within))) refl

decimal_lacks : (sign n : ℕ) → is_ascii_digit sign ≡ false → n < 2 ^ 64 → lacks sign (decimal n) ≡ true
decimal_lacks sign n no_digit few = lacks_sign is_ascii_digit sign no_digit (decimal n) (decimal_digits n few)

pub mark_read : (mark : Mark) → FitsMark mark → mark_of (mark_text mark) ≡ Some mark
mark_read mark fits =
    rw (
      parts_back 46 (decimal mark.packet) (decimal mark.frame) (decimal_lacks 46 mark.packet refl (omega (arith, fits.0))),
      number_read mark.packet fits.0,
      long_read mark.frame fits.1,
    ) refl

pub mark_word : (mark : Mark) → FitsMark mark → IsWord (mark_text mark)
mark_word mark fits =
    word_append (decimal mark.packet) (46 ∷ decimal mark.frame) (decimal_word mark.packet (omega (arith, fits.0)))
    (decimal_word mark.frame fits.1).1

-- *Labels*
label_small : (n : ℕ) → is_label_number n ≡ true → n < 16384
label_small n is =
    let vpi : nat_lt (n / 1024) 16 ≡ true =
    (both (nat_lt (n / 1024) 16) (nat_le 32 (n % 1024) && nat_lt (n % 1024) 1024) is).0 in
    let low : n / 1024 < 16 = grind (arith, nat_tests) in
    omega arith

pub label_word : (topology : Topology) (n : ℕ) → is_label topology n ≡ true → IsWord (label_text topology n)
label_word topology n is = by (topology.version == 2) refl
  where
    few : n < 16384
    few = label_small n (both (is_label_number n) (nat_lt (n / 1024) (vpis_of topology)) is).0

    by : (two : Bool) → topology.version == 2 ≡ two → IsWord (label_text topology n)
    by true e = rw e (channel_word (label_channel_of n) (omega (arith, few)) (omega (arith, few)))
    by false e = rw e (decimal_word n (omega (arith, few)))

pub label_read : (topology : Topology) (n : ℕ) → is_label topology n ≡ true → label_of topology (label_text topology n) ≡ Some n
label_read topology n is = by (topology.version == 2) refl
  where
    label : is_label_number n ≡ true
    label = (both (is_label_number n) (nat_lt (n / 1024) (vpis_of topology)) is).0

    few : n < 16384
    few = label_small n label

    by : (two : Bool) → topology.version == 2 ≡ two → label_of topology (label_text topology n) ≡ Some n
    by true e =
        let whole : n / 1024 * 1024 + n % 1024 ≡ n = omega arith in
        rw (
          e,
          parts_back 47 (decimal (n / 1024)) (decimal (n % 1024)) (decimal_lacks 47 (n / 1024) refl (omega (arith, few))),
          number_in_back 0 255 (n / 1024) (omega arith) (omega (arith, few)) (omega (arith, few)),
          number_in_back 0 65535 (n % 1024) (omega arith) (omega arith) (omega arith),
          label,
        ) (ap Some whole)
    by false e = rw (e, number_in_back 0 65535 n (omega arith) (omega (arith, few)) (omega (arith, few))) refl

-- *Queues*
name_lacks : (name : List ℕ) → IsName name → lacks 58 name ≡ true
name_lacks name is = lacks_sign is_name_octet 58 refl name (name_octets name is)

pub place_word : (topology : Topology) (place : Place) → IsTopology topology → has_place topology place ≡ true
    → HasName topology (place_node place) → IsWord (place_text topology place)
place_word topology (Down node) is has name =
    word_append (name_of topology node) (58 ∷ 99 ∷ []) (name_word (name_of topology node) name) refl
place_word topology (Up node) is has name =
    word_append (name_of topology node) (58 ∷ 48 ∷ []) (name_word (name_of topology node) name) refl
place_word topology (Out node port) is has name =
    let parts = both (has_node topology node) (is_linked topology node port) has in
    let linked : IsPort port = linked_port topology node port is parts.1 in
    end_word (name_of topology node) port name linked.1

pub place_read : (topology : Topology) (place : Place) → IsTopology topology → has_place topology place ≡ true
    → HasName topology (place_node place) → place_of topology (place_text topology place) ≡ Some place
place_read topology (Down node) is has name =
    rw (
      parts_back 58 (name_of topology node) (99 ∷ []) (name_lacks (name_of topology node) name),
      node_found topology node is has,
    ) refl
place_read topology (Up node) is has name =
    rw (
      parts_back 58 (name_of topology node) (48 ∷ []) (name_lacks (name_of topology node) name),
      node_found topology node is has,
    ) refl
place_read topology (Out node port) is has name =
    let parts = both (has_node topology node) (is_linked topology node port) has in
    let linked : IsPort port = linked_port topology node port is parts.1 in
    let digit : decimal port.0 ≡ (48 + port.0) ∷ [] = decimal_digit port.0 (omega (arith, linked.1)) in
    let apart : 48 + port.0 == 99 ≡ false = grind (arith, nat_tests, linked.1) in
    let other : bytes_eq (decimal port.0) (99 ∷ []) ≡ false = rw (digit, apart) refl in
    let not_up : port.0 == 0 ≡ false = grind (arith, nat_tests, linked.0) in
    rw (
      parts_back 58 (name_of topology node) (decimal port.0) (name_lacks (name_of topology node) name),
      node_found topology node is parts.0,
      other,
      number_in_back 0 8 port.0 (omega arith) linked.1 (omega (arith, linked.1)),
      not_up,
    ) refl

-- *Flows*
pub flow_read : (flow : FlowId) → FitsFields flow → IsFlow flow → flow_of (identifier flow) ≡ Some flow
flow_read (One tos ttl protocol source destination source_port destination_port) fits is =
    let flow : FlowId = One tos ttl protocol source destination source_port destination_port in
    rw (first_fault-identifier flow is) (ap Some (flow_at-identifier flow fits))
flow_read (Two ttl source destination) fits is =
    let flow : FlowId = Two ttl source destination in
    rw (first_fault-identifier flow is) (ap Some (flow_at-identifier flow fits))

-- octets, one by one
abbrev Bytes : List ℕ → Type 0
Bytes [] = Unit {0}
Bytes (n ∷ ns) = (n < 2 ^ 8) × Bytes ns

are_octets : (octets : List ℕ) → Bytes octets → AreOctets octets
are_octets [] bytes place = omega arith
are_octets (n ∷ ns) bytes zero = bytes.0
are_octets (n ∷ ns) bytes (suc place) = are_octets ns bytes.1 place

byte_low : (i n : ℕ) → byte_at i n < 2 ^ 8
byte_low i n = omega (arith, byte_small i n)

four : (n : ℕ) (rest : List ℕ) → Bytes rest → Bytes (byte_at 3 n ∷ byte_at 2 n ∷ byte_at 1 n ∷ byte_at 0 n ∷ rest)
four n rest are = (byte_low 3 n, (byte_low 2 n, (byte_low 1 n, (byte_low 0 n, are))))

two : (n : ℕ) (rest : List ℕ) → Bytes rest → Bytes (byte_at 1 n ∷ byte_at 0 n ∷ rest)
two n rest are = (byte_low 1 n, (byte_low 0 n, are))

pub identifier_octets : (flow : FlowId) → FitsFields flow → AreOctets (identifier flow)
identifier_octets (One tos ttl protocol source destination source_port destination_port) fits =
    let ports : List ℕ = to_be_bytes w16 destination_port in
    let both_ports : List ℕ = to_be_bytes w16 source_port ++ ports in
    let behind : List ℕ = to_be_bytes w32 destination.0 ++ both_ports in
    are_octets (identifier (One tos ttl protocol source destination source_port destination_port))
    (omega arith, (fits.0, (fits.1, (fits.2, four source.0 behind (four destination.0 both_ports (two source_port ports (two destination_port [] tt)))))))
identifier_octets (Two ttl source destination) fits =
    are_octets (identifier (Two ttl source destination))
    (omega arith, (omega arith, (fits.0, (omega arith, four source.0 (to_be_bytes w32 destination.0) (four destination.0 [] tt)))))
