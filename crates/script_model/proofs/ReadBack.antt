-- each form of a word is read back from its text

use Rattle.std.proofs.Common.{◌≡◌, ℕ, zero, suc, ◌+◌, ◌*◌, ◌/◌, ◌%◌, ◌-◌, ◌^◌, ◌<◌, ◌≤◌, ◌==◌, ◌&&◌, ◌||◌, Bool, true, false, not, List, [], ◌∷◌, ◌++◌, length, nat_lt, nat_le, slice_index, Some, Option, decimal, bytes_eq, refl, ap, ◌∙◌, arith, option_map}
use Rattle.std.specs.Int.{w32, to_be_bytes, from_be_bytes, byte_at}
use Rattle.std.specs.List.{list_all}
use Rattle.std.specs.Char.{is_ascii_digit, is_ascii_hexdigit, digit_value}
use Rattle.std.proofs.Math.Nat.{mod-lt}
use Rattle.std.proofs.lemmas.Bool.Decides.{nat_tests}
use Rattle.std.proofs.lemmas.Nat.{from_be_bytes-to_be_bytes_4}
use Rattle.std.proofs.lemmas.Str.{digit_value-digit_char}
use Rattle.std.proofs.lemmas.Fmt.{decimal_digit}
use Rattle.std.proofs.lemmas.List.Folds.{list_all-append}
use Rattle.net_types.specs.declared.prefix.Addr.{Addr}
use Rattle.net_types.specs.declared.node.PortNo.{PortNo}
use Rattle.net_types.specs.declared.channel.Channel.{Channel}
use Rattle.net_types.specs.Label.{is_label_number, label_channel_of}
use Rattle.net_types.specs.Prefix.{Network, IsNetwork}
use Rattle.rule_model.specs.lab_text.Forms.{is_letter, is_name, is_name_octet, number_in, dotted, address_of, prefix_of}
use Rattle.rule_model.specs.lab_text.Numeral.{hex_octets, paired}
use Rattle.rule_model.specs.lab_text.Text.{hex_digit, hex_digits}
use Rattle.script_model.specs.Forms.{FromController, FromPort, end_of, queue_of, channel_of, label_of}
use Rattle.world_model.specs.Conditions.{AreOctets}
use Rattle.script_model.specs.Texts.{dotted_text, address_text, prefix_text, channel_text, end_text}
use Rattle.script_model.proofs.Numbers.{decimal_digits, number_in_back, lacks, lacks_sign, parts_back}

-- *Numbers with dots between them*
abbrev pub AreSmall : List ℕ → Type 0
AreSmall [] = Unit {0}
AreSmall (n ∷ ns) = (n ≤ 255) × AreSmall ns

octet_back : (n : ℕ) → n ≤ 255 → number_in 0 255 (decimal n) ≡ Some n
octet_back n within = number_in_back 0 255 n (omega arith) within (omega arith)

decimal_lacks : (sign n : ℕ) → is_ascii_digit sign ≡ false → n < 2 ^ 64 → lacks sign (decimal n) ≡ true
decimal_lacks sign n no_digit few = lacks_sign is_ascii_digit sign no_digit (decimal n) (decimal_digits n few)

dotted_back : (n : ℕ) (ns : List ℕ) → n ≤ 255 → AreSmall ns → dotted (length ns) (dotted_text (n ∷ ns)) ≡ Some (n ∷ ns)
dotted_back n [] within rest = rw (octet_back n within) refl
dotted_back n (m ∷ ms) within rest =
    rw (
      parts_back 46 (decimal n) (dotted_text (m ∷ ms)) (decimal_lacks 46 n refl (omega arith)),
      octet_back n within,
      dotted_back m ms rest.0 rest.1,
    ) refl

dotted_lacks : (n : ℕ) (ns : List ℕ) → n ≤ 255 → AreSmall ns → lacks 47 (dotted_text (n ∷ ns)) ≡ true
dotted_lacks n [] within rest = decimal_lacks 47 n refl (omega arith)
dotted_lacks n (m ∷ ms) within rest =
    list_all-append (λ octet. not (octet == 47)) (decimal n) (46 ∷ dotted_text (m ∷ ms))
    ∙ rw (decimal_lacks 47 n refl (omega arith), dotted_lacks m ms rest.0 rest.1) refl

-- *Addresses*
pub byte_small : (i n : ℕ) → byte_at i n ≤ 255
byte_small zero n = omega (arith, mod-lt n {m = 256} (omega arith))
byte_small (suc i) n = omega (arith, mod-lt (n / 256 ^ suc i) {m = 256} (omega arith))

pub bytes_small : (n : ℕ) → AreSmall (byte_at 2 n ∷ byte_at 1 n ∷ byte_at 0 n ∷ [])
bytes_small n = (byte_small 2 n, (byte_small 1 n, (byte_small 0 n, tt)))

pub address_back : (a : Addr) → a.0 < 2 ^ 32 → address_of (address_text a) ≡ Some a
address_back a few =
    let address : List ℕ → Addr = λ octets. record { 0 = from_be_bytes w32 octets } in
    let numbered : ℕ → Option Addr = λ n. Some (record { 0 = n }) in
    let read : dotted 3 (address_text a) ≡ Some (to_be_bytes w32 a.0) =
    dotted_back (byte_at 3 a.0) (byte_at 2 a.0 ∷ byte_at 1 a.0 ∷ byte_at 0 a.0 ∷ []) (byte_small 3 a.0) (bytes_small a.0) in
    ap (option_map address) read ∙ ap numbered (from_be_bytes-to_be_bytes_4 a.0 few)

address_lacks : (a : Addr) → lacks 47 (address_text a) ≡ true
address_lacks a =
    dotted_lacks (byte_at 3 a.0) (byte_at 2 a.0 ∷ byte_at 1 a.0 ∷ byte_at 0 a.0 ∷ []) (byte_small 3 a.0) (bytes_small a.0)

-- *Prefixes*
pub prefix_back : (p : Network) → p.addr.0 < 2 ^ 32 → IsNetwork p.addr.0 p.len → prefix_of (prefix_text p) ≡ Some p
prefix_back p few is =
    let host : p.addr.0 % 2 ^ (32 - p.len) == 0 ≡ true = grind (arith, nat_tests, is.no_host_bits) in
    rw (
      parts_back 47 (address_text p.addr) (decimal p.len) (address_lacks p.addr),
      address_back p.addr few,
      number_in_back 0 32 p.len (omega arith) is.within (omega (arith, is.within)),
      host,
    ) refl

-- *Channels and labels*
pub channel_back : (c : Channel) → c.vpi ≤ 255 → c.vci ≤ 65535 → channel_of (channel_text c) ≡ Some c
channel_back c vpi vci =
    rw (
      parts_back 47 (decimal c.vpi) (decimal c.vci) (decimal_lacks 47 c.vpi refl (omega arith)),
      number_in_back 0 255 c.vpi (omega arith) vpi (omega arith),
      number_in_back 0 65535 c.vci (omega arith) vci (omega arith),
    ) refl

pub label_back : (n : ℕ) → n < 2 ^ 16 → is_label_number n ≡ true → label_of (channel_text (label_channel_of n)) ≡ Some n
label_back n few is =
    let whole : n / 1024 * 1024 + n % 1024 ≡ n = omega arith in
    rw (channel_back (label_channel_of n) (omega arith) (omega arith), is) (ap Some whole)

-- *Names, ends and queues*
pub name_octets : (name : List ℕ) → is_name name ≡ true → list_all is_name_octet name ≡ true
name_octets name is = by (nat_le 1 (length name)) (nat_le (length name) 16) (is_letter (slice_index name 0)) is
  where
    by : (some few letter : Bool) → (some && (few && (letter && list_all is_name_octet name))) ≡ true
        → list_all is_name_octet name ≡ true
    by true true true e = e
    by true true false e = absurd (cc)
    by true false letter e = absurd (cc)
    by false few letter e = absurd (cc)

name_lacks : (name : List ℕ) → is_name name ≡ true → lacks 58 name ≡ true
name_lacks name is = lacks_sign is_name_octet 58 refl name (name_octets name is)

pub end_back : (name : List ℕ) (port : PortNo) → is_name name ≡ true → 1 ≤ port.0 → port.0 ≤ 8
    → end_of (end_text name port) ≡ Some (name, port)
end_back name port is above below =
    rw (
      parts_back 58 name (decimal port.0) (name_lacks name is),
      is,
      number_in_back 1 8 port.0 above below (omega arith),
    ) refl

pub controller_queue_back : (name : List ℕ) → is_name name ≡ true
    → queue_of (name ++ 58 ∷ 99 ∷ []) ≡ Some (name, FromController)
controller_queue_back name is = rw (parts_back 58 name (99 ∷ []) (name_lacks name is), is) refl

pub port_queue_back : (name : List ℕ) (port : ℕ) → is_name name ≡ true → port ≤ 8
    → queue_of (name ++ 58 ∷ decimal port) ≡ Some (name, FromPort port)
port_queue_back name port is within =
    let digit : decimal port ≡ (48 + port) ∷ [] = decimal_digit port (omega arith) in
    let other : bytes_eq (decimal port) (99 ∷ []) ≡ false =
    let apart : 48 + port == 99 ≡ false = grind (arith, nat_tests) in
    rw (digit, apart) refl in
    rw (
      parts_back 58 name (decimal port) (name_lacks name is),
      is,
      other,
      number_in_back 0 8 port (omega arith) within (omega arith),
    ) refl

-- *Octets*
abbrev pub Bytes : List ℕ → Type 0
Bytes [] = Unit {0}
Bytes (n ∷ ns) = (n < 256) × Bytes ns

pub bytes_of : (octets : List ℕ) → AreOctets octets → Bytes octets
bytes_of [] are = tt
bytes_of (o ∷ os) are = (omega (arith, are 0), bytes_of os (λ i. are (suc i)))

or_true : (b : Bool) → (b || true) ≡ true
or_true true = refl
or_true false = refl

hexdigit : (v : ℕ) → v < 16 → is_ascii_hexdigit (hex_digit v) ≡ true
hexdigit v few = by (nat_lt v 10) refl
  where
    by : (small : Bool) → nat_lt v 10 ≡ small → is_ascii_hexdigit (hex_digit v) ≡ true
    by true e =
        let low : nat_le 48 (48 + v) ≡ true = grind (arith, nat_tests) in
        let high : nat_le (48 + v) 57 ≡ true = grind (arith, nat_tests) in
        rw (e, low, high) refl
    by false e =
        let low : nat_le 97 (87 + v) ≡ true = grind (arith, nat_tests) in
        let high : nat_le (87 + v) 102 ≡ true = grind (arith, nat_tests) in
        rw (e, low, high) (or_true _)

hex_value : (v : ℕ) → v < 16 → digit_value (hex_digit v) ≡ v
hex_value v few = digit_value-digit_char v (omega arith)

pub hex_length : (octets : List ℕ) → length (hex_digits octets) ≡ 2 * length octets
hex_length [] = refl
hex_length (o ∷ os) = omega (arith, hex_length os)

pub hex_all : (octets : List ℕ) → Bytes octets → list_all is_ascii_hexdigit (hex_digits octets) ≡ true
hex_all [] are = refl
hex_all (o ∷ os) are =
    rw (hexdigit (o / 16) (omega (arith, are.0)), hexdigit (o % 16) (omega arith), hex_all os are.1) refl

hex_paired : (octets : List ℕ) → Bytes octets → paired (hex_digits octets) ≡ octets
hex_paired [] are = refl
hex_paired (o ∷ os) are =
    let value : 16 * (o / 16) + o % 16 ≡ o = omega arith in
    rw (hex_value (o / 16) (omega (arith, are.0)), hex_value (o % 16) (omega arith), hex_paired os are.1, value) refl

pub hex_back : (octets : List ℕ) → AreOctets octets → hex_octets (hex_digits octets) ≡ Some octets
hex_back octets octets_are =
    let are : Bytes octets = bytes_of octets octets_are in
    let even : length (hex_digits octets) % 2 == 0 ≡ true = grind (arith, nat_tests, hex_length octets) in
    rw (even, hex_all octets are, hex_paired octets are) refl
