-- the fields of a header and its octets give each other

use Rattle.std.proofs.Common.{◌≡◌, ℕ, zero, suc, ◌+◌, ◌*◌, ◌/◌, ◌%◌, ◌^◌, ◌<◌, ◌≤◌, ◌==◌, Bool, true, false, List, [], ◌∷◌, ◌++◌, length, drop, get_or, bit_and, refl, sym, ap, ◌∙◌, arith}
use Rattle.std.specs.Int.{w32, to_be_bytes, from_be_bytes}
use Rattle.std.proofs.lemmas.Nat.{and_mask, be_bytes_4, from_be_bytes-to_be_bytes_4}
use Rattle.atm_cells.specs.declared.cell.Header.{Header}
use Rattle.atm_cells.specs.Cell.{cell_octets, header_bits, hec_of, pt_of}
use Rattle.atm_cells.specs.Polynomial.{bits, number}
use Rattle.atm_cells.proofs.Numbers.{bits_cat, number-bits}

-- the first five of some octets, and the others
five : (octets : List ℕ) → 5 ≤ length octets
    → octets ≡ get_or octets 0 0 ∷ get_or octets 1 0 ∷ get_or octets 2 0 ∷ get_or octets 3 0 ∷ get_or octets 4 0 ∷ drop 5 octets
five [] h = absurd (omega arith)
five (a ∷ []) h = absurd (omega arith)
five (a ∷ b ∷ []) h = absurd (omega arith)
five (a ∷ b ∷ c ∷ []) h = absurd (omega arith)
five (a ∷ b ∷ c ∷ d ∷ []) h = absurd (omega arith)
five (a ∷ b ∷ c ∷ d ∷ e ∷ rest) h = refl

pt_of-test : (p : ℕ) → p ≤ 1 → pt_of (p == 1) ≡ p
pt_of-test zero h = refl
pt_of-test (suc zero) h = refl
pt_of-test (suc (suc p)) h = absurd (omega arith)

test-pt_of : (last : Bool) → (pt_of last == 1) ≡ last
test-pt_of true = refl
test-pt_of false = refl

pt_small : (last : Bool) → pt_of last < 2
pt_small true = omega arith
pt_small false = omega arith

-- the number of a header's first 32 bits, each field in its place
abbrev pub word_of : Header → ℕ
word_of h = h.channel.vpi * 2 ^ 20 + h.channel.vci * 2 ^ 4 + pt_of h.last * 2

pub number-header_bits : (h : Header) → h.channel.vpi ≤ 255 → h.channel.vci < 2 ^ 16 → number (header_bits h) ≡ word_of h
number-header_bits h vpi vci =
    let pt : pt_of h.last < 2 = pt_small h.last in
    let low : ℕ = pt_of h.last * 2 ^ 1 + 0 in
    let middle : ℕ = h.channel.vci * 2 ^ 4 + low in
    let whole : ℕ = h.channel.vpi * 2 ^ 20 + middle in
    ap (λ l. number (bits 4 0 ++ (bits 8 h.channel.vpi ++ (bits 16 h.channel.vci ++ l)))) (sym (bits_cat 3 1 (pt_of h.last) 0 (omega arith)))
    ∙ ap (λ l. number (bits 4 0 ++ (bits 8 h.channel.vpi ++ l))) (sym (bits_cat 16 4 h.channel.vci low (omega arith)))
    ∙ ap (λ l. number (bits 4 0 ++ l)) (sym (bits_cat 8 20 h.channel.vpi middle (omega arith)))
    ∙ ap number (sym (bits_cat 4 28 0 whole (omega arith)))
    ∙ number-bits 32 (0 * 2 ^ 28 + whole)
    ∙ omega arith

-- the header that a number of 32 bits is read as
abbrev pub header_in : (word : ℕ) → Header
header_in word = record {
  channel = record { vpi = word / 2 ^ 20; vci = bit_and (word / 2 ^ 4) 65535 };
  last = bit_and (word / 2) 7 == 1;
}

abbrev pub front_of : List ℕ → List ℕ
front_of octets = get_or octets 0 0 ∷ get_or octets 1 0 ∷ get_or octets 2 0 ∷ get_or octets 3 0 ∷ []

-- octets that pass each test are those of the header that is read
pub found : (octets : List ℕ) (word : ℕ) → length octets ≡ 53 → ((i : ℕ) → get_or octets i 0 < 256)
    → word ≡ from_be_bytes w32 (front_of octets)
    → get_or octets 4 0 ≡ hec_of (front_of octets)
    → word / 2 ^ 28 ≡ 0 → bit_and (word / 2) 7 ≤ 1 → bit_and word 1 ≡ 0
    → octets ≡ cell_octets (header_in word) (drop 5 octets)
found octets word size bytes is hec gfc pt clp =
    let front : List ℕ = front_of octets in
    let written : to_be_bytes w32 word ≡ front = be_bytes_4 front word refl (λ i. bytes_of_front octets bytes i) is in
    let vci : bit_and (word / 2 ^ 4) 65535 ≡ word / 2 ^ 4 % 2 ^ 16 = and_mask (word / 2 ^ 4) 16 in
    let payload_type : bit_and (word / 2) 7 ≡ word / 2 % 2 ^ 3 = and_mask (word / 2) 3 in
    let priority : bit_and word 1 ≡ word % 2 ^ 1 = and_mask word 1 in
    let type_number : pt_of (bit_and (word / 2) 7 == 1) ≡ bit_and (word / 2) 7 = pt_of-test (bit_and (word / 2) 7) pt in
    let fields : word_of (header_in word) ≡ word = omega arith in
    let whole : number (header_bits (header_in word)) ≡ word = number-header_bits (header_in word) (omega arith) (omega arith) ∙ fields in
    five octets (omega arith)
    ∙ ap (λ h. front ++ h ∷ drop 5 octets) hec
    ∙ ap (λ f. f ++ hec_of f ∷ drop 5 octets) (sym written)
    ∙ ap (λ n. to_be_bytes w32 n ++ hec_of (to_be_bytes w32 n) ∷ drop 5 octets) (sym whole)
  where
    bytes_of_front : (octets : List ℕ) → ((i : ℕ) → get_or octets i 0 < 256) → (i : ℕ) → get_or (front_of octets) i 0 < 256
    bytes_of_front octets bytes zero = bytes 0
    bytes_of_front octets bytes (suc zero) = bytes 1
    bytes_of_front octets bytes (suc (suc zero)) = bytes 2
    bytes_of_front octets bytes (suc (suc (suc zero))) = bytes 3
    bytes_of_front octets bytes (suc (suc (suc (suc i)))) = omega arith

-- the number of the octets that are written for a header
pub word_written : (h : Header) (payload octets : List ℕ) (word : ℕ) → h.channel.vpi ≤ 255 → h.channel.vci < 2 ^ 16
    → octets ≡ cell_octets h payload → word ≡ from_be_bytes w32 (front_of octets) → word ≡ word_of h
word_written h payload octets word vpi vci are is =
    let pt : pt_of h.last < 2 = pt_small h.last in
    is ∙ ap (λ o. from_be_bytes w32 (front_of o)) are
    ∙ ap (λ n. from_be_bytes w32 (to_be_bytes w32 n)) (number-header_bits h vpi vci)
    ∙ from_be_bytes-to_be_bytes_4 (word_of h) (omega arith)

-- its fields that every cell has alike
pub gfc_is : (h : Header) (word : ℕ) → h.channel.vpi ≤ 255 → h.channel.vci < 2 ^ 16 → word ≡ word_of h → word / 2 ^ 28 ≡ 0
gfc_is h word vpi vci is = let pt : pt_of h.last < 2 = pt_small h.last in omega arith

pub pt_is : (h : Header) (word : ℕ) → word ≡ word_of h → bit_and (word / 2) 7 ≤ 1
pt_is h word is =
    let pt : pt_of h.last < 2 = pt_small h.last in
    let masked : bit_and (word / 2) 7 ≡ word / 2 % 2 ^ 3 = and_mask (word / 2) 3 in
    omega arith

pub clp_is : (h : Header) (word : ℕ) → word ≡ word_of h → bit_and word 1 ≡ 0
clp_is h word is =
    let masked : bit_and word 1 ≡ word % 2 ^ 1 = and_mask word 1 in
    omega arith

-- a header is read from the octets that are written for it
pub read : (h : Header) (payload octets : List ℕ) (word : ℕ) → h.channel.vpi ≤ 255 → h.channel.vci < 2 ^ 16
    → octets ≡ cell_octets h payload
    → word ≡ from_be_bytes w32 (front_of octets)
    → (header_in word ≡ h) × (drop 5 octets ≡ payload)
read h payload octets word vpi vci are is =
    let pt : pt_of h.last < 2 = pt_small h.last in
    let whole : word ≡ word_of h = word_written h payload octets word vpi vci are is in
    let vpi_is : word / 2 ^ 20 ≡ h.channel.vpi = omega arith in
    let vci_is : bit_and (word / 2 ^ 4) 65535 ≡ h.channel.vci = and_mask (word / 2 ^ 4) 16 ∙ omega arith in
    let pt_is : bit_and (word / 2) 7 ≡ pt_of h.last = and_mask (word / 2) 3 ∙ omega arith in
    let last_is : (bit_and (word / 2) 7 == 1) ≡ h.last = ap (λ n. n == 1) pt_is ∙ test-pt_of h.last in
    ((λ i. record { channel = record { vpi = vpi_is i; vci = vci_is i }; last = last_is i }), ap (drop 5) are)
