-- the fields of a header, as the number of its first 32 bits has them

use Rattle.std.proofs.Common.{◌≡◌, ℕ, ◌+◌, ◌*◌, ◌/◌, ◌%◌, ◌^◌, ◌<◌, ◌==◌, Bool, not, List, [], ◌∷◌, ◌++◌, length, take, drop, get_or, bit_and, Option, Some, None, sym, ap, ◌∙◌, arith, append-nil, if◌then◌else◌}
use Rattle.std.specs.Prelude.{nat_lt, slice_index}
use Rattle.std.specs.Int.{w32, from_be_bytes}
use Rattle.std.proofs.Math.Seq.{drop-append_seam, take-append_seam}
use Rattle.std.proofs.lemmas.Nat.{and_mask, shr_split}
use Rattle.atm_cells.specs.declared.fault.CellFault.{CellFault}
use Rattle.atm_cells.specs.declared.fault.CellFault.TheVariants.{Hec, Gfc, Pt, Clp}
use Rattle.atm_cells.specs.Cell.{gfc, pt, clp, cell_fault, hec_of}
use Rattle.atm_cells.specs.Polynomial.{bits, octet_bits, number}
use Rattle.atm_cells.proofs.Numbers.{length-bits, bits_cat, number-bits}

take-bits : (j a : ℕ) (rest : List Bool) → take j (bits j a ++ rest) ≡ bits j a
take-bits j a rest = ap (λ n. take n (bits j a ++ rest)) (sym (length-bits j a)) ∙ take-append_seam (bits j a) rest

drop-bits : (j a : ℕ) (rest : List Bool) → drop j (bits j a ++ rest) ≡ rest
drop-bits j a rest = ap (λ n. drop n (bits j a ++ rest)) (sym (length-bits j a)) ∙ drop-append_seam (bits j a) rest

-- a number's bits in two parts
parted : (j k n : ℕ) → n % 2 ^ k < 2 ^ k → bits (j + k) n ≡ bits j (n / 2 ^ k) ++ bits k (n % 2 ^ k)
parted j k n below = ap (bits (j + k)) (sym (shr_split n k)) ∙ bits_cat j k (n / 2 ^ k) (n % 2 ^ k) below

gfc_at : (w : ℕ) → w < 2 ^ 32 → w / 2 ^ 28 ≡ number (take 4 (bits 32 w))
gfc_at w small = sym (
    ap (λ l. number (take 4 l)) (parted 4 28 w (omega arith))
    ∙ ap number (take-bits 4 (w / 2 ^ 28) (bits 28 (w % 2 ^ 28)))
    ∙ number-bits 4 (w / 2 ^ 28) ∙ omega arith)

pt_at : (w : ℕ) → w / 2 % 2 ^ 3 ≡ number (take 3 (drop 28 (bits 32 w)))
pt_at w = sym (
    ap (λ l. number (take 3 (drop 28 l))) (parted 28 4 w (omega arith))
    ∙ ap (λ l. number (take 3 l)) (drop-bits 28 (w / 2 ^ 4) (bits 4 (w % 2 ^ 4)) ∙ parted 3 1 (w % 2 ^ 4) (omega arith))
    ∙ ap number (take-bits 3 (w % 2 ^ 4 / 2 ^ 1) (bits 1 (w % 2 ^ 4 % 2 ^ 1)))
    ∙ number-bits 3 (w % 2 ^ 4 / 2 ^ 1) ∙ omega arith)

clp_at : (w : ℕ) → w % 2 ≡ number (drop 31 (bits 32 w))
clp_at w = sym (
    ap (λ l. number (drop 31 l)) (parted 31 1 w (omega arith))
    ∙ ap number (drop-bits 31 (w / 2 ^ 1) (bits 1 (w % 2 ^ 1)))
    ∙ number-bits 1 (w % 2 ^ 1) ∙ omega arith)

-- the bits of four octets are those of the number that they make
word_bits : (a b c d : ℕ) → b < 256 → c < 256 → d < 256 → bits 32 (from_be_bytes w32 (a ∷ b ∷ c ∷ d ∷ [])) ≡ octet_bits (a ∷ b ∷ c ∷ d ∷ [])
word_bits a b c d hb hc hd = sym (
    ap (λ l. bits 8 a ++ (bits 8 b ++ (bits 8 c ++ l))) (append-nil (bits 8 d))
    ∙ ap (λ l. bits 8 a ++ (bits 8 b ++ l)) (sym (bits_cat 8 8 c d (omega arith)))
    ∙ ap (λ l. bits 8 a ++ l) (sym (bits_cat 8 16 b (c * 2 ^ 8 + d) (omega arith)))
    ∙ sym (bits_cat 8 24 a (b * 2 ^ 16 + (c * 2 ^ 8 + d)) (omega arith))
    ∙ ap (bits 32) (omega arith))

abbrev front_word : (octets : List ℕ) → ℕ
front_word octets = from_be_bytes w32 (take 4 octets)

-- the first test that fails, by that number
abbrev pub word_fault : (octets : List ℕ) → Option CellFault
word_fault octets =
    if not (slice_index octets 4 == hec_of (take 4 octets)) then Some Hec
    else (if not (front_word octets / 2 ^ 28 == 0) then Some Gfc
    else (if nat_lt 1 (bit_and (front_word octets / 2) 7) then Some Pt
    else (if not (bit_and (front_word octets) 1 == 0) then Some Clp
    else None)))

pub fault_is : (octets : List ℕ) → length octets ≡ 53 → ((i : ℕ) → get_or octets i 0 < 256) → word_fault octets ≡ cell_fault octets
fault_is [] size small = absurd (omega arith)
fault_is (a ∷ []) size small = absurd (omega arith)
fault_is (a ∷ b ∷ []) size small = absurd (omega arith)
fault_is (a ∷ b ∷ c ∷ []) size small = absurd (omega arith)
fault_is (a ∷ b ∷ c ∷ d ∷ rest) size small =
    let w : ℕ = from_be_bytes w32 (a ∷ b ∷ c ∷ d ∷ []) in
    let within : w < 2 ^ 32 = omega (arith, small 0, small 1, small 2, small 3) in
    let all : bits 32 w ≡ octet_bits (a ∷ b ∷ c ∷ d ∷ []) = word_bits a b c d (small 1) (small 2) (small 3) in
    let of_gfc : w / 2 ^ 28 ≡ gfc (a ∷ b ∷ c ∷ d ∷ rest) = gfc_at w within ∙ ap (λ l. number (take 4 l)) all in
    let of_pt : bit_and (w / 2) 7 ≡ pt (a ∷ b ∷ c ∷ d ∷ rest) = and_mask (w / 2) 3 ∙ pt_at w ∙ ap (λ l. number (take 3 (drop 28 l))) all in
    let of_clp : bit_and w 1 ≡ clp (a ∷ b ∷ c ∷ d ∷ rest) = and_mask w 1 ∙ clp_at w ∙ ap (λ l. number (drop 31 l)) all in
    λ i. if not (slice_index (a ∷ b ∷ c ∷ d ∷ rest) 4 == hec_of (a ∷ b ∷ c ∷ d ∷ [])) then Some Hec
    else (if not (of_gfc i == 0) then Some Gfc
    else (if nat_lt 1 (of_pt i) then Some Pt
    else (if not (of_clp i == 0) then Some Clp
    else None)))
