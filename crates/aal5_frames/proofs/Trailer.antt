-- octets that pass each test are a PDU, and a PDU passes each

use Rattle.std.proofs.Common.{◌≡◌, ℕ, zero, suc, ◌+◌, ◌-◌, ◌%◌, ◌^◌, ◌<◌, ◌≤◌, ◌==◌, ◌↔◌, nat_lt, Bool, true, false, not, ◌||◌, cond, List, [], ◌∷◌, ◌++◌, length, take, drop, get_or, replicate, Option, Some, None, Result, Ok, Err, IfOk, refl, sym, ap, ap₂, subst, ◌∙◌, arith, append_assoc, length-append, length-drop, length-take, map}
use Rattle.std.specs.Int.{w16, w32, to_be_bytes, from_be_bytes}
use Rattle.std.specs.Result.{result_err}
use Rattle.std.proofs.lemmas.Bool.{ltb-false, le-ltb, eqb-true, eq-eqb, ne_eqb, not-false, not_from_true, or_parts, or_from}
use Rattle.std.proofs.lemmas.List.{length-map, length-take-le, take-append-drop, take_at, get_or-append-add}
use Rattle.std.proofs.lemmas.Nat.{be_bytes_2, be_bytes_4, from_be_bytes-to_be_bytes_2, from_be_bytes-to_be_bytes_4}
use Rattle.std.proofs.Math.Seq.{take-add}
use Rattle.atm_cells.specs.Polynomial.{plus, remainder, octet_bits, number}
use Rattle.atm_cells.proofs.Division.{length-plus}
use Rattle.atm_cells.proofs.Numbers.{length-bits, number-lt}
use Rattle.atm_cells.proofs.Quotient.{remainder_found}
use Rattle.aal5_frames.specs.declared.check.FrameFault.{FrameFault}
use Rattle.aal5_frames.specs.declared.check.FrameFault.TheVariants.{Empty, Size, Cpi, Length, Crc}
use Rattle.aal5_frames.specs.Crc.{crc_generator, crc_of}
use Rattle.aal5_frames.specs.Frame.{IsPdu, pdu_front, pdu_with, pdu_fault, from_end, length_field, crc_field, has_wrong_length}

-- ---- the tests, over the numbers that they read: size, CPI, Length, CRC and what the CRC is to be

abbrev fault_at : (size cpi len crc right : ℕ) → Option FrameFault
fault_at size cpi len crc right =
    cond (size == 0) (Some Empty)
    (cond (not (size % 48 == 0) || nat_lt 1536 size) (Some Size)
    (cond (not (cpi == 0)) (Some Cpi)
    (cond (has_wrong_length size len) (Some Length)
    (cond (not (crc == right)) (Some Crc) None))))

record Passes (size cpi len crc right : ℕ) : Type 0 where
  not_empty : 1 ≤ size
  whole : size % 48 ≡ 0
  at_most : size ≤ 1536
  cpi_zero : cpi ≡ 0
  len_some : 1 ≤ len
  len_room : len + 8 ≤ size
  len_near : size ≤ len + 55
  crc_right : crc ≡ right

guard : (b : Bool) (f : FrameFault) (rest : Option FrameFault) → cond b (Some f) rest ≡ None → (b ≡ false) × (rest ≡ None)
guard true f rest e = cc
guard false f rest e = (refl, e)

not_zero : (n : ℕ) → (n == 0) ≡ false → 1 ≤ n
not_zero zero e = cc
not_zero (suc n) e = omega arith

same : (a b : ℕ) → not (a == b) ≡ false → a ≡ b
same a b e = eqb-true a b (not-false (a == b) e)

passed : (size cpi len crc right : ℕ) → fault_at size cpi len crc right ≡ None → Passes size cpi len crc right
passed size cpi len crc right e =
    let a = guard (size == 0) Empty _ e in
    let b = guard (not (size % 48 == 0) || nat_lt 1536 size) Size _ a.1 in
    let c = guard (not (cpi == 0)) Cpi _ b.1 in
    let d = guard (has_wrong_length size len) Length _ c.1 in
    let f = guard (not (crc == right)) Crc _ d.1 in
    let sizes = or_parts (not (size % 48 == 0)) (nat_lt 1536 size) b.0 in
    let lens = or_parts (len == 0 || nat_lt size (len + 8)) (nat_lt (len + 55) size) d.0 in
    let low = or_parts (len == 0) (nat_lt size (len + 8)) lens.0 in
    record {
      not_empty = not_zero size a.0;
      whole = same (size % 48) 0 sizes.0;
      at_most = ltb-false 1536 size sizes.1;
      cpi_zero = same cpi 0 c.0;
      len_some = not_zero len low.0;
      len_room = ltb-false size (len + 8) low.1;
      len_near = ltb-false (len + 55) size lens.1;
      crc_right = same crc right f.0;
    }

passes : (size cpi len crc right : ℕ) → Passes size cpi len crc right → fault_at size cpi len crc right ≡ None
passes size cpi len crc right p =
    let a : (size == 0) ≡ false = ne_eqb size 0 (λ e. omega arith) in
    let b : (not (size % 48 == 0) || nat_lt 1536 size) ≡ false
    = or_from _ _ (not_from_true (size % 48 == 0) (eq-eqb (size % 48) 0 p.whole)) (le-ltb 1536 size p.at_most) in
    let c : not (cpi == 0) ≡ false = not_from_true (cpi == 0) (eq-eqb cpi 0 p.cpi_zero) in
    let d : has_wrong_length size len ≡ false
    = or_from _ _ (or_from _ _ (ne_eqb len 0 (λ e. omega arith)) (le-ltb size (len + 8) p.len_room)) (le-ltb (len + 55) size p.len_near) in
    let f : not (crc == right) ≡ false = not_from_true (crc == right) (eq-eqb crc right p.crc_right) in
    rw (a, b, c, d, f) refl

abbrev PassesAll : List ℕ → Type 0
PassesAll octets = Passes (length octets) (from_end octets 7) (length_field octets) (crc_field octets) (crc_of (take (length octets - 4) octets))

-- ---- the octets at the end

eight : (t : List ℕ) → length t ≡ 8
    → t ≡ get_or t 0 0 ∷ get_or t 1 0 ∷ get_or t 2 0 ∷ get_or t 3 0 ∷ get_or t 4 0 ∷ get_or t 5 0 ∷ get_or t 6 0 ∷ get_or t 7 0 ∷ []
eight (a ∷ b ∷ c ∷ d ∷ e ∷ f ∷ g ∷ h ∷ []) l = refl
eight (a ∷ b ∷ c ∷ d ∷ e ∷ f ∷ g ∷ h ∷ i ∷ t) l = absurd (omega arith)
eight (a ∷ b ∷ c ∷ d ∷ e ∷ f ∷ g ∷ []) l = absurd (omega arith)
eight (a ∷ b ∷ c ∷ d ∷ e ∷ f ∷ []) l = absurd (omega arith)
eight (a ∷ b ∷ c ∷ d ∷ e ∷ []) l = absurd (omega arith)
eight (a ∷ b ∷ c ∷ d ∷ []) l = absurd (omega arith)
eight (a ∷ b ∷ c ∷ []) l = absurd (omega arith)
eight (a ∷ b ∷ []) l = absurd (omega arith)
eight (a ∷ []) l = absurd (omega arith)
eight [] l = absurd (omega arith)

-- the k-th octet from the end is the i-th of the last eight
from_end-append : (p t : List ℕ) (k i : ℕ) → length t ≡ 8 → i + k ≡ 8 → from_end (p ++ t) k ≡ get_or t i 0
from_end-append p t k i size e =
    let place : length (p ++ t) - k ≡ length p + i = omega (arith, length-append p t) in
    ap (λ n. get_or (p ++ t) n 0) place ∙ get_or-append-add p t i 0

-- ---- a PDU passes

abbrev trailer_of : (len uu crc : ℕ) → List ℕ
trailer_of len uu crc = (uu ∷ 0 ∷ to_be_bytes w16 len) ++ to_be_bytes w32 crc

-- the CRC fits its field
pub crc_of-lt : (octets : List ℕ) → crc_of octets < 2 ^ 32
unfolding crc_of
crc_of-lt octets =
    let dividend : List Bool = plus (replicate 32 true) (octet_bits octets ++ replicate 32 false) in
    let long : 32 ≤ length dividend
    = omega (arith, length-plus (replicate 32 true) (octet_bits octets ++ replicate 32 false) (omega (arith, length-append (octet_bits octets) (replicate 32 false))), length-append (octet_bits octets) (replicate 32 false)) in
    let width : length (map not (remainder crc_generator dividend)) ≡ 32
    = length-map (remainder crc_generator dividend) not ∙ (remainder_found crc_generator dividend (omega (arith, length-bits 32 0x04C11DB7))).degree ∙ length-bits 32 0x04C11DB7 in
    let P : ℕ → Type 0 = λ w. number (map not (remainder crc_generator dividend)) < 2 ^ w in
    subst P width (number-lt (map not (remainder crc_generator dividend)))

record Reads (payload octets : List ℕ) : Type 0 where
  tests : PassesAll octets
  len : length_field octets ≡ length payload
  room : length payload + 8 ≤ length octets

reads : (payload pad : List ℕ) (uu : ℕ) → length pad ≤ 47 → 1 ≤ length payload → length payload ≤ 1528
    → length (pdu_with payload pad uu) % 48 ≡ 0 → Reads payload (pdu_with payload pad uu)
reads payload pad uu within some most whole =
    let front : List ℕ = pdu_front payload pad uu in
    let crc : ℕ = crc_of front in
    let o : List ℕ = pdu_with payload pad uu in
    let p : List ℕ = payload ++ pad in
    let t : List ℕ = trailer_of (length payload) uu crc in
    let parts : o ≡ p ++ t = append_assoc p (uu ∷ 0 ∷ to_be_bytes w16 (length payload)) (to_be_bytes w32 crc) in
    let size : length o ≡ length payload + length pad + 8
    = omega (arith, ap length parts, length-append p t, length-append payload pad) in
    let at : (k i : ℕ) → i + k ≡ 8 → from_end o k ≡ get_or t i 0
    = λ (k : ℕ) (i : ℕ) e. ap (λ l. from_end l k) parts ∙ from_end-append p t k i refl e in
    let len : length_field o ≡ length payload
    = ap₂ (λ a b. from_be_bytes w16 (a ∷ b ∷ [])) (at 6 2 refl) (at 5 3 refl)
    ∙ from_be_bytes-to_be_bytes_2 (length payload) (omega arith) in
    let crc_is : crc_field o ≡ crc
    = (λ i. from_be_bytes w32 (at 4 4 refl i ∷ at 3 5 refl i ∷ at 2 6 refl i ∷ at 1 7 refl i ∷ []))
    ∙ from_be_bytes-to_be_bytes_4 crc (crc_of-lt front) in
    let front_size : length front ≡ length o - 4 = omega (arith, length-append front (to_be_bytes w32 crc)) in
    let front_is : take (length o - 4) o ≡ front = take_at front (to_be_bytes w32 crc) (length o - 4) front_size in
    record {
      tests = record {
        not_empty = omega arith;
        whole = whole;
        at_most = omega arith;
        cpi_zero = at 7 1 refl;
        len_some = omega arith;
        len_room = omega arith;
        len_near = omega arith;
        crc_right = crc_is ∙ ap crc_of (sym front_is);
      };
      len = len;
      room = omega arith;
    }

pdu_reads : (payload octets : List ℕ) → IsPdu payload octets → Reads payload octets
pdu_reads payload octets pdu =
    let P : List ℕ → Type 0 = λ o. length o % 48 ≡ 0 in
    subst (λ (o : List ℕ). Reads payload o) (sym pdu.is)
    (reads payload pdu.pad pdu.uu pdu.pad_within pdu.not_empty pdu.at_most (subst P pdu.is pdu.whole_cells))

-- no test refuses it, and its Length field is its payload's length
pub pdu_passes : (payload octets : List ℕ) → IsPdu payload octets → (pdu_fault octets ≡ None) × (length_field octets ≡ length payload)
pdu_passes payload octets pdu =
    let r : Reads payload octets = pdu_reads payload octets pdu in
    (passes _ _ _ _ _ r.tests, r.len)

-- ---- what passes is a PDU

two_bytes : (a b : ℕ) → a < 256 → b < 256 → (i : ℕ) → get_or (a ∷ b ∷ []) i 0 < 256
two_bytes a b ha hb zero = ha
two_bytes a b ha hb (suc zero) = hb
two_bytes a b ha hb (suc (suc i)) = omega arith

four_bytes : (a b c d : ℕ) → a < 256 → b < 256 → c < 256 → d < 256 → (i : ℕ) → get_or (a ∷ b ∷ c ∷ d ∷ []) i 0 < 256
four_bytes a b c d ha hb hc hd zero = ha
four_bytes a b c d ha hb hc hd (suc zero) = hb
four_bytes a b c d ha hb hc hd (suc (suc zero)) = hc
four_bytes a b c d ha hb hc hd (suc (suc (suc zero))) = hd
four_bytes a b c d ha hb hc hd (suc (suc (suc (suc i)))) = omega arith

accepted : (o : List ℕ) → ((i : ℕ) → get_or o i 0 < 256) → PassesAll o → IsPdu (take (length_field o) o) o
accepted o bytes tests =
    let size : ℕ = length o in
    let n : ℕ = length_field o in
    let crc : ℕ = crc_field o in
    let large : 8 ≤ size = omega (arith, tests.len_room) in
    let p : List ℕ = take (size - 8) o in
    let t : List ℕ = drop (size - 8) o in
    let parts : o ≡ p ++ t = sym (take-append-drop (size - 8) o) in
    let t_size : length t ≡ 8 = omega (arith, length-drop (size - 8) o) in
    let at : (k i : ℕ) → i + k ≡ 8 → from_end o k ≡ get_or t i 0
    = λ (k : ℕ) (i : ℕ) e. ap (λ l. from_end l k) parts ∙ from_end-append p t k i t_size e in
    let byte : (k : ℕ) → from_end o k < 256 = λ (k : ℕ). bytes (size - k) in
    let len_octets : to_be_bytes w16 n ≡ from_end o 6 ∷ from_end o 5 ∷ []
    = be_bytes_2 (from_end o 6 ∷ from_end o 5 ∷ []) n refl (two_bytes _ _ (byte 6) (byte 5)) refl in
    let crc_octets : to_be_bytes w32 crc ≡ from_end o 4 ∷ from_end o 3 ∷ from_end o 2 ∷ from_end o 1 ∷ []
    = be_bytes_4 (from_end o 4 ∷ from_end o 3 ∷ from_end o 2 ∷ from_end o 1 ∷ []) crc refl (four_bytes _ _ _ _ (byte 4) (byte 3) (byte 2) (byte 1)) refl in
    let uu : ℕ = from_end o 8 in
    let t_is : t ≡ trailer_of n uu crc
    = eight t t_size
    ∙ (λ i. sym (at 8 0 refl) i ∷ (sym (at 7 1 refl) ∙ tests.cpi_zero) i ∷ sym (at 6 2 refl) i ∷ sym (at 5 3 refl) i
    ∷ sym (at 4 4 refl) i ∷ sym (at 3 5 refl) i ∷ sym (at 2 6 refl) i ∷ sym (at 1 7 refl) i ∷ [])
    ∙ ap₂ (λ l c. (uu ∷ 0 ∷ l) ++ c) (sym len_octets) (sym crc_octets) in
    let x : List ℕ = take n o in
    let pad_size : ℕ = size - 8 - n in
    let pad : List ℕ = take pad_size (drop n o) in
    let x_size : length x ≡ n = length-take-le n o (omega (arith, tests.len_room)) in
    let pad_length : length pad ≡ pad_size = length-take-le pad_size (drop n o) (omega (arith, length-drop n o)) in
    let whole : n + pad_size ≡ size - 8 = omega (arith, tests.len_room) in
    let p_is : p ≡ x ++ pad = ap (λ k. take k o) (sym whole) ∙ take-add n pad_size o in
    let front : List ℕ = pdu_front x pad uu in
    let with_crc : o ≡ front ++ to_be_bytes w32 crc
    = parts ∙ ap₂ ◌++◌ p_is t_is
    ∙ sym (append_assoc (x ++ pad) (uu ∷ 0 ∷ to_be_bytes w16 n) (to_be_bytes w32 crc))
    ∙ ap (λ k. ((x ++ pad) ++ uu ∷ 0 ∷ to_be_bytes w16 k) ++ to_be_bytes w32 crc) (sym x_size) in
    let front_size : length front ≡ size - 4 = omega (arith, ap length with_crc, length-append front (to_be_bytes w32 crc)) in
    let front_is : take (size - 4) o ≡ front = ap (take (size - 4)) with_crc ∙ take_at front (to_be_bytes w32 crc) (size - 4) front_size in
    record {
      pad = pad;
      uu = uu;
      is = with_crc ∙ ap (λ c. front ++ to_be_bytes w32 c) (tests.crc_right ∙ ap crc_of front_is);
      pad_within = omega (arith, tests.len_near);
      whole_cells = tests.whole;
      not_empty = omega (arith, tests.len_some);
      at_most = omega (arith, tests.len_room, tests.at_most);
    }

-- ---- together

-- an answer that is Ok of the Length field where no test fails is Ok of n exactly at a PDU of n octets
pub exactly : (o : List ℕ) (r : Result ℕ FrameFault) → ((i : ℕ) → get_or o i 0 < 256)
    → result_err r ≡ pdu_fault o → IfOk r (λ n. n ≡ length_field o)
    → (n : ℕ) → (r ≡ Ok n) ↔ IsPdu (take n o) o
exactly o (Err f) bytes fault none n = (
  (λ e. cc),
  (λ pdu. let e : pdu_fault o ≡ None = passes _ _ _ _ _ (pdu_reads (take n o) o pdu).tests in cc),
)
exactly o (Ok m) bytes fault is n = (
  (λ e.
      let same_n : m ≡ n = cc in
      let tests : PassesAll o = passed _ _ _ _ _ (sym fault) in
      let P : ℕ → Type 0 = λ k. IsPdu (take k o) o in
      subst P (sym is ∙ same_n) (accepted o bytes tests)),
  (λ pdu.
      let r : Reads (take n o) o = pdu_reads (take n o) o pdu in
      let length_n : length (take n o) ≡ n = omega (arith, r.room, length-take n o) in
      ap Ok (is ∙ r.len ∙ length_n)),
)
