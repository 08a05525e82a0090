-- the cells of a PDU, one after another

use Rattle.std.proofs.Common.{◌≡◌, ℕ, zero, suc, ◌+◌, ◌-◌, ◌*◌, ◌/◌, ◌<◌, ◌≤◌, List, [], ◌∷◌, ◌++◌, length, take, drop, map, set, replicate, refl, sym, ap, ap₂, ◌∙◌, arith, add-one, zero-add, append_assoc, append-nil, length-append, length-drop}
use Rattle.std.specs.List.{flat_map, range_with_len}
use Rattle.std.specs.Int.{w16, w32, to_be_bytes}
use Rattle.std.proofs.lemmas.Grind.{flat_map-append}
use Rattle.std.proofs.lemmas.Slice.{take-put_mid}
use borrow.Rule.Slice.PartMut.{put_mid, post_of, mid_of, mid_len, same_len_mid}
use Rattle.std.proofs.lemmas.List.{drop_all, drop_more, length-replicate, replicate-append-replicate, set_at, take_at, take_all}
use Rattle.std.proofs.lemmas.List.FromFn.{length-map-range_with_len, map-range_with_len_more}
use Rattle.std.proofs.Math.Seq.{take-add}
use Rattle.net_types.specs.declared.channel.Channel.{Channel}
use Rattle.net_types.specs.declared.number.Mark.{Mark}
use Rattle.atm_cells.specs.declared.cell.Cell.{Cell}
use Rattle.aal5_frames.specs.Crc.{crc_of}
use Rattle.aal5_frames.specs.Frame.{IsPdu, cell_of, cells_for, cells_with, pdu_front, pdu_of}

-- one more place of a list is written
pub pushed : (f : ℕ → Cell) (k : ℕ) (old : List Cell) → k < length old
    → set (map f (range_with_len 0 k) ++ drop k old) k (f k) ≡ map f (range_with_len 0 (k + 1)) ++ drop (k + 1) old
pushed f k old within =
    ap (λ l. set (map f (range_with_len 0 k) ++ l) k (f k)) (drop_more old k (f k) within)
    ∙ set_at (map f (range_with_len 0 k)) _ (drop (k + 1) old) (f k) k (length-map-range_with_len f 0 k)
    ∙ sym (append_assoc (map f (range_with_len 0 k)) (f k ∷ []) (drop (k + 1) old))
    ∙ ap (λ l. l ++ drop (k + 1) old) (sym (map-range_with_len_more f 0 k k (zero-add k)))

-- the payloads of the first k cells are the first octets
pub gathered : (channel : Channel) (mark : Mark) (octets : List ℕ) (k : ℕ)
    → flat_map (λ c. c.payload) (map (cell_of channel mark octets) (range_with_len 0 k)) ≡ take (48 * k) octets
gathered channel mark octets zero = refl
gathered channel mark octets (suc k) =
    let f : ℕ → Cell = cell_of channel mark octets in
    let more : 48 * k + 48 ≡ 48 * suc k = omega arith in
    ap (λ n. flat_map (λ (c : Cell). c.payload) (map f (range_with_len 0 n))) (sym (add-one k))
    ∙ ap (flat_map (λ (c : Cell). c.payload)) (map-range_with_len_more f 0 k k (zero-add k))
    ∙ flat_map-append (λ (c : Cell). c.payload) (map f (range_with_len 0 k)) (f k ∷ [])
    ∙ ap₂ ◌++◌ (gathered channel mark octets k) (append-nil (take 48 (drop (48 * k) octets)))
    ∙ sym (take-add (48 * k) 48 octets)
    ∙ ap (λ n. take n octets) more

pub length-pdu_of : (payload : List ℕ) → length (pdu_of payload) ≡ 48 * cells_for (length payload)
unfolding pdu_of
length-pdu_of payload =
    let n : ℕ = length payload in
    let pad : List ℕ = replicate (48 * cells_for n - 8 - n) 0 in
    let front : List ℕ = pdu_front payload pad 0 in
    let front_size : length front ≡ n + (48 * cells_for n - 8 - n) + 4
    = length-append (payload ++ pad) (0 ∷ 0 ∷ to_be_bytes w16 n)
    ∙ ap (λ k. k + 4) (length-append payload pad ∙ ap (λ k. n + k) (length-replicate (48 * cells_for n - 8 - n) 0)) in
    length-append front (to_be_bytes w32 (crc_of front)) ∙ omega (arith, front_size)

pub IsPdu-pdu_of : (payload : List ℕ) → 1 ≤ length payload → length payload ≤ 1528 → IsPdu payload (pdu_of payload)
unfolding pdu_of
IsPdu-pdu_of payload some most =
    let n : ℕ = length payload in
    let pad_size : length (replicate {A = ℕ} (48 * cells_for n - 8 - n) 0) ≡ 48 * cells_for n - 8 - n = length-replicate (48 * cells_for n - 8 - n) 0 in
    record {
      pad = replicate (48 * cells_for n - 8 - n) 0;
      uu = 0;
      is = refl;
      pad_within = omega (arith, pad_size);
      whole_cells = omega (arith, length-pdu_of payload);
      not_empty = some;
      at_most = most;
    }

-- the cells of a whole number of cells' octets
pub cells_all : (channel : Channel) (mark : Mark) (octets : List ℕ) (n : ℕ) → length octets ≡ 48 * n
    → cells_with channel mark octets ≡ map (cell_of channel mark octets) (range_with_len 0 n)
unfolding cells_with
cells_all channel mark octets n size =
    let count : length octets / 48 ≡ n = omega arith in
    ap (λ k. map (cell_of channel mark octets) (range_with_len 0 k)) count

-- what stands in `out` after the last cell
pub all_written : (channel : Channel) (mark : Mark) (pdu octets : List ℕ) (k n : ℕ) (old out : List Cell)
    → out ≡ map (cell_of channel mark pdu) (range_with_len 0 k) ++ drop k old
    → pdu ≡ octets → k ≡ n → length octets ≡ 48 * n
    → out ≡ cells_with channel mark octets ++ drop n old
all_written channel mark pdu octets k n old out is same end size =
    is ∙ (λ i. map (cell_of channel mark (same i)) (range_with_len 0 (end i)) ++ drop (end i) old)
    ∙ ap (λ l. l ++ drop n old) (sym (cells_all channel mark octets n size))

-- the payloads of those cells are the PDU
pub carried : (channel : Channel) (mark : Mark) (pdu octets : List ℕ) (k n : ℕ) (old out : List Cell)
    → out ≡ map (cell_of channel mark pdu) (range_with_len 0 k) ++ drop k old
    → pdu ≡ octets → k ≡ n → length octets ≡ 48 * n
    → flat_map (λ c. c.payload) (take n out) ≡ octets
carried channel mark pdu octets k n old out is same end size =
    ap (λ l. flat_map (λ (c : Cell). c.payload) (take n l)) is
    ∙ ap (λ m. flat_map (λ (c : Cell). c.payload) (take m (map (cell_of channel mark pdu) (range_with_len 0 k) ++ drop k old))) (sym end)
    ∙ ap (flat_map (λ (c : Cell). c.payload))
    (take_at (map (cell_of channel mark pdu) (range_with_len 0 k)) (drop k old) k (length-map-range_with_len (cell_of channel mark pdu) 0 k))
    ∙ gathered channel mark pdu k
    ∙ (λ i. take (48 * end i) (same i))
    ∙ take_all (48 * n) octets (omega arith)

-- Length and CRC are written one after the other
pub sealed : (xs len crc : List ℕ) → 8 ≤ length xs → length len ≡ 2 → length crc ≡ 4
    → put_mid (length xs - 4) (length xs - (length xs - 4)) (put_mid (length xs - 6) (length xs - 4 - (length xs - 6)) xs len) crc
    ≡ (take (length xs - 6) xs ++ len) ++ crc
sealed xs len crc room two four =
    let end : ℕ = length xs in
    let mid : List ℕ = put_mid (end - 6) (end - 4 - (end - 6)) xs len in
    let mid_size : length mid ≡ end = same_len_mid (end - 6) (end - 4 - (end - 6)) xs len (two ∙ sym (mid_len (end - 6) (end - 4) xs (omega arith) ∙ omega arith)) in
    let front : take (end - 4) mid ≡ take (end - 6) xs ++ len = take-put_mid (end - 6) (end - 4 - (end - 6)) xs len (end - 4) (omega arith) (omega arith) in
    let over : post_of (end - 4) (end - (end - 4)) mid ≡ [] = drop_all (end - (end - 4)) (drop (end - 4) mid) (omega (arith, length-drop (end - 4) mid)) in
    ap₂ (λ f l. f ++ (crc ++ l)) front over ∙ ap (λ l. (take (end - 6) xs ++ len) ++ l) (append-nil crc)

-- the CRC is computed over what stands before it
pub covered : (xs len : List ℕ) → 8 ≤ length xs → length len ≡ 2
    → take (length xs - 4) (put_mid (length xs - 6) (length xs - 4 - (length xs - 6)) xs len) ≡ take (length xs - 6) xs ++ len
covered xs len room two = take-put_mid (length xs - 6) (length xs - 4 - (length xs - 6)) xs len (length xs - 4) (omega arith) (omega arith)

-- a payload, zeros behind it and the trailer over the last of them are its PDU
pub filled : (payload old : List ℕ) → 1 ≤ length payload → old ≡ payload ++ replicate (48 * cells_for (length payload) - length payload) 0
    → (let front = take (length old - 6) old ++ to_be_bytes w16 (length payload) in front ++ to_be_bytes w32 (crc_of front)) ≡ pdu_of payload
unfolding pdu_of
filled payload old some is =
    let n : ℕ = length payload in
    let whole : ℕ = 48 * cells_for n in
    let size : length old ≡ whole
    = ap length is ∙ length-append payload (replicate (whole - n) 0) ∙ ap (λ k. n + k) (length-replicate (whole - n) 0) ∙ omega arith in
    let pad : List ℕ = replicate (whole - 8 - n) 0 in
    let zeros : replicate {A = ℕ} (whole - n) 0 ≡ pad ++ replicate 8 0
    = ap (λ k. replicate {A = ℕ} k 0) (omega arith) ∙ sym (replicate-append-replicate (whole - 8 - n) 8 0) in
    let parts : old ≡ ((payload ++ pad) ++ 0 ∷ 0 ∷ []) ++ replicate 6 0
    = is ∙ ap (λ l. payload ++ l) zeros ∙ sym (append_assoc payload pad (replicate 8 0)) ∙ sym (append_assoc (payload ++ pad) (0 ∷ 0 ∷ []) (replicate 6 0)) in
    let kept_size : length ((payload ++ pad) ++ 0 ∷ 0 ∷ []) ≡ length old - 6
    = omega (arith, ap length parts, length-append ((payload ++ pad) ++ 0 ∷ 0 ∷ []) (replicate 6 0)) in
    let kept : take (length old - 6) old ≡ (payload ++ pad) ++ 0 ∷ 0 ∷ []
    = ap (take (length old - 6)) parts ∙ take_at ((payload ++ pad) ++ 0 ∷ 0 ∷ []) (replicate 6 0) (length old - 6) kept_size in
    let front : take (length old - 6) old ++ to_be_bytes w16 n ≡ pdu_front payload pad 0
    = ap (λ l. l ++ to_be_bytes w16 n) kept ∙ append_assoc (payload ++ pad) (0 ∷ 0 ∷ []) (to_be_bytes w16 n) in
    ap (λ f. f ++ to_be_bytes w32 (crc_of f)) front

-- a part that is written whole
pub part_over : (xs bytes : List ℕ) (a e : ℕ) → a ≤ e → e ≤ length xs → length bytes ≡ e - a
    → bytes ++ drop (length bytes) (mid_of a (e - a) xs) ≡ bytes
part_over xs bytes a e order within same =
    ap (λ l. bytes ++ l) (drop_all (length bytes) (mid_of a (e - a) xs) (omega (arith, mid_len a e xs within))) ∙ append-nil bytes

-- a payload is copied to the front, and zeros fill the rest
pub cleared : (payload copied old zeros : List ℕ) → copied ≡ payload → length payload ≤ length old
    → zeros ≡ replicate (length (mid_of (length payload) (length (copied ++ drop (length payload) old) - length payload) (copied ++ drop (length payload) old))) 0
    → put_mid (length payload) (length (copied ++ drop (length payload) old) - length payload) (copied ++ drop (length payload) old) zeros
    ≡ payload ++ replicate (length old - length payload) 0
cleared payload copied old zeros is room filled_with =
    let n : ℕ = length payload in
    let front : List ℕ = copied ++ drop n old in
    let end : ℕ = length front in
    let copied_size : length copied ≡ n = ap length is in
    let front_size : end ≡ length old = omega (arith, length-append copied (drop n old), length-drop n old) in
    let middle : length (mid_of n (end - n) front) ≡ length old - n = mid_len n end front (omega arith) ∙ ap (λ k. k - n) front_size in
    let over : post_of n (end - n) front ≡ [] = drop_all (end - n) (drop n front) (omega (arith, length-drop n front)) in
    ap₂ (λ p l. p ++ (zeros ++ l)) (take_at copied (drop n old) n copied_size ∙ is) over
    ∙ ap (λ l. payload ++ l) (append-nil zeros ∙ filled_with ∙ ap (λ k. replicate {A = ℕ} k 0) middle)
