-- whole frames without their channel

use Rattle.std.proofs.Common.{◌≡◌, ℕ, zero, suc, ◌<◌, ◌+◌, ◌-◌, ◌*◌, ◌==◌, ◌≤◌, true, false, List, [], ◌∷◌, ◌++◌, map, length, take, None, Some, refl, sym, ◌∙◌, ap, ap₂, subst, arith, add-one, zero-add, append_assoc, length-append}
use Rattle.std.specs.List.{range_with_len}
use Rattle.std.specs.Int.{w16, w32, to_be_bytes}
use Rattle.std.proofs.lemmas.Bool.Decides.{nat_tests}
use Rattle.std.proofs.lemmas.List.{take_at, take_all}
use Rattle.std.proofs.lemmas.List.FromFn.{map-range_with_len_more, length-map-range_with_len}
use Rattle.world_model.specs.Words.{Channel, Mark, Cell, frame_cells, payload_in, payload_by}
use Rattle.aal5_frames.specs.Crc.{crc_of}
use Rattle.aal5_frames.specs.Frame.{cell_of, cells_for, pdu_of, pdu_fault, pdu_front, length_field, IsPdu}
use Rattle.aal5_frames.proofs.Cells.{cells_all, gathered, length-pdu_of, IsPdu-pdu_of}
use Rattle.aal5_frames.proofs.Trailer.{pdu_passes}
use Rattle.world_model.specs.frame_model.Frame.{octets_of}
use Rattle.ordered_lists.specs.Ordered.{Every}
use Rattle.ordered_lists.proofs.Every.{every_join, every_right, every_map}
use Rattle.law_cell_lists.specs.Causes.{plain, bare}

abbrev pub IsEarly : Mark → Cell → Type 0
IsEarly mark cell = (cell.header.last ≡ false) × (cell.mark ≡ mark)

pub record IsCut (mark : Mark) (payload : List ℕ) (cells : List Cell) : Type 0 where
  pub front : List Cell
  pub final : Cell
  pub whole : cells ≡ front ++ final ∷ []
  pub early : Every (IsEarly mark) front
  pub last : final.header.last ≡ true
  pub marked : final.mark ≡ mark
  pub size : length front + 1 ≡ cells_for (length payload)

pub every_value : (P : Cell → Type 0) (f : ℕ → Cell) (n : ℕ) → ((k : ℕ) → k < n → P (f k)) → Every P (map f (range_with_len 0 n))
every_value P f zero each = tt
every_value P f (suc n) each =
    let more : map f (range_with_len 0 (suc n)) ≡ map f (range_with_len 0 n) ++ f n ∷ [] =
    ap (λ m. map f (range_with_len 0 m)) (sym (add-one n)) ∙ map-range_with_len_more f 0 n n (zero-add n) in
    subst (Every P) (sym more) (every_join P (map f (range_with_len 0 n)) (f n ∷ []) (every_value P f n (λ k low. each k (omega (arith, low)))) (each n (omega arith), tt))

pub not_last : (k n size : ℕ) → k < n → size ≡ 48 * (n + 1) → (48 * (k + 1) == size) ≡ false
not_last k n size low is = grind (arith, nat_tests)

pub is_last : (n size : ℕ) → size ≡ 48 * (n + 1) → (48 * (n + 1) == size) ≡ true
is_last n size is = grind (arith, nat_tests)

pub frame_is_cut : (mark : Mark) (payload : List ℕ) → IsCut mark payload (frame_cells plain mark payload)
frame_is_cut mark payload =
    let n : ℕ = cells_for (length payload) - 1 in
    let f : ℕ → Cell = cell_of plain mark (pdu_of payload) in
    let size : length (pdu_of payload) ≡ 48 * (n + 1) = omega (arith, length-pdu_of payload) in
    record {
      front = map f (range_with_len 0 n);
      final = f n;
      whole = cells_all plain mark (pdu_of payload) (n + 1) size ∙ map-range_with_len_more f 0 n n (zero-add n);
      early = every_value (IsEarly mark) f n (λ k low. (not_last k n (length (pdu_of payload)) low size, refl));
      last = is_last n (length (pdu_of payload)) size;
      marked = refl;
      size = omega (arith, length-map-range_with_len f 0 n);
    }

-- the cells of a frame on any channel
map_both : (f : ℕ → Cell) (g : ℕ → Cell) (ns : List ℕ) → ((k : ℕ) → bare (f k) ≡ g k) → map bare (map f ns) ≡ map g ns
map_both f g [] e = refl
map_both f g (n ∷ ns) e = ap₂ (λ (c : Cell) (l : List Cell). c ∷ l) (e n) (map_both f g ns e)

pub bare_frame : (channel : Channel) (mark : Mark) (payload : List ℕ) → map bare (frame_cells channel mark payload) ≡ frame_cells plain mark payload
bare_frame channel mark payload =
    let octets : List ℕ = pdu_of payload in
    let n : ℕ = cells_for (length payload) in
    let size : length octets ≡ 48 * n = length-pdu_of payload in
    ap (map bare) (cells_all channel mark octets n size)
    ∙ map_both (cell_of channel mark octets) (cell_of plain mark octets) (range_with_len 0 n) (λ k. refl)
    ∙ sym (cells_all plain mark octets n size)

-- all cells of a frame
pub record IsWhole (cells : List Cell) : Type 0 where
  pub mark : Mark
  pub payload : List ℕ
  pub some : 1 ≤ length payload
  pub short : length payload ≤ 1528
  pub is : cells ≡ frame_cells plain mark payload

abbrev pub IsOf : Mark → Cell → Type 0
IsOf mark cell = cell.mark ≡ mark

pub whole_marks : (cells : List Cell) (w : IsWhole cells) → Every (IsOf w.mark) cells
whole_marks cells w =
    let cut : IsCut w.mark w.payload (frame_cells plain w.mark w.payload) = frame_is_cut w.mark w.payload in
    subst (Every (IsOf w.mark)) (sym (w.is ∙ cut.whole))
    (every_join (IsOf w.mark) cut.front (cut.final ∷ []) (every_map (IsEarly w.mark) (IsOf w.mark) cut.front (λ cell early. early.1) cut.early) (cut.marked, tt))

-- the cells behind a cell of a frame have its mark
pub marks_behind : (a : List Cell) (cell : Cell) (b : List Cell) → IsWhole (a ++ cell ∷ b) → Every (IsOf cell.mark) b
marks_behind a cell b w =
    let r : Every (IsOf w.mark) (cell ∷ b) = every_right (IsOf w.mark) a (cell ∷ b) (whole_marks (a ++ cell ∷ b) w) in
    every_map (IsOf w.mark) (IsOf cell.mark) b (λ c e. e ∙ sym r.0) r.1

abbrev pub IsOpen : Cell → Type 0
IsOpen cell = cell.header.last ≡ false

behind_last : (front : List Cell) (final : Cell) (a : List Cell) (cell : Cell) (b : List Cell) → Every IsOpen front → cell.header.last ≡ true → front ++ final ∷ [] ≡ a ++ cell ∷ b → b ≡ []
behind_last [] final [] cell b early last e = sym (let h : [] ≡ b = cc in h)
behind_last [] final (x ∷ []) cell b early last e = absurd (cc e)
behind_last [] final (x ∷ y ∷ a) cell b early last e = absurd (cc e)
behind_last (x ∷ front) final [] cell b early last e =
    let same : x ≡ cell = cc in
    let clash : false ≡ true = sym early.0 ∙ ap (λ (c : Cell). c.header.last) same ∙ last in
    absurd (cc clash)
behind_last (x ∷ front) final (y ∷ a) cell b early last e = behind_last front final a cell b early.1 last cc

pub whole_ends : (a : List Cell) (cell : Cell) (b : List Cell) → IsWhole (a ++ cell ∷ b) → cell.header.last ≡ true → b ≡ []
whole_ends a cell b w last =
    let cut : IsCut w.mark w.payload (frame_cells plain w.mark w.payload) = frame_is_cut w.mark w.payload in
    behind_last cut.front cut.final a cell b (every_map (IsEarly w.mark) IsOpen cut.front (λ c e. e.0) cut.early) last (sym (w.is ∙ cut.whole))

-- something stands behind a cell that isn't the last
goes_on : (front : List Cell) (final : Cell) (a : List Cell) (cell : Cell) → final.header.last ≡ true → cell.header.last ≡ false → front ++ final ∷ [] ≡ a ++ cell ∷ [] → false ≡ true
goes_on [] final [] cell last early e = let same : final ≡ cell = cc in sym early ∙ ap (λ (c : Cell). c.header.last) (sym same) ∙ last
goes_on [] final (x ∷ []) cell last early e = absurd (cc e)
goes_on [] final (x ∷ y ∷ a) cell last early e = absurd (cc e)
goes_on (x ∷ []) final [] cell last early e = absurd (cc e)
goes_on (x ∷ y ∷ front) final [] cell last early e = absurd (cc e)
goes_on (x ∷ front) final (y ∷ a) cell last early e = goes_on front final a cell last early cc

pub open_goes_on : (a : List Cell) (cell : Cell) → IsWhole (a ++ cell ∷ []) → cell.header.last ≡ false → false ≡ true
open_goes_on a cell w early =
    let cut : IsCut w.mark w.payload (frame_cells plain w.mark w.payload) = frame_is_cut w.mark w.payload in
    goes_on cut.front cut.final a cell cut.last early (sym (w.is ∙ cut.whole))

-- a frame has at most 32 cells
pub whole_is_short : (a b : List Cell) → IsWhole (a ++ b) → length a + length b ≤ 32
whole_is_short a b w =
    let cut : IsCut w.mark w.payload (frame_cells plain w.mark w.payload) = frame_is_cut w.mark w.payload in
    let size : length a + length b ≡ length cut.front + 1 =
    sym (length-append a b) ∙ ap length (w.is ∙ cut.whole) ∙ length-append cut.front (cut.final ∷ []) in
    omega (arith, size, cut.size, w.short)

-- a whole frame passes its test
payload_front : (payload pad : List ℕ) (uu : ℕ) → take (length payload) (pdu_front payload pad uu ++ to_be_bytes w32 (crc_of (pdu_front payload pad uu))) ≡ payload
payload_front payload pad uu =
    let crc : List ℕ = to_be_bytes w32 (crc_of (pdu_front payload pad uu)) in
    let trailer : List ℕ = uu ∷ 0 ∷ to_be_bytes w16 (length payload) in
    let parts : pdu_front payload pad uu ++ crc ≡ payload ++ (pad ++ (trailer ++ crc)) =
    append_assoc (payload ++ pad) trailer crc ∙ append_assoc payload pad (trailer ++ crc) in
    ap (take (length payload)) parts ∙ take_at payload (pad ++ (trailer ++ crc)) (length payload) refl

octets_of-frame : (w : List Cell) (whole : IsWhole w) → octets_of w ≡ pdu_of whole.payload
octets_of-frame w whole =
    let octets : List ℕ = pdu_of whole.payload in
    let n : ℕ = cells_for (length whole.payload) in
    let size : length octets ≡ 48 * n = length-pdu_of whole.payload in
    ap octets_of (whole.is ∙ cells_all plain whole.mark octets n size)
    ∙ gathered plain whole.mark octets n
    ∙ take_all (48 * n) octets (omega (arith, size))

octets_bare : (cells : List Cell) → octets_of (map bare cells) ≡ octets_of cells
octets_bare [] = refl
octets_bare (c ∷ cells) = ap (λ l. c.payload ++ l) (octets_bare cells)

pub whole_passes : (cells : List Cell) (whole : IsWhole (map bare cells)) → payload_in (octets_of cells) ≡ Some whole.payload
unfolding payload_in
whole_passes cells whole =
    let octets : List ℕ = pdu_of whole.payload in
    let pdu : IsPdu whole.payload octets = IsPdu-pdu_of whole.payload whole.some (omega (arith, whole.short)) in
    let passes : (pdu_fault octets ≡ None) × (length_field octets ≡ length whole.payload) = pdu_passes whole.payload octets pdu in
    let front : take (length_field octets) octets ≡ whole.payload =
    ap (λ n. take n octets) passes.1 ∙ ap (take (length whole.payload)) pdu.is ∙ payload_front whole.payload pdu.pad pdu.uu in
    ap payload_in (sym (octets_bare cells) ∙ octets_of-frame (map bare cells) whole)
    ∙ ap (payload_by octets) passes.0
    ∙ ap Some front

-- a frame on any channel
pub whole_frame : (channel : Channel) (mark : Mark) (payload : List ℕ) → 1 ≤ length payload → length payload ≤ 1528 → IsWhole (map bare (frame_cells channel mark payload))
whole_frame channel mark payload some short = record { mark = mark; payload = payload; some = some; short = short; is = bare_frame channel mark payload }
