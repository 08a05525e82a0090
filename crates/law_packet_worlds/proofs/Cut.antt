-- the cells of a frame: all but the last one are no last cells, and all have its mark

use Rattle.std.proofs.Common.{◌≡◌, ℕ, ◌+◌, ◌-◌, ◌*◌, ◌==◌, true, false, cond, List, [], ◌∷◌, ◌++◌, map, length, refl, ◌∙◌, ap, arith, zero-add}
use Rattle.std.specs.List.{range_with_len}
use Rattle.std.proofs.lemmas.List.FromFn.{map-range_with_len_more, length-map-range_with_len}
use Rattle.law_arrival_views.specs.world_model.Words.{Channel, Mark, Cell, frame_cells}
use Rattle.law_arrival_views.specs.aal5_frames.Frame.{cell_of, cells_for, pdu_of}
use Rattle.law_arrival_views.proofs.aal5_frames.Cells.{cells_all, length-pdu_of}
use Rattle.law_arrival_views.specs.ordered_lists.Ordered.{Every}
use Rattle.law_packet_worlds.proofs.Lists.{count_by-append, count_by-cons, count_by-skip}
use Rattle.law_run_facts.specs.law_world_views.Marks.{ends, ends_in}
use Rattle.law_unused_labels.proofs.law_cell_lists.Frames.{every_value, not_last, is_last}

-- one where the numbers are the same, and else nothing
abbrev pub one : ℕ → ℕ → ℕ
one n k = cond (n == k) 1 0

-- a cell of this mark that is no last one
abbrev pub IsEarly : Channel → Mark → Cell → Type 0
IsEarly channel mark cell = (cell.header.last ≡ false) × (cell.mark ≡ mark) × (cell.header.channel ≡ channel)

-- these are the cells of a frame
pub record IsCut (channel : Channel) (mark : Mark) (payload : List ℕ) (cells : List Cell) : Type 0 where
  pub front : List Cell
  pub final : Cell
  pub whole : cells ≡ front ++ final ∷ []
  pub early : Every (IsEarly channel mark) front
  pub last : final.header.last ≡ true
  pub marked : final.mark ≡ mark
  pub goes : final.header.channel ≡ channel
  pub size : length front + 1 ≡ cells_for (length payload)

pub frame_is_cut : (channel : Channel) (mark : Mark) (payload : List ℕ) → IsCut channel mark payload (frame_cells channel mark payload)
frame_is_cut channel mark payload =
    let n : ℕ = cells_for (length payload) - 1 in
    let f : ℕ → Cell = cell_of channel mark (pdu_of payload) in
    let size : length (pdu_of payload) ≡ 48 * (n + 1) = omega (arith, length-pdu_of payload) in
    record {
      front = map f (range_with_len 0 n);
      final = f n;
      whole = cells_all channel mark (pdu_of payload) (n + 1) size ∙ map-range_with_len_more f 0 n n (zero-add n);
      early = every_value (IsEarly channel mark) f n (λ k low. (not_last k n (length (pdu_of payload)) low size, refl, refl));
      last = is_last n (length (pdu_of payload)) size;
      marked = refl;
      goes = refl;
      size = omega (arith, length-map-range_with_len f 0 n);
    }

-- cells that are no last ones are no packet's last ones
ends_not : (k : ℕ) (cell : Cell) → cell.header.last ≡ false → ends k cell ≡ false
ends_not k cell e = rw e refl

pub count_early : (k : ℕ) (channel : Channel) (mark : Mark) (cells : List Cell) → Every (IsEarly channel mark) cells → ends_in k cells ≡ 0
count_early k channel mark [] each = refl
count_early k channel mark (cell ∷ cells) each =
    count_by-skip (ends k) cell cells (ends_not k cell each.0.0) ∙ count_early k channel mark cells each.1

-- each frame has one last cell
pub count_frame : (k : ℕ) (channel : Channel) (mark : Mark) (payload : List ℕ) (cells : List Cell) → IsCut channel mark payload cells → ends_in k cells ≡ one mark.packet k
count_frame k channel mark payload cells cut =
    let final : ends k cut.final ≡ (mark.packet == k) = rw (cut.last, cut.marked) refl in
    let value : cond (ends k cut.final) 1 0 ≡ one mark.packet k = ap (λ b. cond b 1 0) final in
    ap (ends_in k) cut.whole ∙ omega (arith, count_by-append (ends k) cut.front (cut.final ∷ []), count_by-cons (ends k) cut.final [], count_early k channel mark cut.front cut.early, value)
