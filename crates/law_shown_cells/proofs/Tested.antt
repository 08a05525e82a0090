-- what is noted where a channel takes a cell, and where a chain is tested or cut, leaves the frames that were made; and what a
-- test tells of a frame

use Rattle.std.proofs.Common.{◌≡◌, ℕ, Bool, true, false, List, [], ◌∷◌, ◌++◌, length, map, Option, None, Some, refl, ◌∙◌, ap, if◌then◌else◌}
use Rattle.std.specs.Prelude.{not, nat_le}
use Rattle.std.specs.Str.{bytes_eq}
use Rattle.std.specs.Option.{option_map_or}
use Rattle.std.proofs.lemmas.Slice.Eq.{bytes_eq-Decides}
use Rattle.world_model.specs.Words.{Mark, Cell, Frame, Record, Loss, Chance, PoolFull, Broken, Cut, payload_of, is_frame, has_entry, Journal, noted, Reassembly, passed_over, without_slot, too_long, most_cells, marks_of, broken, noted_all, distinct, cut, last_mark, tested_by}
use Rattle.world_model.specs.frame_model.Reassembly.{Taken, taken, cell_joined}
use Rattle.world_model.specs.frame_model.Frame.{passed_test}

-- *The frames stay*
noted_frames : (notes : Journal) (items : List Record) → (noted_all notes items).frames ≡ notes.frames
noted_frames notes [] = refl
noted_frames notes (item ∷ items) = noted_frames (noted notes item) items

pub cut_frames : (notes : Journal) (r : Reassembly) → (cut notes r).frames ≡ notes.frames
cut_frames notes r = noted_frames notes (map (λ (mark : Mark). Loss mark Cut) (distinct (marks_of r.chain)))

pub broken_frames : (marks : List Mark) (notes : Journal) → (broken notes marks).frames ≡ notes.frames
broken_frames [] notes = refl
broken_frames (mark ∷ marks) notes = broken_frames marks (if has_entry notes.entries mark then notes else noted notes (Loss mark Broken))
    ∙ by (has_entry notes.entries mark)
  where
    by : (b : Bool) → (if b then notes else noted notes (Loss mark Broken)).frames ≡ notes.frames
    by true = refl
    by false = refl

pub passed_frames : (notes : Journal) (mark : Mark) (payload : List ℕ) → (passed_test notes mark payload).frames ≡ notes.frames
passed_frames notes mark payload = by (is_frame notes.frames mark payload)
  where
    by : (b : Bool) → (if b then notes else noted notes (Chance mark)).frames ≡ notes.frames
    by true = refl
    by false = refl

pub tested_frames : (notes : Journal) (cells : List Cell) (o : Option (List ℕ)) → (tested_by notes cells o).notes.frames ≡ notes.frames
tested_frames notes cells None = broken_frames (marks_of cells) notes
tested_frames notes cells (Some payload) = passed_frames notes (last_mark cells) payload

pub taken_frames : (notes : Journal) (slot : Bool) (r : Reassembly) (cell : Cell) → (taken notes slot r cell).notes.frames ≡ notes.frames
taken_frames notes slot r cell = either r.is_skipping (passed_over notes r cell) _ (broken_frames (cell.mark ∷ []) notes)
    (either (not slot) (without_slot notes r cell) _ (broken_frames (marks_of r.chain) (noted notes (Loss cell.mark PoolFull)))
    (either (nat_le most_cells (length r.chain)) (too_long notes r cell) (cell_joined notes r cell) (broken_frames (marks_of (r.chain ++ cell ∷ [])) notes)
    (either cell.header.last (record { reassembly = record r { chain = [] }; notes = notes; ended = r.chain ++ cell ∷ [] }) (record { reassembly = record r { chain = r.chain ++ cell ∷ [] }; notes = notes; ended = [] }) refl refl)))
  where
    Same : Taken → Type 0
    Same t = t.notes.frames ≡ notes.frames

    either : (b : Bool) (t u : Taken) → Same t → Same u → Same (if b then t else u)
    either true t u p q = p
    either false t u p q = q

-- a frame that passed, and not by chance, is the one that was made
pub frame_is : (frames : List Frame) (mark : Mark) (payload : List ℕ) → is_frame frames mark payload ≡ true → payload_of frames mark ≡ Some payload
frame_is frames mark payload h = by (payload_of frames mark) h
  where
    by : (o : Option (List ℕ)) → option_map_or (λ kept. bytes_eq kept payload) o false ≡ true → o ≡ Some payload
    by None k = absurd (cc k)
    by (Some kept) k = ap (λ (z : List ℕ). Some z) ((bytes_eq-Decides kept payload).0 k)

-- its mark is that of the cell that ended the chain
pub last_is : (cells : List Cell) (cell : Cell) → last_mark (cells ++ cell ∷ []) ≡ cell.mark
last_is [] cell = refl
last_is (c ∷ []) cell = refl
last_is (c ∷ d ∷ cells) cell = last_is (d ∷ cells) cell
