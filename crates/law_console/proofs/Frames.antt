-- the frames that were made: what a test tells of one, and that nothing but making changes them

use Rattle.std.proofs.Common.{◌≡◌, ◌≢◌, ℕ, Bool, true, false, cond, List, [], ◌∷◌, ◌++◌, map, Option, None, Some, refl, ◌∙◌, ap}
use Rattle.std.specs.Str.{bytes_eq}
use Rattle.std.specs.Option.{option_map_or}
use Rattle.std.proofs.lemmas.Slice.Eq.{bytes_eq-Decides}
use Rattle.world_model.specs.Words.{Mark, Cell, Frame, Record, Loss, Broken, Cut, payload_of, is_frame, has_entry, same_mark, Journal, noted, Reassembly, marks_of, broken, noted_all, distinct, cut, last_mark}
use Rattle.world_model.proofs.link_model.Latest.{payload_of_push}
use Rattle.world_model.proofs.link_model.Marks.{same_mark-Decides}

noted_frames : (notes : Journal) (items : List Record) → (noted_all notes items).frames ≡ notes.frames
noted_frames notes [] = refl
noted_frames notes (item ∷ items) = noted_frames (noted notes item) items

pub cut_frames : (notes : Journal) (r : Reassembly) → (cut notes r).frames ≡ notes.frames
cut_frames notes r = noted_frames notes (map (λ (mark : Mark). Loss mark Cut) (distinct (marks_of r.chain)))

pub broken_frames : (marks : List Mark) (notes : Journal) → (broken notes marks).frames ≡ notes.frames
broken_frames [] notes = refl
broken_frames (mark ∷ marks) notes = broken_frames marks (cond (has_entry notes.entries mark) notes (noted notes (Loss mark Broken))) ∙ by (has_entry notes.entries mark)
  where
    by : (b : Bool) → (cond b notes (noted notes (Loss mark Broken))).frames ≡ notes.frames
    by true = refl
    by false = refl

-- one that passed, and not by chance, is the one that was made under the mark of the cell that ended the chain
pub frame_is : (frames : List Frame) (mark : Mark) (payload : List ℕ) → is_frame frames mark payload ≡ true → payload_of frames mark ≡ Some payload
frame_is frames mark payload h = by (payload_of frames mark) h
  where
    by : (o : Option (List ℕ)) → option_map_or (λ kept. bytes_eq kept payload) o false ≡ true → o ≡ Some payload
    by None k = absurd (cc k)
    by (Some kept) k = ap (λ (z : List ℕ). Some z) ((bytes_eq-Decides kept payload).0 k)

pub last_is : (cells : List Cell) (cell : Cell) → last_mark (cells ++ cell ∷ []) ≡ cell.mark
last_is [] cell = refl
last_is (c ∷ []) cell = refl
last_is (c ∷ d ∷ cells) cell = last_is (d ∷ cells) cell

-- one more is made
pub made_is : (frames : List Frame) (mark : Mark) (payload : List ℕ) → payload_of (frames ++ record { mark = mark; payload = payload } ∷ []) mark ≡ Some payload
made_is frames mark payload = payload_of_push frames (record { mark = mark; payload = payload }) mark
    ∙ ap (λ b. cond b (Some payload) (payload_of frames mark)) ((same_mark-Decides mark mark).1 refl)

pub made_elsewhere : (frames : List Frame) (mark other : Mark) (payload : List ℕ) → mark ≢ other → payload_of (frames ++ record { mark = mark; payload = payload } ∷ []) other ≡ payload_of frames other
made_elsewhere frames mark other payload n = payload_of_push frames (record { mark = mark; payload = payload }) other ∙ by (same_mark mark other) refl
  where
    by : (b : Bool) → same_mark mark other ≡ b → cond b (Some payload) (payload_of frames other) ≡ payload_of frames other
    by true t = absurd (n ((same_mark-Decides mark other).0 t))
    by false t = refl
