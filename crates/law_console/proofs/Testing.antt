-- a cell that comes is kept, passed over, or ends a chain, which holds what its last cell's frame was made of: unless by chance

use Rattle.std.proofs.Common.{◌≡◌, ℕ, Bool, true, false, true≢false, not, List, [], ◌∷◌, ◌++◌, length, Option, None, Some, refl, sym, ◌∙◌, subst, nat_le, if◌then◌else◌}
use Rattle.world_model.specs.Words.{Mark, Cell, Loss, Chance, PoolFull, payload_of, is_frame, Journal, noted, last_mark, payload_in, tested_by, tested, Reassembly, passed_over, without_slot, too_long, most_cells, marks_of, broken}
use Rattle.world_model.specs.frame_model.Frame.{octets_of}
use Rattle.world_model.specs.frame_model.Reassembly.{Taken, taken, cell_joined}
use Rattle.law_console.proofs.Frames.{broken_frames, frame_is, last_is}
use Rattle.law_console.proofs.Views.{on_each}
use Rattle.law_console.proofs.Chances.{HasChance, IsFree, chance_noted}

-- whoever takes cells: how it is with these notes and this reassembly, and what it does with a payload
module _ {S : Type 0} (notes_of : S → Journal) (at : Reassembly → Journal → S) (reads : S → List ℕ → S) where
  abbrev pub opened : S → Option (List ℕ) → S
  opened s None = s
  opened s (Some payload) = reads s payload

  abbrev pub ended : Reassembly → Journal → List Cell → S
  ended r notes [] = at r notes
  ended r notes (cell ∷ cells) = opened (at r (tested notes (cell ∷ cells)).notes) (tested notes (cell ∷ cells)).payload

  abbrev pub after : Taken → S
  after t = ended t.reassembly t.notes t.ended

  module _ (P : S → Type 0) (first : Journal) (slot : Bool) (r : Reassembly) (cell : Cell)
      (stay : (r : Reassembly) (notes : Journal) (payload : List ℕ) → HasChance notes → HasChance (notes_of (reads (at r notes) payload)))
      (kept : (r : Reassembly) (notes : Journal) → notes.frames ≡ first.frames → P (at r notes))
      (read : (r : Reassembly) (payload : List ℕ) → payload_of first.frames cell.mark ≡ Some payload → P (reads (at r first) payload)) where
    abbrev Is : S → Type 0
    Is s = IsFree (notes_of s) → P s

    by_frame : (r : Reassembly) (mark : Mark) (payload : List ℕ) → mark ≡ cell.mark → (b : Bool) → is_frame first.frames mark payload ≡ b
        → Is (reads (at r (if b then first else noted first (Chance mark))) payload)
    by_frame r mark payload same true e free = read r payload (subst (λ (m : Mark). payload_of first.frames m ≡ Some payload) same (frame_is first.frames mark payload e))
    by_frame r mark payload same false e free = absurd (true≢false (sym (stay r (noted first (Chance mark)) payload (chance_noted first mark)) ∙ free))

    by_payload : (r : Reassembly) (cells : List Cell) → last_mark cells ≡ cell.mark → (o : Option (List ℕ)) → Is (opened (at r (tested_by first cells o).notes) (tested_by first cells o).payload)
    by_payload r cells same None free = kept r (broken first (marks_of cells)) (broken_frames (marks_of cells) first)
    by_payload r cells same (Some payload) free = by_frame r (last_mark cells) payload same (is_frame first.frames (last_mark cells) payload) refl free

    ends : (r : Reassembly) (cells : List Cell) → last_mark cells ≡ cell.mark → Is (ended r first cells)
    ends r [] same free = kept r first refl
    ends r (c ∷ cells) same free = by_payload r (c ∷ cells) same (payload_in (octets_of (c ∷ cells))) free

    pub taken_is : Is (after (taken first slot r cell))
    taken_is = on_each (λ (t : Taken). Is (after t)) r.is_skipping (passed_over first r cell) _
        (λ e free. kept (record r { is_skipping = not cell.header.last }) (broken first (cell.mark ∷ [])) (broken_frames (cell.mark ∷ []) first))
        (λ e. on_each (λ (t : Taken). Is (after t)) (not slot) (without_slot first r cell) _
        (λ f free. kept (record { chain = []; is_skipping = not cell.header.last }) (broken (noted first (Loss cell.mark PoolFull)) (marks_of r.chain)) (broken_frames (marks_of r.chain) (noted first (Loss cell.mark PoolFull))))
        (λ f. on_each (λ (t : Taken). Is (after t)) (nat_le most_cells (length r.chain)) (too_long first r cell) (cell_joined first r cell)
        (λ g free. kept (record { chain = []; is_skipping = not cell.header.last }) (broken first (marks_of (r.chain ++ cell ∷ []))) (broken_frames (marks_of (r.chain ++ cell ∷ [])) first))
        (λ g. on_each (λ (t : Taken). Is (after t)) cell.header.last
        (record { reassembly = record r { chain = [] }; notes = first; ended = r.chain ++ cell ∷ [] })
        (record { reassembly = record r { chain = r.chain ++ cell ∷ [] }; notes = first; ended = [] })
        (λ last free. ends (record r { chain = [] }) (r.chain ++ cell ∷ []) (last_is r.chain cell) free)
        (λ more free. kept (record r { chain = r.chain ++ cell ∷ [] }) first refl))))
