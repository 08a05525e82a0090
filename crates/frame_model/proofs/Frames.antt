-- The last of some cells, and what a test leaves

use Rattle.std.proofs.Common.{◌≡◌, refl, ℕ, zero, suc, ◌+◌, ◌-◌, ◌≤◌, List, [], ◌∷◌, length, take, slice_index_or, Option, None, Some, ap, arith}
use Rattle.atm_cells.specs.declared.cell.Cell.{Cell}
use Rattle.aal5_frames.specs.declared.check.FrameFault.{FrameFault}
use Rattle.aal5_frames.specs.Frame.{length_field}
use Rattle.frame_model.specs.Frame.{last_mark, payload_by}

-- the mark at the last place is that of the last cell
last_mark_place : (cells : List Cell) (none : Cell) (k : ℕ) → k + 1 ≡ length cells → (slice_index_or cells k none).mark ≡ last_mark cells
last_mark_place [] none k place = absurd (omega (arith, place))
last_mark_place (cell ∷ []) none zero place = refl
last_mark_place (cell ∷ []) none (suc k) place = absurd (omega (arith, place))
last_mark_place (cell ∷ next ∷ cells) none zero place = absurd (omega (arith, place))
last_mark_place (cell ∷ next ∷ cells) none (suc k) place = last_mark_place (next ∷ cells) none k (omega (arith, place))

pub last_mark_at : (cells : List Cell) (none : Cell) → 1 ≤ length cells
    → (slice_index_or cells (length cells - 1) none).mark ≡ last_mark cells
last_mark_at cells none some = last_mark_place cells none (length cells - 1) (omega (arith, some))

-- the payload of octets that no test refuses, and of those that one does
pub payload_passed : (octets : List ℕ) (fault : Option FrameFault) (n : ℕ) → ◌≡◌ {A = Option FrameFault} None fault → n ≡ length_field octets
    → ◌≡◌ {A = Option (List ℕ)} (Some (take n octets)) (payload_by octets fault)
payload_passed octets None n e len = ap (λ (k : ℕ). Some (take k octets)) len
payload_passed octets (Some fault) n e len = absurd (cc e)

pub payload_refused : (octets : List ℕ) (fault : Option FrameFault) (named : FrameFault) → ◌≡◌ {A = Option FrameFault} (Some named) fault
    → ◌≡◌ {A = Option (List ℕ)} None (payload_by octets fault)
payload_refused octets None named e = absurd (cc e)
payload_refused octets (Some fault) named e = refl
