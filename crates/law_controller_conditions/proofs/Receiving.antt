-- a channel takes a cell, and then a frame that it ended acts

use Rattle.std.proofs.Common.{◌≡◌, Bool, List, [], ◌∷◌, ◌++◌, length, Some, refl, ◌∙◌, ap, if◌then◌else◌, inl, inr}
use Rattle.std.specs.Prelude.{◌⊎◌, not, nat_le, nat_lt}
use Rattle.law_controller.specs.world_model.Words.{Cell, Journal, Tested, tested, last_mark, Reassembly, most_cells, passed_over, without_slot, too_long, ForGsmp, ForDefault, ForLabel, reassembly_of, with_reassembly, taker_of, takes_cell}
use Rattle.law_controller.specs.world_model.frame_model.Reassembly.{Taken, cell_joined, taken}
use Rattle.reassembly.specs.Receipt.{ended}
use Rattle.law_controller.proofs.law_port_facts.Keyed.{on_both}
use Rattle.law_controller.specs.world_model.Controller.{Acted, free_slots}
use Rattle.law_controller.specs.world_model.Cells.{Taker, opened_frame, ends_frame, cell_comes}
use Rattle.controller_router.specs.Cells.{receipt}
use Rattle.law_controller_conditions.specs.Cells.{after_receipt}

-- *A chain that is ended* ends with its last cell
last_of : (cells : List Cell) (cell : Cell) → last_mark (cells ++ cell ∷ []) ≡ cell.mark
last_of [] cell = refl
last_of (x ∷ []) cell = refl
last_of (x ∷ y ∷ cells) cell = last_of (y ∷ cells) cell

abbrev EndsWith : Cell → List Cell → Type 0
EndsWith cell cells = (cells ≡ []) ⊎ (last_mark cells ≡ cell.mark)

taken_ends : (notes : Journal) (has_slot : Bool) (r : Reassembly) (cell : Cell) → EndsWith cell (taken notes has_slot r cell).ended
taken_ends notes has_slot r cell = on_both (λ (t : Taken). EndsWith cell t.ended) r.is_skipping (passed_over notes r cell) (if not has_slot then without_slot notes r cell else (if nat_le most_cells (length r.chain) then too_long notes r cell else cell_joined notes r cell)) (inl refl)
    (on_both (λ (t : Taken). EndsWith cell t.ended) (not has_slot) (without_slot notes r cell) (if nat_le most_cells (length r.chain) then too_long notes r cell else cell_joined notes r cell) (inl refl)
    (on_both (λ (t : Taken). EndsWith cell t.ended) (nat_le most_cells (length r.chain)) (too_long notes r cell) (cell_joined notes r cell) (inl refl)
    (on_both (λ (t : Taken). EndsWith cell t.ended) cell.header.last (record { reassembly = record r { chain = [] }; notes = notes; ended = r.chain ++ cell ∷ [] }) (record { reassembly = record r { chain = r.chain ++ cell ∷ [] }; notes = notes; ended = [] })
    (inr (last_of r.chain cell)) (inl refl))))

-- *The frame* that it ended
frame_acts : (a : Acted) (taker : Taker) (cell : Cell) (notes : Journal) (r : Reassembly) (c : Cell) (cells : List Cell) → last_mark (c ∷ cells) ≡ cell.mark
    → ends_frame (with_reassembly (record a { notes = notes }) taker r) taker (c ∷ cells)
    ≡ opened_frame (with_reassembly (record a { notes = (tested notes (c ∷ cells)).notes }) taker r) taker cell.mark (tested notes (c ∷ cells)).payload
frame_acts a ForGsmp cell notes r c cells is = (let test : Tested = tested notes (c ∷ cells) in ap (λ m. opened_frame (with_reassembly (record a { notes = test.notes }) ForGsmp r) ForGsmp m test.payload) is)
frame_acts a (ForDefault linked) cell notes r c cells is = (let test : Tested = tested notes (c ∷ cells) in
    ap (λ m. opened_frame (with_reassembly (record a { notes = test.notes }) (ForDefault linked) r) (ForDefault linked) m test.payload) is)
frame_acts a (ForLabel linked label) cell notes r c cells is = (let test : Tested = tested notes (c ∷ cells) in
    ap (λ m. opened_frame (with_reassembly (record a { notes = test.notes }) (ForLabel linked label) r) (ForLabel linked label) m test.payload) is)

none_ended : (c : Cell) (cells : List Cell) → c ∷ cells ≡ [] → ⊥
none_ended c cells e = cc

acts_by : (a : Acted) (taker : Taker) (cell : Cell) (notes : Journal) (r : Reassembly) (cells : List Cell) → EndsWith cell cells
    → ends_frame (with_reassembly (record a { notes = notes }) taker r) taker cells
    ≡ opened_frame (with_reassembly (record a { notes = (ended notes cells).notes }) taker r) taker cell.mark (ended notes cells).payload
acts_by a taker cell notes r [] ends = refl
acts_by a taker cell notes r (c ∷ cells) (inl none) = absurd (none_ended c cells none)
acts_by a taker cell notes r (c ∷ cells) (inr is) = frame_acts a taker cell notes r c cells is

pub cell_acts : (a : Acted) (cell : Cell) (taker : Taker) → taker_of a.controller cell.header.channel ≡ Some taker → cell_comes a cell ≡ after_receipt a taker cell.mark (receipt a taker cell)
cell_acts a cell taker e =
    let t : Taken = taken a.notes (nat_lt 0 (free_slots a.controller)) (reassembly_of a.controller taker) cell in
    ap (takes_cell a cell) e ∙ acts_by a taker cell t.notes t.reassembly t.ended (taken_ends a.notes (nat_lt 0 (free_slots a.controller)) (reassembly_of a.controller taker) cell)
