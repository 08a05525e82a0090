-- the frame numbers of lists of cells

use Rattle.std.proofs.Common.{◌≡◌, ℕ, zero, suc, ◌/◌, ◌≤◌, Bool, true, false, List, [], ◌∷◌, ◌++◌, length, drop, map, slice_set, slice_index_or, refl, subst, arith, if◌then◌else◌}
use Rattle.std.specs.List.{range_with_len}
use Rattle.std.specs.Prelude.{not, nat_le}
use Rattle.world_model.specs.Words.{Channel, Mark, Cell, Journal, frame_cells, last_mark, Reassembly, passed_over, without_slot, too_long, most_cells}
use Rattle.world_model.specs.aal5_frames.Frame.{cells_with, cell_of, pdu_of}
use Rattle.world_model.specs.frame_model.Reassembly.{Taken, taken, cell_joined}
use Rattle.ordered_lists.specs.Ordered.{Every}
use Rattle.law_actor_pace.specs.Pace.{IsUpTo, AreUpTo, AreAllUpTo}

-- either way of a test
pub on_both : {A : Type 0} (P : A → Type 0) (b : Bool) (x y : A) → P x → P y → P (if b then x else y)
on_both P true x y p q = p
on_both P false x y p q = q

-- *Lists*
pub every_less : (less most : ℕ) → less ≤ most → (cells : List Cell) → AreUpTo less cells → AreUpTo most cells
every_less less most le [] h = tt
every_less less most le (cell ∷ cells) h = (omega (arith, h.0, le), every_less less most le cells h.1)

pub all_less : (less most : ℕ) → less ≤ most → (queues : List (List Cell)) → AreAllUpTo less queues → AreAllUpTo most queues
all_less less most le [] h = tt
all_less less most le (queue ∷ queues) h = (every_less less most le queue h.0, all_less less most le queues h.1)

pub every_drop : {A : Type 0} (P : A → Type 0) (n : ℕ) (xs : List A) → Every P xs → Every P (drop n xs)
every_drop P zero xs h = h
every_drop P (suc n) [] h = tt
every_drop P (suc n) (x ∷ xs) h = every_drop P n xs h.1

pub every_set : {A : Type 0} (P : A → Type 0) (xs : List A) (i : ℕ) (y : A) → Every P xs → P y → Every P (slice_set xs i y)
every_set P [] i y h p = tt
every_set P (x ∷ xs) zero y h p = (p, h.1)
every_set P (x ∷ xs) (suc i) y h p = (h.0, every_set P xs i y h.1 p)

pub every_at : {A : Type 0} (P : A → Type 0) (xs : List A) (i : ℕ) (d : A) → Every P xs → P d → P (slice_index_or xs i d)
every_at P [] i d h p = p
every_at P (x ∷ xs) zero d h p = h.0
every_at P (x ∷ xs) (suc i) d h p = every_at P xs i d h.1 p

every_mapped : {A B : Type 0} (P : B → Type 0) (f : A → B) (xs : List A) → ((x : A) → P (f x)) → Every P (map f xs)
every_mapped P f [] each = tt
every_mapped P f (x ∷ xs) each = (each x, every_mapped P f xs each)

-- *A frame*
pub frame_up_to : (most : ℕ) (channel : Channel) (mark : Mark) (payload : List ℕ) → mark.frame ≤ most → AreUpTo most (frame_cells channel mark payload)
unfolding cells_with
frame_up_to most channel mark payload low =
    every_mapped (IsUpTo most) (cell_of channel mark (pdu_of payload)) (range_with_len 0 (length (pdu_of payload) / 48)) (λ k. low)

-- *A chain that a cell ended* counts as the cell's frame
last_mark_push : (cells : List Cell) (cell : Cell) → last_mark (cells ++ cell ∷ []) ≡ cell.mark
last_mark_push [] cell = refl
last_mark_push (first ∷ []) cell = refl
last_mark_push (first ∷ next ∷ cells) cell = last_mark_push (next ∷ cells) cell

abbrev IsOfLast : Cell → List Cell → Type 0
IsOfLast cell [] = Unit {0}
IsOfLast cell (first ∷ cells) = last_mark (first ∷ cells) ≡ cell.mark

push_last : (cells : List Cell) (cell : Cell) → IsOfLast cell (cells ++ cell ∷ [])
push_last [] cell = refl
push_last (first ∷ cells) cell = last_mark_push (first ∷ cells) cell

pub ended_last : (notes : Journal) (has_slot : Bool) (r : Reassembly) (cell : Cell) (first : Cell) (cells : List Cell)
    → (taken notes has_slot r cell).ended ≡ first ∷ cells → last_mark (first ∷ cells) ≡ cell.mark
ended_last notes has_slot r cell first cells e = subst (IsOfLast cell) e each
  where
    each : IsOfLast cell (taken notes has_slot r cell).ended
    each = on_both (λ (t : Taken). IsOfLast cell t.ended) r.is_skipping (passed_over notes r cell)
        (if not has_slot then without_slot notes r cell else (if nat_le most_cells (length r.chain) then too_long notes r cell else cell_joined notes r cell)) tt
        (on_both (λ (t : Taken). IsOfLast cell t.ended) (not has_slot) (without_slot notes r cell)
        (if nat_le most_cells (length r.chain) then too_long notes r cell else cell_joined notes r cell) tt
        (on_both (λ (t : Taken). IsOfLast cell t.ended) (nat_le most_cells (length r.chain)) (too_long notes r cell) (cell_joined notes r cell) tt
        (on_both (λ (t : Taken). IsOfLast cell t.ended) cell.header.last
        (record { reassembly = record r { chain = [] }; notes = notes; ended = r.chain ++ cell ∷ [] })
        (record { reassembly = record r { chain = r.chain ++ cell ∷ [] }; notes = notes; ended = [] })
        (push_last r.chain cell) tt)))
