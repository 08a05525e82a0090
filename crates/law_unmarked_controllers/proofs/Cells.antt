-- cells, chains and tests without marks

use Rattle.std.proofs.Common.{◌≡◌, ℕ, ◌/◌, Bool, true, false, List, [], ◌∷◌, ◌++◌, length, map, Option, None, Some, refl, sym, ◌∙◌, ap, subst, if◌then◌else◌}
use Rattle.std.specs.Prelude.{not, nat_le}
use Rattle.std.specs.List.{range_with_len}
use Rattle.world_model.specs.Words.{Channel, Mark, Cell, Journal, frame_cells, payload_in, tested, tested_by, Reassembly, passed_over, without_slot, too_long, most_cells}
use Rattle.aal5_frames.specs.Frame.{cells_with, cell_of, pdu_of}
use Rattle.world_model.specs.frame_model.Frame.{octets_of}
use Rattle.world_model.specs.frame_model.Reassembly.{Taken, taken, cell_joined}
use Rattle.law_unmarked_controllers.specs.Unmarked.{no_mark, unmarked_cell, unmarked_cells, unmarked_reassembly}
use Rattle.law_unmarked_controllers.proofs.Lists.{length_same, map_join, map_then}

-- *Taken twice*, marks are gone as they are at once
pub cells_twice : (cells : List Cell) → unmarked_cells (unmarked_cells cells) ≡ unmarked_cells cells
cells_twice cells = map_then unmarked_cell unmarked_cell unmarked_cell (λ cell. refl) cells

pub gathered_twice : (r : Reassembly) → unmarked_reassembly (unmarked_reassembly r) ≡ unmarked_reassembly r
gathered_twice r = λ i. record r { chain = cells_twice r.chain i }

pub queues_twice : (queues : List (List Cell)) → map unmarked_cells (map unmarked_cells queues) ≡ map unmarked_cells queues
queues_twice queues = map_then unmarked_cells unmarked_cells unmarked_cells cells_twice queues

-- *A frame* under any mark
pub frame_same : (channel : Channel) (mark : Mark) (payload : List ℕ) → unmarked_cells (frame_cells channel mark payload) ≡ frame_cells channel no_mark payload
unfolding cells_with
frame_same channel mark payload = map_then (cell_of channel mark (pdu_of payload)) unmarked_cell (cell_of channel no_mark (pdu_of payload)) (λ k. refl) (range_with_len 0 (length (pdu_of payload) / 48))

pub frame_length : (channel : Channel) (mark : Mark) (payload : List ℕ) → length (frame_cells channel mark payload) ≡ length (frame_cells channel no_mark payload)
frame_length channel mark payload = sym (length_same unmarked_cell (frame_cells channel mark payload)) ∙ ap length (frame_same channel mark payload)

-- *A chain's octets*
pub octets_same : (cells : List Cell) → octets_of (unmarked_cells cells) ≡ octets_of cells
octets_same [] = refl
octets_same (cell ∷ cells) = ap (λ (octets : List ℕ). cell.payload ++ octets) (octets_same cells)

pub payload_tested : (notes : Journal) (cells : List Cell) → (tested notes cells).payload ≡ payload_in (octets_of cells)
payload_tested notes cells = by (payload_in (octets_of cells))
  where
    by : (o : Option (List ℕ)) → (tested_by notes cells o).payload ≡ o
    by None = refl
    by (Some payload) = refl

pub tested_same : (notes other : Journal) (cells : List Cell) → (tested other (unmarked_cells cells)).payload ≡ (tested notes cells).payload
tested_same notes other cells = payload_tested other (unmarked_cells cells) ∙ ap payload_in (octets_same cells) ∙ sym (payload_tested notes cells)

-- *A cell is taken*: the same is kept of it, and the same chain ends
pub record AreTakenAlike (one other : Taken) : Type 0 where
  pub kept : other.reassembly ≡ unmarked_reassembly one.reassembly
  pub ended : other.ended ≡ unmarked_cells one.ended

taken_by : (notes other : Journal) (has_slot long : Bool) (r : Reassembly) (cell : Cell)
    → (let u : Reassembly = unmarked_reassembly r in
    let c : Cell = unmarked_cell cell in
    AreTakenAlike (if r.is_skipping then passed_over notes r cell else (if not has_slot then without_slot notes r cell else (if long then too_long notes r cell else cell_joined notes r cell)))
    (if u.is_skipping then passed_over other u c else (if not has_slot then without_slot other u c else (if long then too_long other u c else cell_joined other u c))))
taken_by notes other has_slot long r cell = by r.is_skipping has_slot long cell.header.last
  where
    u : Reassembly
    u = unmarked_reassembly r

    c : Cell
    c = unmarked_cell cell

    by : (skips slot full last : Bool)
        → AreTakenAlike (if skips then passed_over notes r cell else (if not slot then without_slot notes r cell else (if full then too_long notes r cell else (if last then record { reassembly = record r { chain = [] }; notes = notes; ended = r.chain ++ cell ∷ [] } else record { reassembly = record r { chain = r.chain ++ cell ∷ [] }; notes = notes; ended = [] }))))
        (if skips then passed_over other u c else (if not slot then without_slot other u c else (if full then too_long other u c else (if last then record { reassembly = record u { chain = [] }; notes = other; ended = u.chain ++ c ∷ [] } else record { reassembly = record u { chain = u.chain ++ c ∷ [] }; notes = other; ended = [] }))))
    by true slot full last = record { kept = refl; ended = refl }
    by false false full last = record { kept = refl; ended = refl }
    by false true true last = record { kept = refl; ended = refl }
    by false true false true = record { kept = refl; ended = sym (map_join unmarked_cell r.chain (cell ∷ [])) }
    by false true false false = record { kept = (λ i. record r { chain = sym (map_join unmarked_cell r.chain (cell ∷ [])) i }); ended = refl }

pub taken_same : (notes other : Journal) (has_slot : Bool) (r : Reassembly) (cell : Cell) → AreTakenAlike (taken notes has_slot r cell) (taken other has_slot (unmarked_reassembly r) (unmarked_cell cell))
taken_same notes other has_slot r cell = subst To (ap (nat_le most_cells) (sym (length_same unmarked_cell r.chain))) (taken_by notes other has_slot (nat_le most_cells (length r.chain)) r cell)
  where
    u : Reassembly
    u = unmarked_reassembly r

    c : Cell
    c = unmarked_cell cell

    To : Bool → Type 0
    To long = AreTakenAlike (taken notes has_slot r cell)
        (if u.is_skipping then passed_over other u c else (if not has_slot then without_slot other u c else (if long then too_long other u c else cell_joined other u c)))
