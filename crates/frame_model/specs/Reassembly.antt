-- What a channel makes of the cells that it takes, until a frame is whole (I.363.5 9.2). The limit of
-- slots, the skipping and the entries of the loss ledger are this project's own.

use Rattle.std.specs.Prelude.{ℕ, Bool, false, not, nat_le, List, [], ◌∷◌, ◌++◌, length, map, filter, if◌then◌else◌}
use Rattle.net_types.specs.declared.number.Mark.{Mark}
use Rattle.atm_cells.specs.declared.cell.Cell.{Cell}
use Rattle.link_model.specs.declared.record.Record.{Record}
use Rattle.link_model.specs.declared.record.Record.TheVariants.{Loss}
use Rattle.link_model.specs.declared.record.Cause.TheVariants.{PoolFull, Cut, Broken}
use Rattle.link_model.specs.Ledger.{same_mark, has_entry}
use Rattle.link_model.specs.Notes.{Journal, noted}

-- the chain: the cells of a channel since the last end, the first taken first; none is a last one.
-- A channel that skips passes over the cells up to and with the next last one.
pub record Reassembly : Type 0 where
  pub chain : List Cell
  pub is_skipping : Bool

abbrev pub nothing_taken : Reassembly
nothing_taken = record { chain = []; is_skipping = false }

-- the longest frame has 32 cells
abbrev pub most_cells : ℕ
most_cells = 32

abbrev pub marks_of : List Cell → List Mark
marks_of cells = map (λ cell. cell.mark) cells

-- each of these marks that has no entry yet gets Broken, in order
abbrev pub broken : Journal → List Mark → Journal
broken notes [] = notes
broken notes (mark ∷ marks) =
    broken (if has_entry notes.entries mark then notes else noted notes (Loss mark Broken)) marks

-- what a cell leaves: the reassembly, the notes, and the chain that a last cell ended, or no cell
pub record Taken : Type 0 where
  pub reassembly : Reassembly
  pub notes : Journal
  pub ended : List Cell

-- no cell is kept, and the channel skips up to and with the next last cell, this one included
abbrev pub skipping_from : Cell → Reassembly
skipping_from cell = record { chain = []; is_skipping = not cell.header.last }

-- the channel skips
abbrev pub passed_over : Journal → Reassembly → Cell → Taken
passed_over notes r cell = record {
  reassembly = record r { is_skipping = not cell.header.last };
  notes = broken notes (cell.mark ∷ []);
  ended = [];
}

-- no slot is free for the cell
abbrev pub without_slot : Journal → Reassembly → Cell → Taken
without_slot notes r cell = record {
  reassembly = skipping_from cell;
  notes = broken (noted notes (Loss cell.mark PoolFull)) (marks_of r.chain);
  ended = [];
}

-- the chain has 32 cells, and none is a last one
abbrev pub too_long : Journal → Reassembly → Cell → Taken
too_long notes r cell = record {
  reassembly = skipping_from cell;
  notes = broken notes (marks_of (r.chain ++ cell ∷ []));
  ended = [];
}

-- the cell stands at the chain's end; a last one ends the chain
abbrev pub cell_joined : Journal → Reassembly → Cell → Taken
cell_joined notes r cell =
    if cell.header.last
    then record { reassembly = record r { chain = [] }; notes = notes; ended = r.chain ++ cell ∷ [] }
    else record { reassembly = record r { chain = r.chain ++ cell ∷ [] }; notes = notes; ended = [] }

-- a channel takes a cell: the first of these cases that applies decides
abbrev pub taken : Journal → (has_slot : Bool) → Reassembly → Cell → Taken
taken notes has_slot r cell =
    if r.is_skipping then passed_over notes r cell
    else (if not has_slot then without_slot notes r cell
    else (if nat_le most_cells (length r.chain) then too_long notes r cell
    else cell_joined notes r cell))

-- each mark once, in the order of its first place
abbrev pub distinct : List Mark → List Mark
distinct [] = []
distinct (mark ∷ marks) = mark ∷ filter (λ other. not (same_mark mark other)) (distinct marks)

-- the records in order
abbrev pub noted_all : Journal → List Record → Journal
noted_all notes [] = notes
noted_all notes (item ∷ items) = noted_all (noted notes item) items

-- each mark of these cells gets Cut, once
abbrev pub cut_chain : Journal → List Cell → Journal
cut_chain notes cells = noted_all notes (map (λ mark. Loss mark Cut) (distinct (marks_of cells)))

-- a channel is cut, and its chain and a skipping end
abbrev pub cut : Journal → Reassembly → Journal
cut notes r = cut_chain notes r.chain
