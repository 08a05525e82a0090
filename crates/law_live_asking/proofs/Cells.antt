-- a cell comes to a controller: it ends no frame, or one that acts

use Rattle.std.proofs.Common.{◌≡◌, ℕ, Bool, true, false, not, List, [], ◌∷◌, ◌++◌, append-nil, length, Option, None, Some, refl, sym, ◌∙◌, ap, subst, if◌then◌else◌}
use Rattle.std.specs.Prelude.{nat_lt, nat_le}
use Rattle.world_model.specs.Words.{Mark, Cell, Loss, Unbound, Chance, Journal, noted, payload_in, last_mark, tested_by, Reassembly, nothing_taken, ForGsmp, ForDefault, ForLabel, taker_of, reassembly_of, with_reassembly, frame_holds, takes_cell}
use Rattle.world_model.specs.frame_model.Frame.{octets_of, passed_test}
use Rattle.world_model.specs.frame_model.Reassembly.{Taken, taken, most_cells, passed_over, without_slot, too_long}
use Rattle.world_model.specs.link_model.Ledger.{is_frame}
use Rattle.world_model.specs.Controller.{Acted, free_slots, note}
use Rattle.world_model.specs.Cells.{Taker, after_test, ends_frame, cell_comes}
use Rattle.law_live_lasting.proofs.law_port_facts.Keyed.{on_both}
use Rattle.law_live_lasting.proofs.law_run_facts.law_actor_pace.Cells.{ended_last}
use Rattle.law_live_asking.proofs.Still.{IsThere, taker_there}

-- *A cell is taken*: where it ends a chain nothing of that is left, and nothing is noted
module _ (r : Reassembly) (cell : Cell) where
  abbrev by_tests : Journal → (skips full long last : Bool) → Taken
  by_tests notes skips full long last =
      if skips then passed_over notes r cell
      else (if full then without_slot notes r cell
      else (if long then too_long notes r cell
      else (if last then record { reassembly = record r { chain = [] }; notes = notes; ended = r.chain ++ cell ∷ [] }
      else record { reassembly = record r { chain = r.chain ++ cell ∷ [] }; notes = notes; ended = [] })))

  record LeavesNone (notes : Journal) (t : Taken) : Type 0 where
    reassembly : t.reassembly ≡ nothing_taken
    notes_same : t.notes ≡ notes

  leaves_none : (notes : Journal) (slot : Bool) (first : Cell) (rest : List Cell) → (taken notes slot r cell).ended ≡ first ∷ rest → LeavesNone notes (taken notes slot r cell)
  leaves_none notes slot first rest = by r.is_skipping refl (not slot) (nat_le most_cells (length r.chain)) cell.header.last
    where
      by : (skips : Bool) → r.is_skipping ≡ skips → (full long last : Bool) → (by_tests notes skips full long last).ended ≡ first ∷ rest → LeavesNone notes (by_tests notes skips full long last)
      by true is full long last e = absurd (cc e)
      by false is true long last e = absurd (cc e)
      by false is false true last e = absurd (cc e)
      by false is false false true e = record { reassembly = λ i. record { chain = []; is_skipping = is i }; notes_same = refl }
      by false is false false false e = absurd (cc e)

module _ (a : Acted) (cell : Cell) where
  abbrev pub gathered : Journal → Taker → Reassembly → Acted
  gathered notes taker r = with_reassembly (record a { notes = notes }) taker r

  noted_later : (notes later : Journal) (taker : Taker) (r : Reassembly) → record (gathered notes taker r) { notes = later } ≡ gathered later taker r
  noted_later notes later ForGsmp r = refl
  noted_later notes later (ForDefault linked) r = refl
  noted_later notes later (ForLabel linked label) r = refl

  pub noted_so : (notes : Journal) (taker : Taker) (r : Reassembly) → (gathered notes taker r).notes ≡ notes
  noted_so notes ForGsmp r = refl
  noted_so notes (ForDefault linked) r = refl
  noted_so notes (ForLabel linked label) r = refl

  abbrev pub told : Taker → Taken
  told taker = taken a.notes (nat_lt 0 (free_slots a.controller)) (reassembly_of a.controller taker) cell

  -- *It ends a frame* at its taker
  pub record Ends (taker : Taker) (payload : List ℕ) : Type 0 where
    pub takes : taker_of a.controller cell.header.channel ≡ Some taker
    pub first : Cell
    pub rest : List Cell
    pub ended : (told taker).ended ≡ first ∷ rest
    pub passes : payload_in (octets_of (first ∷ rest)) ≡ Some payload

  -- so it is told by what becomes of the controller
  module _ (P : Acted → Type 0) (unbound : P (note a (Loss cell.mark Unbound)))
      (quiet : (notes : Journal) (taker : Taker) (r : Reassembly) → IsThere a.controller taker → P (gathered notes taker r))
      (acts : (notes : Journal) (taker : Taker) (payload : List ℕ) → notes.entries ≡ a.notes.entries → Ends taker payload → P (frame_holds (gathered notes taker nothing_taken) taker cell.mark payload)) where
    passed_same : (notes : Journal) (mark : Mark) (payload : List ℕ) → (passed_test notes mark payload).entries ≡ notes.entries
    passed_same notes mark payload = on_both (λ (n : Journal). n.entries ≡ notes.entries) (is_frame notes.frames mark payload) notes (noted notes (Chance mark)) refl (append-nil notes.entries)

    module _ (taker : Taker) (takes : taker_of a.controller cell.header.channel ≡ Some taker) where
      abbrev t : Taken
      t = told taker

      there : IsThere a.controller taker
      there = taker_there a.controller cell.header.channel taker takes

      tests : (first : Cell) (rest : List Cell) → t.ended ≡ first ∷ rest → (o : Option (List ℕ)) → payload_in (octets_of (first ∷ rest)) ≡ o
          → P (after_test (gathered t.notes taker t.reassembly) taker (last_mark (first ∷ rest)) (tested_by (gathered t.notes taker t.reassembly).notes (first ∷ rest) o))
      tests first rest is None passes = subst P (sym (noted_later t.notes later taker t.reassembly)) (quiet later taker t.reassembly there)
        where
          later : Journal
          later = (tested_by (gathered t.notes taker t.reassembly).notes (first ∷ rest) None).notes
      tests first rest is (Some payload) passes = subst (λ (b : Acted). P (frame_holds b taker (last_mark (first ∷ rest)) payload)) (sym (noted_later t.notes later taker t.reassembly))
          (subst (λ (mark : Mark). P (frame_holds (gathered later taker t.reassembly) taker mark payload))
          (sym (ended_last a.notes (nat_lt 0 (free_slots a.controller)) (reassembly_of a.controller taker) cell first rest is))
          (subst (λ (r : Reassembly). P (frame_holds (gathered later taker r) taker cell.mark payload)) (sym left.reassembly)
          (acts later taker payload entries (record { takes = takes; first = first; rest = rest; ended = is; passes = passes }))))
        where
          later : Journal
          later = passed_test (gathered t.notes taker t.reassembly).notes (last_mark (first ∷ rest)) payload

          left : LeavesNone (reassembly_of a.controller taker) cell a.notes t
          left = leaves_none (reassembly_of a.controller taker) cell a.notes (nat_lt 0 (free_slots a.controller)) first rest is

          entries : later.entries ≡ a.notes.entries
          entries = passed_same (gathered t.notes taker t.reassembly).notes (last_mark (first ∷ rest)) payload
              ∙ (ap (λ (n : Journal). n.entries) (noted_so t.notes taker t.reassembly) ∙ ap (λ (n : Journal). n.entries) left.notes_same)

      ends : (cells : List Cell) → t.ended ≡ cells → P (ends_frame (gathered t.notes taker t.reassembly) taker cells)
      ends [] is = quiet t.notes taker t.reassembly there
      ends (first ∷ rest) is = tests first rest is (payload_in (octets_of (first ∷ rest))) refl

    pub cell_by : P (cell_comes a cell)
    cell_by = by (taker_of a.controller cell.header.channel) refl
      where
        by : (o : Option Taker) → taker_of a.controller cell.header.channel ≡ o → P (takes_cell a cell o)
        by None found = unbound
        by (Some taker) found = ends taker found (told taker).ended refl
