-- frames are made under free marks, and records are noted that bind nothing

use Rattle.std.proofs.Common.{◌≡◌, ◌≢◌, ℕ, ◌+◌, Bool, List, [], ◌∷◌, ◌++◌, Option, None, Some, refl, sym, ◌∙◌, ap, arith, if◌then◌else◌, map}
use Rattle.std.specs.Option.{option_or}
use Rattle.law_world_pace.specs.world_model.Words.{Mark, Frame, Record, Loss, Chance, PoolFull, Broken, Cut, payload_of, has_entry, is_frame, Journal, noted, tested, tested_by, payload_in, last_mark, Reassembly, passed_over, without_slot, too_long, most_cells, marks_of, broken, noted_all, distinct, cut, bound_by, last_bound, Cell}
use Rattle.law_world_pace.specs.world_model.frame_model.Frame.{octets_of}
use Rattle.law_world_pace.specs.world_model.frame_model.Reassembly.{Taken, taken, cell_joined}
use Rattle.law_controller_bindings.proofs.law_port_facts.Keyed.{on_both}
use Rattle.law_world_pace.specs.world_model.network_model.declared.link.LinkEnd.{LinkEnd}
use Rattle.std.specs.Prelude.{not, nat_le, length}
use Rattle.law_run_facts.specs.Frames.{IsFree, Stay, BindsNone}
use Rattle.law_world_views.proofs.law_shown_cells.Made.{made_elsewhere}

-- *Frames*: the number of the next one is free
pub free_next : (controls : ℕ) (frames : List Frame) (payload : List ℕ) → IsFree controls frames
    → IsFree (controls + 1) (frames ++ record { mark = record { packet = 0; frame = controls + 1 }; payload = payload } ∷ [])
free_next controls frames payload h k less =
    made_elsewhere frames (record { packet = 0; frame = controls + 1 }) (record { packet = 0; frame = k }) payload (λ e. differs (ap (λ (m : Mark). m.frame) e)) ∙ h k (omega (arith, less))
  where
    differs : controls + 1 ≡ k → ⊥
    differs e = absurd (omega (arith, less, e))

pub free_packet : (controls : ℕ) (mark : Mark) (frames : List Frame) (payload : List ℕ) → mark.packet ≢ 0 → IsFree controls frames
    → IsFree controls (frames ++ record { mark = mark; payload = payload } ∷ [])
free_packet controls mark frames payload n h k less =
    made_elsewhere frames mark (record { packet = 0; frame = k }) payload (λ e. n (ap (λ (m : Mark). m.packet) e)) ∙ h k less

-- a frame of a mark that was free at first
pub stay_more : (first frames : List Frame) (mark : Mark) (payload : List ℕ) → payload_of first mark ≡ None → Stay first frames
    → Stay first (frames ++ record { mark = mark; payload = payload } ∷ [])
stay_more first frames mark payload free h other old e =
    made_elsewhere frames mark other payload (λ same. never same) ∙ h other old e
  where
    never : mark ≡ other → ⊥
    never same = absurd (cc (e, free, same))

-- *Records*
pub bound_then : (xs ys : List Record) (end : LinkEnd) (label : ℕ) → last_bound (xs ++ ys) end label ≡ option_or (last_bound ys end label) (last_bound xs end label)
bound_then [] ys end label = sym (or_none (last_bound ys end label))
  where
    or_none : {A : Type 0} (o : Option A) → option_or o None ≡ o
    or_none None = refl
    or_none (Some x) = refl
bound_then (x ∷ xs) ys end label = ap (λ o. option_or o (bound_by end label x)) (bound_then xs ys end label) ∙ either (last_bound ys end label) (last_bound xs end label) (bound_by end label x)
  where
    either : {A : Type 0} (o p q : Option A) → option_or (option_or o p) q ≡ option_or o (option_or p q)
    either None p q = refl
    either (Some x) p q = refl

-- one that binds nothing
pub noted_binds : (notes : Journal) (item : Record) → ((end : LinkEnd) (label : ℕ) → bound_by end label item ≡ None) → BindsNone notes.records (noted notes item).records
noted_binds notes item none end label = bound_then notes.records (item ∷ []) end label ∙ ap (λ o. option_or (option_or None o) (last_bound notes.records end label)) (none end label)

pub binds_then : (a b c : List Record) → BindsNone a b → BindsNone b c → BindsNone a c
binds_then a b c f g end label = g end label ∙ f end label

loss_binds : (notes : Journal) (mark : Mark) → BindsNone notes.records (noted notes (Loss mark Broken)).records
loss_binds notes mark = noted_binds notes (Loss mark Broken) (λ end label. refl)

broken_binds : (marks : List Mark) (notes : Journal) → BindsNone notes.records (broken notes marks).records
broken_binds [] notes end label = refl
broken_binds (mark ∷ marks) notes end label = broken_binds marks (if has_entry notes.entries mark then notes else noted notes (Loss mark Broken)) end label
    ∙ on_both (λ (n : Journal). last_bound n.records end label ≡ last_bound notes.records end label) (has_entry notes.entries mark) notes (noted notes (Loss mark Broken)) refl (loss_binds notes mark end label)

cuts_bind : (marks : List Mark) (notes : Journal) → BindsNone notes.records (noted_all notes (map (λ mark. Loss mark Cut) marks)).records
cuts_bind [] notes end label = refl
cuts_bind (mark ∷ marks) notes end label = cuts_bind marks (noted notes (Loss mark Cut)) end label ∙ noted_binds notes (Loss mark Cut) (λ e l. refl) end label

pub cut_binds : (notes : Journal) (r : Reassembly) → BindsNone notes.records (cut notes r).records
cut_binds notes r = cuts_bind (distinct (marks_of r.chain)) notes

pub taken_binds : (notes : Journal) (slot : Bool) (r : Reassembly) (cell : Cell) → BindsNone notes.records (taken notes slot r cell).notes.records
taken_binds notes slot r cell end label = on_both Same r.is_skipping (passed_over notes r cell) _ (broken_binds (cell.mark ∷ []) notes end label)
    (on_both Same (not slot) (without_slot notes r cell) _ (broken_binds (marks_of r.chain) (noted notes (Loss cell.mark PoolFull)) end label ∙ noted_binds notes (Loss cell.mark PoolFull) (λ e l. refl) end label)
    (on_both Same (nat_le most_cells (length r.chain)) (too_long notes r cell) (cell_joined notes r cell) (broken_binds (marks_of (r.chain ++ cell ∷ [])) notes end label)
    (on_both Same cell.header.last (record { reassembly = record r { chain = [] }; notes = notes; ended = r.chain ++ cell ∷ [] }) (record { reassembly = record r { chain = r.chain ++ cell ∷ [] }; notes = notes; ended = [] }) refl refl)))
  where
    Same : Taken → Type 0
    Same t = last_bound t.notes.records end label ≡ last_bound notes.records end label

pub tested_binds : (notes : Journal) (cells : List Cell) → BindsNone notes.records (tested notes cells).notes.records
tested_binds notes cells end label = by (payload_in (octets_of cells))
  where
    by : (o : Option (List ℕ)) → last_bound (tested_by notes cells o).notes.records end label ≡ last_bound notes.records end label
    by None = broken_binds (marks_of cells) notes end label
    by (Some payload) = on_both (λ (n : Journal). last_bound n.records end label ≡ last_bound notes.records end label) (is_frame notes.frames (last_mark cells) payload) notes (noted notes (Chance (last_mark cells))) refl
        (noted_binds notes (Chance (last_mark cells)) (λ e l. refl) end label)
