-- what an event does to the stretch of a channel

use Rattle.std.proofs.Common.{◌≡◌, ℕ, suc, Bool, true, false, true≢false, not, List, [], ◌∷◌, ◌++◌, length, Option, None, Some, refl, sym, ◌∙◌, ap, ap₂, arith, ◌⊎◌, inl, inr, if◌then◌else◌}
use Rattle.std.specs.Prelude.{◌==◌, ◌&&◌, ◌||◌, nat_lt, nat_le, is_some, option_map}
use Rattle.std.specs.Option.{option_and_then}
use Rattle.std.proofs.lemmas.Bool.Decides.{nat_tests}
use Rattle.law_cell_lists.specs.world_model.Words.{NodeId, Place, Down, Up, Out, Channel, Cell, Journal, Reassembly, passed_over, without_slot, too_long, nothing_taken, most_cells, Takes, IsCut, stretch_from, Controller, default_channel, taker_of, reassembly_of, same_channel, World, controller_at, OfController, OfSwitch, reassembly_at, has_slot, cell_for, arrival, taken_at, left_by, is_nothing, cut_turn, cell_turn, turns_at}
use Rattle.law_cell_lists.specs.world_model.frame_model.Reassembly.{taken}
use Rattle.law_cell_lists.specs.world_model.Cells as cells
use Rattle.law_cell_lists.specs.world_model.Stretches.{Reassembler}
use Rattle.law_cell_lists.specs.world_model.network_model.declared.event.Event.{Event}
use Rattle.law_causes.proofs.Spots.{Spot}
use Rattle.law_causes.proofs.Ends.{has_cells, chain_in, open_in, taken_chain}

-- *Stretches by list*
abbrev pub stretch_at : (Reassembler → List Cell) → Place → Channel → List Cell
stretch_at begun (Up m) channel = begun (OfController m channel)
stretch_at begun (Down m) channel = if same_channel channel default_channel then begun (OfSwitch m) else []
stretch_at begun (Out m p) channel = []

abbrev pub stretches : (Reassembler → List Cell) → Spot → List Cell
stretches begun s = stretch_at begun s.place s.channel

abbrev pub if_open : Bool → Reassembly → Option Reassembly
if_open b r = if b then Some r else None

-- what is made of a channel's cells at a controller
pub reassembly_is : (w : World) (n : NodeId) (c : Controller) (channel : Channel) → controller_at w n ≡ Some c → reassembly_at w (OfController n channel) ≡ if_open (open_in c.ports channel) (chain_in c.reassembly c.ports channel)
reassembly_is w n c channel found =
    ap (λ (o : Option Controller). option_and_then (λ (x : Controller). option_map (reassembly_of x) (taker_of x channel)) o) found ∙ by (taker_of c channel) refl
  where
    by : (o : Option cells.Taker) → taker_of c channel ≡ o → option_map (reassembly_of c) o ≡ if_open (is_some o) (chain_in c.reassembly c.ports channel)
    by None e = refl
    by (Some taker) e = ap Some (taken_chain c channel taker e)

-- *Nothing*
nothing_test : (r : Reassembly) → is_nothing (Some r) ≡ not (has_cells r)
nothing_test r = by r.is_skipping r.chain
  where
    some : (n : ℕ) → nat_lt 0 (suc n) ≡ true
    some n = grind (arith, nat_tests)

    none : (n : ℕ) → (suc n == 0) ≡ false
    none n = grind (arith, nat_tests)

    by : (v : Bool) (cells : List Cell) → ((length cells == 0) && not v) ≡ not (v || nat_lt 0 (length cells))
    by true [] = refl
    by true (c ∷ cells) = ap (λ (x : Bool). x && false) (none (length cells))
    by false [] = refl
    by false (c ∷ cells) = ap (λ (x : Bool). x && true) (none (length cells)) ∙ ap not (sym (some (length cells)))

pub nothing_open : (v : Bool) (r : Reassembly) → (has_cells r ≡ true → v ≡ true) → is_nothing (if_open v r) ≡ not (has_cells r)
nothing_open true r opens = nothing_test r
nothing_open false r opens = by (has_cells r) refl
  where
    by : (x : Bool) → has_cells r ≡ x → true ≡ not x
    by true e = absurd (true≢false (sym (opens e)))
    by false e = refl

-- *A cut*, or none
pub cut_or_not : (first now : List Cell) (x y : Reassembly) (left after : Bool) → (has_cells x ≡ true → left ≡ true) → (has_cells y ≡ true → after ≡ true) → (has_cells x ≡ false → first ≡ [])
    → ((now ≡ first) × (y ≡ x)) ⊎ ((now ≡ []) × (y ≡ nothing_taken)) → now ≡ stretch_from first (cut_turn (if_open left x) (if_open after y))
cut_or_not first now x y left after opened opens none since =
    by (has_cells x) refl since ∙ sym (ap (stretch_from first) (λ i. if nothing_open after y opens i && not (nothing_open left x opened i) then IsCut ∷ [] else []))
  where
    by : (v : Bool) → has_cells x ≡ v → ((now ≡ first) × (y ≡ x)) ⊎ ((now ≡ []) × (y ≡ nothing_taken)) → now ≡ stretch_from first (if not (has_cells y) && not (not (has_cells x)) then IsCut ∷ [] else [])
    by true e (inl both) = both.0 ∙ sym (ap (stretch_from first) (ap₂ (λ (a b : Bool). if not a && not (not b) then IsCut ∷ [] else []) (ap has_cells both.1 ∙ e) e))
    by false e (inl both) = both.0 ∙ sym (ap (stretch_from first) (ap₂ (λ (a b : Bool). if not a && not (not b) then IsCut ∷ [] else []) (ap has_cells both.1 ∙ e) e))
    by true e (inr both) = both.0 ∙ sym (ap (stretch_from first) (ap₂ (λ (a b : Bool). if not a && not (not b) then IsCut ∷ [] else []) (ap has_cells both.1) e))
    by false e (inr both) = both.0 ∙ sym (none e) ∙ sym (ap (stretch_from first) (ap₂ (λ (a b : Bool). if not a && not (not b) then IsCut ∷ [] else []) (ap has_cells both.1) e))

pub no_cut : (first : List Cell) (r : Option Reassembly) → stretch_from first (cut_turn r r) ≡ first
no_cut first r = by (is_nothing r)
  where
    by : (v : Bool) → stretch_from first (if v && not v then IsCut ∷ [] else []) ≡ first
    by true = refl
    by false = refl

-- *No cell comes*
pub turns_without : (w after : World) (event : Event) (taker : Reassembler) → cell_for taker (arrival w event) ≡ None → turns_at w event after taker ≡ cut_turn (reassembly_at w taker) (reassembly_at after taker)
turns_without w after event taker none =
    ap (λ (o : Option Cell). cell_turn (reassembly_at w taker) o ++ cut_turn (left_by (reassembly_at w taker) (taken_at w taker (reassembly_at w taker) o)) (reassembly_at after taker)) none ∙ by (reassembly_at w taker)
  where
    by : (r : Option Reassembly) → cell_turn r None ++ cut_turn (left_by r (taken_at w taker r None)) (reassembly_at after taker) ≡ cut_turn r (reassembly_at after taker)
    by None = refl
    by (Some r) = refl

-- nobody takes it
pub turns_untaken : (w after : World) (event : Event) (taker : Reassembler) → reassembly_at w taker ≡ None → turns_at w event after taker ≡ cut_turn None (reassembly_at after taker)
turns_untaken w after event taker none =
    ap (λ (r : Option Reassembly). cell_turn r (cell_for taker (arrival w event)) ++ cut_turn (left_by r (taken_at w taker r (cell_for taker (arrival w event)))) (reassembly_at after taker)) none ∙ by (cell_for taker (arrival w event))
  where
    by : (c : Option Cell) → cell_turn None c ++ cut_turn (left_by None (taken_at w taker None c)) (reassembly_at after taker) ≡ cut_turn None (reassembly_at after taker)
    by None = refl
    by (Some c) = refl

-- *A cell comes*
pub turns_with : (w after : World) (event : Event) (taker : Reassembler) (r : Reassembly) (c : Cell) → reassembly_at w taker ≡ Some r → cell_for taker (arrival w event) ≡ Some c
    → turns_at w event after taker ≡ Takes c ∷ cut_turn (Some (taken w.notes (has_slot w taker) r c).reassembly) (reassembly_at after taker)
turns_with w after event taker r c is comes =
    ap₂ (λ (x : Option Reassembly) (o : Option Cell). cell_turn x o ++ cut_turn (left_by x (taken_at w taker x o)) (reassembly_at after taker)) is comes

-- what a cell leaves doesn't go by the notes
pub same_left : (one other : Journal) (slot : Bool) (r : Reassembly) (c : Cell) → ((taken one slot r c).reassembly ≡ (taken other slot r c).reassembly) × ((taken one slot r c).ended ≡ (taken other slot r c).ended)
same_left one other slot r c = by r.is_skipping slot (nat_le most_cells (length r.chain)) c.header.last
  where
    by : (a b d e : Bool) → ((if a then passed_over one r c else (if not b then without_slot one r c else (if d then too_long one r c else (if e then record { reassembly = record r { chain = [] }; notes = one; ended = r.chain ++ c ∷ [] } else record { reassembly = record r { chain = r.chain ++ c ∷ [] }; notes = one; ended = [] })))).reassembly
        ≡ (if a then passed_over other r c else (if not b then without_slot other r c else (if d then too_long other r c else (if e then record { reassembly = record r { chain = [] }; notes = other; ended = r.chain ++ c ∷ [] } else record { reassembly = record r { chain = r.chain ++ c ∷ [] }; notes = other; ended = [] })))).reassembly)
        × ((if a then passed_over one r c else (if not b then without_slot one r c else (if d then too_long one r c else (if e then record { reassembly = record r { chain = [] }; notes = one; ended = r.chain ++ c ∷ [] } else record { reassembly = record r { chain = r.chain ++ c ∷ [] }; notes = one; ended = [] })))).ended
        ≡ (if a then passed_over other r c else (if not b then without_slot other r c else (if d then too_long other r c else (if e then record { reassembly = record r { chain = [] }; notes = other; ended = r.chain ++ c ∷ [] } else record { reassembly = record r { chain = r.chain ++ c ∷ [] }; notes = other; ended = [] })))).ended)
    by true b d e = (refl, refl)
    by false false d e = (refl, refl)
    by false true true e = (refl, refl)
    by false true false true = (refl, refl)
    by false true false false = (refl, refl)

-- a chain ends at a last cell, and what is noted stays
pub taken_ends : (notes : Journal) (slot : Bool) (r : Reassembly) (c : Cell) → ((taken notes slot r c).ended ≡ [])
    ⊎ (((taken notes slot r c).ended ≡ r.chain ++ c ∷ []) × (((taken notes slot r c).notes ≡ notes) × ((c.header.last ≡ true) × (r.is_skipping ≡ false))))
taken_ends notes slot r c = by r.is_skipping slot (nat_le most_cells (length r.chain)) c.header.last refl refl
  where
    by : (a b d e : Bool) → r.is_skipping ≡ a → c.header.last ≡ e
        → ((if a then passed_over notes r c else (if not b then without_slot notes r c else (if d then too_long notes r c else (if e then record { reassembly = record r { chain = [] }; notes = notes; ended = r.chain ++ c ∷ [] } else record { reassembly = record r { chain = r.chain ++ c ∷ [] }; notes = notes; ended = [] })))).ended ≡ [])
        ⊎ (((if a then passed_over notes r c else (if not b then without_slot notes r c else (if d then too_long notes r c else (if e then record { reassembly = record r { chain = [] }; notes = notes; ended = r.chain ++ c ∷ [] } else record { reassembly = record r { chain = r.chain ++ c ∷ [] }; notes = notes; ended = [] })))).ended ≡ r.chain ++ c ∷ [])
        × (((if a then passed_over notes r c else (if not b then without_slot notes r c else (if d then too_long notes r c else (if e then record { reassembly = record r { chain = [] }; notes = notes; ended = r.chain ++ c ∷ [] } else record { reassembly = record r { chain = r.chain ++ c ∷ [] }; notes = notes; ended = [] })))).notes ≡ notes) × ((c.header.last ≡ true) × (r.is_skipping ≡ false))))
    by true b d e s l = inl refl
    by false false d e s l = inl refl
    by false true true e s l = inl refl
    by false true false true s l = inr (refl, (refl, (l, s)))
    by false true false false s l = inl refl
