-- A cell that joins a chain, where no earlier case applies.

use Rattle.std.proofs.Common.{◌≡◌, ◌≢◌, ◌<◌, ◌≤◌, ℕ, Bool, true, false, cond, not, leb, ltb, List, length, take, IfOk, refl, sym, ap, subst, ◌∙◌, arith}
use Rattle.std.specs.Prelude.{Option, Result, Ok, Err, OnOk}
use Rattle.std.specs.Option.{option_map}
use Rattle.std.proofs.lemmas.Bool.Decides.{nat_tests}
use Rattle.net_types.specs.declared.memory.OutOfMemory.{OutOfMemory}
use Rattle.atm_cells.specs.declared.cell.Cell.{Cell}
use Rattle.link_model.specs.Notes.{Journal}
use Rattle.cell_pool.specs.Region.{Region, cells_of, len_of}
use Rattle.cell_pool.proofs.Lines.{length-cells_of}
use Rattle.frame_model.specs.Reassembly.{Reassembly, Taken, cell_joined, taken}
use Rattle.reassembly.specs.Receipt.{Gathering, reassembly_in, received_by}

else_is : {A : Type 0} (b : Bool) (x y : A) → b ≡ false → cond b x y ≡ y
else_is true x y e = absurd (cc e)
else_is false x y e = refl

takes : (notes : Journal) (has_slot : Bool) (r : Reassembly) (cell : Cell) → r.is_skipping ≡ false → has_slot ≡ true → leb 32 (length r.chain) ≡ false → cell_joined notes r cell ≡ taken notes has_slot r cell
takes notes has_slot r cell skips has few =
    sym (else_is r.is_skipping _ _ skips ∙ else_is (not has_slot) _ _ (ap not has) ∙ else_is (leb 32 (length r.chain)) _ _ few)

pub takes_joined : (notes : Journal) (free : ℕ) (region : Region) (g h : Gathering) (cell : Cell) → h ≡ g → h.is_skipping ≡ false → free ≢ 0 → len_of h.chain ≤ 32 → len_of h.chain ≢ 32 → cell_joined notes (reassembly_in region g) cell ≡ taken notes (ltb 0 free) (reassembly_in region g) cell
takes_joined notes free region g h cell same skips some most short =
    let chain = ap (λ (x : Gathering). len_of x.chain) same in
    let count = length-cells_of region g.chain in
    let less : length (cells_of region g.chain) < 32 = omega (arith, chain, count, most, short) in
    takes notes (ltb 0 free) (reassembly_in region g) cell (sym (ap (λ (x : Gathering). x.is_skipping) same) ∙ skips) (grind (arith, nat_tests, some)) (grind (arith, nat_tests, less))

module _ (result : Result (Option ℕ) OutOfMemory) (t u : Taken) (e : u ≡ t) where
  pub reassembly_by : (r : Reassembly) → r ≡ u.reassembly → OnOk result (r ≡ t.reassembly)
  reassembly_by r is = on_ok result (is ∙ ap (λ (x : Taken). x.reassembly) e)
    where
      on_ok : {P : Type 0} (o : Result (Option ℕ) OutOfMemory) → P → OnOk o P
      on_ok (Ok len) p = p
      on_ok (Err error) p = tt

  pub notes_by : (notes : Journal) → OnOk result (notes ≡ (received_by u).notes) → OnOk result (notes ≡ (received_by t).notes)
  notes_by notes is = subst (λ (x : Taken). OnOk result (notes ≡ (received_by x).notes)) e is

  pub payload_by : (out : List ℕ) → IfOk result (λ len. option_map (λ n. take n out) len ≡ (received_by u).payload) → IfOk result (λ len. option_map (λ n. take n out) len ≡ (received_by t).payload)
  payload_by out is = subst (λ (x : Taken). IfOk result (λ len. option_map (λ n. take n out) len ≡ (received_by x).payload)) e is
