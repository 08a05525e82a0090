-- A chain that is taken out cell by cell.

use Rattle.std.proofs.Common.{◌≡◌, ℕ, ◌+◌, ◌<◌, List, [], ◌∷◌, ◌++◌, length, map, take, sym, ap, subst, ◌∙◌, arith}
use Rattle.std.specs.Prelude.{slice_set}
use Rattle.std.proofs.lemmas.Grind.{common_steps}
use Rattle.std.proofs.lemmas.List.{take_more_set}
use Rattle.atm_cells.specs.declared.cell.Cell.{Cell}
use Rattle.cell_pool.specs.Region.{Region, Line, cell_at, cells_of, len_of, IsLine}
use Rattle.cell_pool.specs.Shares.{IsApartFromEach, IsKeptBeside, ChangesBeside}
use Rattle.cell_pool.proofs.Drains.{IsKept-trans}
use Rattle.cell_pool.proofs.Lines.{LineChanges-refl, length-cells_of, places-empty}

pub ChangesBeside-refl : (r : Region) (ls : List Line) (q : Line) → IsLine r q → IsApartFromEach r ls q → ChangesBeside r r ls q q
ChangesBeside-refl r ls q line apart = record { chain = LineChanges-refl r q line; apart = apart }

pub ChangesBeside-trans : (a b c : Region) (ls ms : List Line) (q r s : Line) → ms ≡ ls → ChangesBeside a b ls q r → ChangesBeside b c ms r s → ChangesBeside a c ls q s
ChangesBeside-trans a b c ls ms q r s same first second = record {
  chain = record {
    threaded = second.chain.threaded;
    same_size = second.chain.same_size ∙ first.chain.same_size;
    counted = omega (arith, first.chain.counted, second.chain.counted);
    others = λ l line apart.
        let before : IsKeptBeside a b r l = first.chain.others l line apart in
        let after : IsKeptBeside b c s l = second.chain.others l before.kept.threaded before.apart in
        record { kept = IsKept-trans a b c l before.kept after.kept; apart = after.apart };
  };
  apart = subst (λ (xs : List Line). IsApartFromEach c xs s) same second.apart;
}

-- a chain without places has no cell
pub cells-empty : (r : Region) (l : Line) → len_of l ≡ 0 → cells_of r l ≡ []
cells-empty r l none = ap (map (cell_at r)) (places-empty r l none)

-- the first cells of the chain q are taken out, and r is left
pub record IsTaking (old now : Region) (ls : List Line) (q r : Line) (out : List Cell) (count len : ℕ) : Type 0 where
  pub changes : ChangesBeside old now ls q r
  pub joined : take count out ++ cells_of now r ≡ cells_of old q
  pub counted : count + len_of r ≡ len

pub taking_more : (old now new : Region) (ls ms : List Line) (q r s : Line) (out : List Cell) (count len : ℕ) (c : Cell) → count < length out → ms ≡ ls → IsTaking old now ls q r out count len → ChangesBeside now new ms r s → cells_of now r ≡ c ∷ cells_of new s
    → IsTaking old new ls q s (slice_set out count c) (count + 1) len
taking_more old now new ls ms q r s out count len c within same so_far changed popped =
    let joined : take count out ++ c ∷ cells_of new s ≡ cells_of old q = ap (λ (cs : List Cell). take count out ++ cs) (sym popped) ∙ so_far.joined in
    record {
      changes = ChangesBeside-trans old now new ls ms q r s same so_far.changes changed;
      joined = grind (arith, common_steps, take_more_set, joined, within);
      counted = omega (arith, so_far.counted, length-cells_of now r, length-cells_of new s, ap (λ (cs : List Cell). length cs) popped);
    }
