-- The table is held against the division at each of the 256 octets, by computing.
use Rattle.std.proofs.Common.{◌≡◌, ℕ, ◌<◌, Bool, false, List, ◌++◌, map, replicate, get_or, refl, sym, ap, ◌∙◌, arith}
use Rattle.std.specs.List.{range_with_len}
use Rattle.std.proofs.lemmas.List.{get_or-map}
use Rattle.std.proofs.lemmas.List.FromFn.{get_or-map-range_with_len}
use mathlib.Core.Bool.{xor}
use Rattle.atm_cells.specs.Cell.{hec_generator}
use Rattle.atm_cells.specs.Polynomial.{plus, divided, remainder, bits}
use Rattle.atm_cells.specs.declared.hec.TheConstants.{REMAINDERS}
use Rattle.atm_cells.proofs.hec.remainder_of.Goals as goal

abbrev entry : ℕ → List Bool
entry octet = remainder hec_generator (bits 8 octet ++ replicate 8 false)

table_is : map (bits 8) REMAINDERS ≡ map entry (range_with_len 0 256)
unfolding plus divided bits xor
table_is = refl

read : (o : ℕ) → o < 256 → bits 8 (get_or REMAINDERS o 0) ≡ entry o
read o small =
    sym (get_or-map (bits 8) REMAINDERS o 0 (entry o) small)
    ∙ ap (λ t. get_or t o (entry o)) table_is
    ∙ get_or-map-range_with_len entry 0 256 o o (entry o) small (omega arith)

pub returns : goal.returns
returns c = rw c.from.ensures (read c.args.octet (omega arith))
