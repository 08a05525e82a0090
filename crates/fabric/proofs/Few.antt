-- No more branches than places.

use Rattle.std.proofs.Common.{◌≡◌, ℕ, zero, suc, ◌≤◌, List, length, Some, None, sym, ap, subst, arith}
use Rattle.std.specs.Prelude.{Option}
use Rattle.std.specs.FinMap.{entries, entries-from_sorted}
use Rattle.net_types.specs.declared.channel.End.{End}
use Rattle.crossbar_model.specs.declared.branch.Branch.{Branch}
use Rattle.crossbar_model.specs.Channels.{end_cmp}
use Rattle.fabric.specs.Table.{branches_in, end_at, entries_from, entry_at, map_of, with_entry}
use Rattle.fabric.proofs.Tables.{entries_sorted}

few_with : (e : End) (o : Option Branch) (rest : List (End × Branch)) (n : ℕ) → length rest ≤ n → length (with_entry e o rest) ≤ suc n
few_with e None rest n low = omega (arith, low)
few_with e (Some b) rest n low = omega (arith, low)

few_from : (f : ℕ → Option Branch) (k n : ℕ) → length (entries_from f k n) ≤ n
few_from f k zero = omega arith
few_from f k (suc n) = few_with (end_at k) (f k) (entries_from f (suc k) n) n (few_from f (suc k) n)

few_of : (f : ℕ → Option Branch) (n : ℕ) → length (entries (map_of f n)) ≤ n
few_of f n = subst (λ (es : List (End × Branch)). length es ≤ n) (sym (entries-from_sorted end_cmp (entries_from f 0 n) (entries_sorted f 0 n))) (few_from f 0 n)

pub few_branches : (rows : List (List (Option Branch))) → length (entries (branches_in rows)) ≤ 254208
unfolding branches_in
few_branches rows = few_of (entry_at rows) 254208
