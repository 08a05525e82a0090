use Rattle.std.proofs.Common.{◌≡◌, ℕ, ◌-◌, ◌<◌, ◌≤◌, length, get_or}
use Rattle.std.specs.Vec.{vec_capacity}
use Rattle.cell_pool.specs.Region.{Region, len_of, IsLine}
use Rattle.frame_model.specs.Reassembly.{nothing_taken}
use Rattle.reassembly.specs.Receipt.{Gathering, reassembly_in}
use Rattle.controller_link.proofs.store.Store.open.Given as goal

abbrev pub invariant-loop-chains : goal.invariant-loop-chains
invariant-loop-chains l = record {
  few : length l.chains.items ≤ l.count;
  room : l.count ≤ vec_capacity l.chains;
  lines : (r : Region) (k : ℕ) (d : Gathering) → k < length l.chains.items → IsLine r (get_or l.chains.items k d).chain;
  empty : (k : ℕ) (d : Gathering) → k < length l.chains.items → len_of (get_or l.chains.items k d).chain ≡ 0;
  nothing : (r : Region) (k : ℕ) (d : Gathering) → k < length l.chains.items → reassembly_in r (get_or l.chains.items k d) ≡ nothing_taken;
}

abbrev pub decreases-loop-chains : goal.decreases-loop-chains
decreases-loop-chains l = l.count - length l.chains.items
