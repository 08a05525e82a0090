use Rattle.std.proofs.Common.{◌≡◌}
use Rattle.cell_pool.specs.Region.{len_of}
use Rattle.cell_pool.proofs.Pairs.{AreTwo}
use Rattle.switch_tests.proofs.cell_pool_tests.two_chains_share_a_region.Given as goal

abbrev pub invariant-loop-k : goal.invariant-loop-k
invariant-loop-k g l = record {
  two : AreTwo l.pool l.odd l.even;
  odd : len_of l.odd ≡ l.k;
  even : len_of l.even ≡ l.k;
}

abbrev pub invariant-loop-k-2 : goal.invariant-loop-k-2
invariant-loop-k-2 g l = AreTwo l.pool l.odd l.even
