use Rattle.std.proofs.Common.{◌≡◌, length}
use Rattle.reassembly.proofs.Chains.{IsTaking}
use Rattle.reassembly.proofs.chain.take_all.Given as goal

abbrev pub invariant-loop-place : goal.invariant-loop-place
invariant-loop-place g l = record {
  taking : IsTaking (g.S.ChainStore.region l.fn.store) (g.S.ChainStore.region l.store) (g.S.ChainStore.lines l.fn.store) l.fn.chain l.chain l.out l.place (length l.fn.out);
  room : length l.out ≡ length l.fn.out;
  lines : g.S.ChainStore.lines l.store ≡ g.S.ChainStore.lines l.fn.store;
  rest : g.S.ChainStore.rest l.store ≡ g.S.ChainStore.rest l.fn.store;
}
