use Rattle.std.proofs.Common.{ℕ, ap, nat_eq, w64}
use Rattle.std.proofs.lemmas.Nat.Bits.{bit_at_set_other, bit_at_set_same}
use Rattle.world.proofs.node_set.NodeSet.insert.Goals as goal

pub returns : goal.returns
returns c = record {
  here = ap (λ (n : ℕ). nat_eq n 1) (bit_at_set_same w64 c.args.self.now.bits c.args.place c.requires);
  others = λ other away. ap (λ (n : ℕ). nat_eq n 1) (bit_at_set_other w64 c.args.self.now.bits c.args.place c.requires other away);
}
