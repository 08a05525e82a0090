use Rattle.std.proofs.Common.{◌≡◌, ℕ, ◌<◌, ◌^◌, ◌*◌, ◌%◌, ap, arith, nat_eq, w64, bit_and}
use Rattle.std.specs.Prelude.{◌≢◌}
use Rattle.std.specs.Int.{bit_at, bit_not}
use Rattle.std.proofs.lemmas.Nat.Bits.{bit_at_above, bit_at_and, bit_at_clear_other, bit_at_clear_same}
use Rattle.world.proofs.Starts.{by_less}
use Rattle.world.proofs.node_set.NodeSet.remove.Goals as goal

-- no digit stands above
others_stay : (n k : ℕ) → n < 2 ^ 64 → k < 64 → (other : ℕ) → other ≢ k → bit_at (bit_and n (bit_not w64 (1 * 2 ^ k % 2 ^ 64))) other ≡ bit_at n other
others_stay n k fits low other away = by_less other 64
    (λ h. bit_at_clear_other w64 n k low other h away)
    (λ h. (let none : bit_at n other ≡ 0 = bit_at_above n 64 other fits h in omega (arith, bit_at_and n (bit_not w64 (1 * 2 ^ k % 2 ^ 64)) other, none)))

pub returns : goal.returns
returns c = record {
  here = ap (λ (n : ℕ). nat_eq n 1) (bit_at_clear_same w64 c.args.self.now.bits c.args.place c.requires);
  others = λ other away. ap (λ (n : ℕ). nat_eq n 1) (others_stay c.args.self.now.bits c.args.place (omega arith) c.requires other away);
}
