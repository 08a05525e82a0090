use Rattle.std.proofs.Common.{◌≡◌, ℕ, ◌+◌, ◌-◌, ◌/◌, ◌%◌, ◌^◌, ◌≤◌, ◌<◌, ap, arith, nat_eq, w64, sym, ◌∙◌}
use Rattle.std.specs.Int.{bit_at, trailing_zeros}
use Rattle.std.proofs.lemmas.Nat.{shr-shr, shr_le}
use Rattle.std.proofs.lemmas.Nat.Bits.{bit_at-trailing_zeros, bit_at-zero}
use Rattle.world.proofs.node_set.NodeSet.first_in.Goals as goal

-- a digit, where the lower ones are cut off
cut : (n from place : ℕ) → from ≤ place → bit_at n place ≡ bit_at (n / 2 ^ from) (place - from)
cut n from place low =
    let is : place ≡ from + (place - from) = omega (arith, low) in
    ap (bit_at n) is ∙ sym (ap (λ (m : ℕ). m % 2) (shr-shr n from (place - from)))

lowest : (n from : ℕ) → n < 2 ^ 64 → 0 < n / 2 ^ from
    → (trailing_zeros w64 (n / 2 ^ from) < 64) × (bit_at (n / 2 ^ from) (trailing_zeros w64 (n / 2 ^ from)) ≡ 1) × ((i : ℕ) → i < trailing_zeros w64 (n / 2 ^ from) → bit_at (n / 2 ^ from) i ≡ 0)
lowest n from fits some = bit_at-trailing_zeros w64 (n / 2 ^ from) some (omega (arith, shr_le n from, fits))

pub returns-then-behind-eq0 : goal.returns-then-behind-eq0
returns-then-behind-eq0 c = λ place low high.
    ap (λ (n : ℕ). nat_eq n 1) (cut c.args.self.now.bits c.args.from place low ∙ ap (λ (m : ℕ). bit_at m (place - c.args.from)) c.if-behind-eq0.true ∙ bit_at-zero (place - c.args.from))

pub returns-then-place-end : goal.returns-then-place-end
returns-then-place-end c =
    let n : ℕ = c.args.self.now.bits in
    let z = lowest n c.args.from (omega arith) (omega (arith, c.if-behind-eq0.false)) in (
      omega arith,
      c.if-place-end.true,
      ap (λ (m : ℕ). nat_eq m 1) (sym (ap (λ (m : ℕ). m % 2) (shr-shr n c.args.from (trailing_zeros w64 (n / 2 ^ c.args.from)))) ∙ z.1),
      λ place low high. ap (λ (m : ℕ). nat_eq m 1) (cut n c.args.from place low ∙ z.2 (place - c.args.from) (omega (arith, low, high))),
    )

pub returns-else-place-end : goal.returns-else-place-end
returns-else-place-end c =
    let n : ℕ = c.args.self.now.bits in
    let z = lowest n c.args.from (omega arith) (omega (arith, c.if-behind-eq0.false)) in
    λ place low high. ap (λ (m : ℕ). nat_eq m 1) (cut n c.args.from place low ∙ z.2 (place - c.args.from) (omega (arith, low, high, c.if-place-end.false)))
