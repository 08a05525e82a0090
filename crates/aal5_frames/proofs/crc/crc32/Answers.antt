use Rattle.std.proofs.Common.{◌≡◌, ℕ, zero, suc, ◌-◌, ◌*◌, ◌/◌, ◌%◌, ◌^◌, ◌<◌, ◌≤◌, ◌==◌, true, false, not, List, ◌∷◌, ◌++◌, length, map, take, replicate, get_or, bit_xor, refl, sym, ap, ap₂, ◌∙◌, arith}
use mathlib.Core.Bool.{xor}
use Rattle.std.specs.Int.{w32, bit_at, bit_not}
use Rattle.std.proofs.lemmas.List.{take_all, take_more}
use Rattle.std.proofs.lemmas.Nat.Bits.{bit_at_not, bit_at-lt}
use Rattle.atm_cells.specs.Polynomial.{plus, divided, remainder, bits, number}
use Rattle.atm_cells.proofs.Numbers.{number-bits}
use Rattle.atm_cells.proofs.Octets.{rest, rest-push, rest-remainder, look_up}
use Rattle.aal5_frames.specs.Crc.{crc_generator, crc_of}
use Rattle.aal5_frames.proofs.crc.crc32.Goals as goal

-- one look-up
step : (r o t : ℕ) → r < 2 ^ 32
    → bits 32 t ≡ remainder crc_generator (bits 8 (bit_xor (r / 2 ^ 24) o) ++ replicate 32 false)
    → bits 32 (bit_xor (r * 2 ^ 8 % 2 ^ 32) t) ≡ divided 8 crc_generator (plus (bits 32 r) (bits 8 o ++ replicate (length crc_generator) false))
unfolding bits
step r o t small is = look_up crc_generator 24 r o t refl small is

complement_bit : (x : ℕ) → x < 2 → (1 - x == 1) ≡ not (x == 1)
complement_bit zero h = refl
complement_bit (suc zero) h = refl
complement_bit (suc (suc x)) h = absurd (omega arith)

bits-not : (k r : ℕ) → k ≤ 32 → r < 2 ^ 32 → bits k (bit_not w32 r) ≡ map not (bits k r)
unfolding bits
bits-not zero r within small = refl
bits-not (suc k) r within small =
    ap₂ ◌∷◌
    (ap (λ n. n == 1) (bit_at_not w32 r k small (omega arith)) ∙ complement_bit (bit_at r k) (bit_at-lt r k))
    (bits-not k r (omega arith) small)

-- the register after the last octet, complemented
ends : (octets : List ℕ) (r : ℕ) → r < 2 ^ 32 → bits 32 r ≡ rest crc_generator (replicate 32 true) octets → bit_not w32 r ≡ crc_of octets
unfolding bits crc_of
ends octets r small is =
    let n : ℕ = bit_not w32 r in
    let low : n ≡ n % 2 ^ 32 = omega arith in
    low ∙ sym (number-bits 32 n)
    ∙ ap number (bits-not 32 r (omega arith) small ∙ ap (map not) (is ∙ rest-remainder crc_generator (replicate 32 true) octets (omega arith)))

pub loop-octet-init : goal.loop-octet-init
unfolding rest plus divided bits xor
loop-octet-init c = refl

pub loop-octet-preserved : goal.loop-octet-preserved
loop-octet-preserved c =
    let i : ℕ = c.loop-octet.octet-index in
    let o : ℕ = get_or c.args.octets.now i 0 in
    let front : List ℕ = take i c.args.octets.now in
    step c.loop-octet.register o c.remainder_of.result (omega arith) c.remainder_of.ensures
    ∙ ap (λ l. divided 8 crc_generator (plus l (bits 8 o ++ replicate (length crc_generator) false))) c.loop-octet.invariant
    ∙ sym (rest-push crc_generator (replicate 32 true) front o)
    ∙ ap (rest crc_generator (replicate 32 true)) (sym (take_more c.args.octets.now i 0 (omega arith)))

pub returns : goal.returns
returns c =
    let all : take c.loop-octet.octet-index c.args.octets.now ≡ c.args.octets.now = take_all c.loop-octet.octet-index c.args.octets.now (omega arith) in
    ends c.args.octets.now c.loop-octet.register (omega arith) (c.loop-octet.invariant ∙ ap (rest crc_generator (replicate 32 true)) all)
