use Rattle.std.proofs.Common.{◌≡◌, ℕ, ◌+◌, ◌*◌, ◌/◌, ◌%◌, ◌^◌, ◌<◌, false, List, [], ◌++◌, length, take, replicate, get_or, bit_xor, refl, sym, ap, ◌∙◌, arith}
use Rattle.std.proofs.lemmas.List.{take_all, take_more}
use Rattle.std.proofs.lemmas.Nat.{xor_lt}
use Rattle.atm_cells.specs.Cell.{coset, hec_generator, hec_of}
use Rattle.atm_cells.specs.Polynomial.{plus, divided, remainder, bits, number}
use Rattle.atm_cells.proofs.Numbers.{bits-xor, number-bits}
use Rattle.atm_cells.proofs.Octets.{rest, rest-push, rest-remainder, look_up}
use Rattle.atm_cells.proofs.hec.hec.Goals as goal

-- one look-up, where the whole register leaves
step : (r o t : ℕ) → r < 2 ^ 8
    → bits 8 t ≡ remainder hec_generator (bits 8 (bit_xor r o) ++ replicate 8 false)
    → bits 8 t ≡ divided 8 hec_generator (plus (bits 8 r) (bits 8 o ++ replicate (length hec_generator) false))
unfolding bits
step r o t small is =
    let whole : r / 2 ^ 0 ≡ r = omega arith in
    let gone : r * 2 ^ 8 % 2 ^ (8 + 0) ≡ 0 = omega arith in
    ap (λ n. bits 8 (bit_xor n t)) (sym gone)
    ∙ look_up hec_generator 0 r o t refl small (is ∙ ap (λ n. divided 8 hec_generator (bits 8 (bit_xor n o) ++ replicate 8 false)) (sym whole))

-- the register after the last octet, with the coset
ends : (front : List ℕ) (r : ℕ) → r < 2 ^ 8 → bits 8 r ≡ rest hec_generator [] front → bit_xor r 85 ≡ hec_of front
unfolding plus bits hec_of
ends front r small is =
    let n : ℕ = bit_xor r 85 in
    let fits : n < 2 ^ 8 = xor_lt 8 r 85 small (omega arith) in
    let low : n ≡ n % 2 ^ 8 = omega arith in
    low ∙ sym (number-bits 8 n)
    ∙ ap number (bits-xor 8 r 85 ∙ ap (λ l. plus l coset) (is ∙ rest-remainder hec_generator [] front (omega arith)))

pub loop-octet-init : goal.loop-octet-init
unfolding rest plus divided bits
loop-octet-init c = refl

pub loop-octet-preserved : goal.loop-octet-preserved
loop-octet-preserved c =
    let i : ℕ = c.loop-octet.octet-index in
    let o : ℕ = get_or c.args.header.now i 0 in
    let front : List ℕ = take i c.args.header.now in
    step c.loop-octet.remainder o c.remainder_of-remainder.result (omega arith) c.remainder_of-remainder.ensures
    ∙ ap (λ l. divided 8 hec_generator (plus l (bits 8 o ++ replicate (length hec_generator) false))) c.loop-octet.invariant
    ∙ sym (rest-push hec_generator [] front o)
    ∙ ap (rest hec_generator []) (sym (take_more c.args.header.now i 0 (omega arith)))

pub returns : goal.returns
returns c =
    let all : take c.loop-octet.octet-index c.args.header.now ≡ c.args.header.now = take_all c.loop-octet.octet-index c.args.header.now (omega arith) in
    ends c.args.header.now c.loop-octet.remainder (omega arith) (c.loop-octet.invariant ∙ ap (rest hec_generator []) all)
