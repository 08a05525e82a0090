-- the division of the polynomial of a row of octets, octet by octet

use Rattle.std.proofs.Common.{◌≡◌, ℕ, ◌+◌, ◌-◌, ◌*◌, ◌/◌, ◌%◌, ◌^◌, ◌<◌, ◌≤◌, Bool, false, List, [], ◌∷◌, ◌++◌, length, replicate, bit_xor, refl, sym, ap, ap₂, ◌∙◌, arith, add_comm, append_assoc, append-nil, length-append}
use Rattle.std.proofs.lemmas.Grind.{flat_map-append}
use Rattle.std.proofs.lemmas.List.{length-replicate}
use Rattle.std.proofs.lemmas.Nat.{mod-pow-add, shl-shr, pow_pos, shr_split, mod_below}
use Rattle.atm_cells.specs.Polynomial.{plus, divided, remainder, bits, octet_bits}
use Rattle.atm_cells.proofs.Division.{plus_assoc, plus_comm, plus-zeros, plus-zeros_same, zeros-plus, plus-append, length-plus, divided-plus, divided-divided}
use Rattle.atm_cells.proofs.Numbers.{length-bits, bits-zero, bits-xor, bits_cat}

-- what the division of the octets' polynomial times x^k leaves, where `start` is added to the
-- leading coefficients
unfoldable pub rest : (g start : List Bool) → (octets : List ℕ) → List Bool
rest g start octets = divided (8 * length octets) g (plus start (octet_bits octets ++ replicate (length g) false))

pub length-octet_bits : (octets : List ℕ) → length (octet_bits octets) ≡ 8 * length octets
length-octet_bits [] = refl
length-octet_bits (o ∷ octets) =
    length-append (bits 8 o) (octet_bits octets)
    ∙ ap₂ (λ m n. m + n) (length-bits 8 o) (length-octet_bits octets)
    ∙ omega arith

-- a division may go on where that of the octets before it ended
split : (g start u v : List Bool)
    → plus start ((u ++ v) ++ replicate (length g) false)
    ≡ plus (plus start (u ++ replicate (length g) false)) (replicate (length u) false ++ (v ++ replicate (length g) false))
split g start u v =
    let z : List Bool = replicate (length g) false in
    let long : length g ≤ length (v ++ z) = omega (arith, length-append v z, length-replicate (length g) false) in
    let same : length u ≡ length (replicate (length u) false) = sym (length-replicate (length u) false) in
    let zeros : plus u (replicate (length u) false) ≡ u = plus-zeros_same u (length u) refl in
    ap (plus start) (append_assoc u v z
    ∙ sym (plus-append u (replicate (length u) false) z (v ++ z) same ∙ ap₂ ◌++◌ zeros (zeros-plus (length g) (v ++ z) long)))
    ∙ sym (plus_assoc start (u ++ z) (replicate (length u) false ++ (v ++ z)))

-- one more octet
pub rest-push : (g start : List Bool) (octets : List ℕ) (o : ℕ)
    → rest g start (octets ++ o ∷ []) ≡ divided 8 g (plus (rest g start octets) (bits 8 o ++ replicate (length g) false))
unfolding rest
rest-push g start octets o =
    let u : List Bool = octet_bits octets in
    let z : List Bool = replicate (length g) false in
    let n : ℕ = 8 * length octets in
    let more : 8 * length (octets ++ o ∷ []) ≡ n + 8 = omega (arith, length-append octets (o ∷ [])) in
    let front : octet_bits (octets ++ o ∷ []) ≡ u ++ bits 8 o = flat_map-append (bits 8) octets (o ∷ []) ∙ ap (λ l. u ++ l) (append-nil (bits 8 o)) in
    let moved : plus start ((u ++ bits 8 o) ++ z) ≡ plus (plus start (u ++ z)) (replicate n false ++ (bits 8 o ++ z))
    = split g start u (bits 8 o) ∙ ap (λ k. plus (plus start (u ++ z)) (replicate k false ++ (bits 8 o ++ z))) (length-octet_bits octets) in
    ap₂ (λ k l. divided k g (plus start (l ++ z))) more front
    ∙ ap (divided (n + 8) g) moved
    ∙ divided-divided n 8 g (plus (plus start (u ++ z)) (replicate n false ++ (bits 8 o ++ z)))
    ∙ ap (divided 8 g) (divided-plus n g (plus start (u ++ z)) (bits 8 o ++ z))

-- at the end that rest is the remainder
pub rest-remainder : (g start : List Bool) (octets : List ℕ) → length start ≤ length g
    → rest g start octets ≡ remainder g (plus start (octet_bits octets ++ replicate (length g) false))
unfolding rest
rest-remainder g start octets within =
    let u : List Bool = octet_bits octets in
    let z : List Bool = replicate (length g) false in
    let whole : length (u ++ z) ≡ 8 * length octets + length g
    = length-append u z ∙ ap₂ (λ m n. m + n) (length-octet_bits octets) (length-replicate (length g) false) in
    let steps : 8 * length octets ≡ length (plus start (u ++ z)) - length g
    = omega (arith, whole, length-plus start (u ++ z) (omega arith)) in
    ap (λ k. divided k g (plus start (u ++ z))) steps

-- the low m bits of a register of 8 + m bits, moved up by an octet
shifted : (m r : ℕ) → bits (8 + m) (r * 2 ^ 8 % 2 ^ (8 + m)) ≡ bits m (r % 2 ^ m) ++ replicate 8 false
shifted m r =
    let low : r * 2 ^ 8 % 2 ^ (m + 8) ≡ (r % 2 ^ m) * 2 ^ 8 + 0
    = mod-pow-add (r * 2 ^ 8) m 8 ∙ ap₂ (λ x y. x % 2 ^ m * 2 ^ 8 + y) (shl-shr r 8) (omega arith) in
    rw (add_comm 8 m) (ap (bits (m + 8)) low ∙ bits_cat m 8 (r % 2 ^ m) 0 (pow_pos 8) ∙ ap (λ l. bits m (r % 2 ^ m) ++ l) (bits-zero 8))

-- One look-up takes eight steps: the octet that leaves the register, with the octet that comes, picks
-- what is added to the register after it is moved up.
pub look_up : (g : List Bool) (m r o entry : ℕ) → length g ≡ 8 + m → r < 2 ^ (8 + m)
    → bits (8 + m) entry ≡ divided 8 g (bits 8 (bit_xor (r / 2 ^ m) o) ++ replicate (length g) false)
    → bits (8 + m) (bit_xor (r * 2 ^ 8 % 2 ^ (8 + m)) entry)
    ≡ divided 8 g (plus (bits (8 + m) r) (bits 8 o ++ replicate (length g) false))
look_up g m r o entry width small is =
    let hi : ℕ = r / 2 ^ m in
    let lo : ℕ = r % 2 ^ m in
    let v : List Bool = bits 8 (bit_xor hi o) in
    let z : List Bool = replicate (length g) false in
    let s : List Bool = bits m lo ++ replicate 8 false in
    let lo_small : lo < 2 ^ m = mod_below r (2 ^ m) (pow_pos m) in
    let register : bits (8 + m) r ≡ bits 8 hi ++ bits m lo
    = ap (bits (8 + m)) (sym (shr_split r m)) ∙ bits_cat 8 m hi lo lo_small in
    let zeros : z ≡ replicate (length (bits m lo) + 8) false
    = ap (λ n. replicate n false) (omega (arith, length-bits m lo)) in
    let low : plus (bits m lo) z ≡ s = ap (plus (bits m lo)) zeros ∙ plus-zeros (bits m lo) 8 in
    let s_long : length g ≤ length s = omega (arith, length-append (bits m lo) (replicate 8 false), length-bits m lo, length-replicate 8 false) in
    let same : length (bits 8 hi) ≡ length (bits 8 o) = length-bits 8 hi ∙ sym (length-bits 8 o) in
    let meets : plus (bits 8 hi ++ bits m lo) (bits 8 o ++ z) ≡ v ++ s
    = plus-append (bits 8 hi) (bits 8 o) (bits m lo) z same ∙ ap₂ ◌++◌ (sym (bits-xor 8 hi o)) low in
    let eight : length v ≡ length (replicate 8 false) = length-bits 8 (bit_xor hi o) ∙ sym (length-replicate 8 false) in
    let unmoved : plus v (replicate 8 false) ≡ v = plus-zeros_same v 8 (sym (length-bits 8 (bit_xor hi o))) in
    let parts : plus (v ++ z) (replicate 8 false ++ s) ≡ v ++ s
    = plus-append v (replicate 8 false) z s eight ∙ ap₂ ◌++◌ unmoved (zeros-plus (length g) s s_long) in
    bits-xor (8 + m) (r * 2 ^ 8 % 2 ^ (8 + m)) entry
    ∙ ap₂ plus (shifted m r) is
    ∙ plus_comm s (divided 8 g (v ++ z))
    ∙ sym (divided-plus 8 g (v ++ z) s)
    ∙ ap (divided 8 g) (parts ∙ sym meets ∙ ap (λ l. plus l (bits 8 o ++ z)) (sym register))
