-- the bits of a number

use Rattle.std.proofs.Common.{◌≡◌, ℕ, zero, suc, ◌+◌, ◌-◌, ◌*◌, ◌%◌, ◌^◌, ◌<◌, ◌≤◌, ◌==◌, Bool, true, false, List, [], ◌∷◌, ◌++◌, length, replicate, if◌then◌else◌, bit_xor, refl, sym, ap, ap₂, ◌∙◌, arith, zero-add, suc-add, pow-suc}
use mathlib.Core.Bool.{xor}
use Rattle.std.specs.Int.{bit_at}
use Rattle.std.proofs.lemmas.Nat.{mod-pow-add}
use Rattle.std.proofs.lemmas.Nat.Bits.{bit_at_xor, bit_at-lt, bit_at-zero, bit_at_cat_low, bit_at_cat_high}
use Rattle.atm_cells.specs.Polynomial.{plus, bits, number}

pub length-bits : (k n : ℕ) → length (bits k n) ≡ k
unfolding bits
length-bits zero n = refl
length-bits (suc k) n = ap suc (length-bits k n)

pub bits-zero : (k : ℕ) → bits k 0 ≡ replicate k false
unfolding bits
bits-zero zero = refl
bits-zero (suc k) = ap₂ ◌∷◌ (ap (λ b. b == 1) (bit_at-zero k)) (bits-zero k)

sum_bit : (x y : ℕ) → x < 2 → y < 2 → ((x + y) % 2 == 1) ≡ xor (x == 1) (y == 1)
unfolding xor
sum_bit zero zero _ _ = refl
sum_bit zero (suc zero) _ _ = refl
sum_bit (suc zero) zero _ _ = refl
sum_bit (suc zero) (suc zero) _ _ = refl
sum_bit (suc (suc x)) y h _ = absurd (omega arith)
sum_bit x (suc (suc y)) _ h = absurd (omega arith)

-- the exclusive or of two numbers is the sum of their polynomials
pub bits-xor : (k a b : ℕ) → bits k (bit_xor a b) ≡ plus (bits k a) (bits k b)
unfolding plus bits
bits-xor zero a b = refl
bits-xor (suc k) a b =
    ap₂ ◌∷◌
    (ap (λ n. n == 1) (bit_at_xor a b k) ∙ sum_bit (bit_at a k) (bit_at b k) (bit_at-lt a k) (bit_at-lt b k))
    (bits-xor k a b)

-- the low bits of a number that is written in two parts
bits_low : (j k a b : ℕ) → j ≤ k → bits j (a * 2 ^ k + b) ≡ bits j b
unfolding bits
bits_low zero k a b within = refl
bits_low (suc j) k a b within =
    ap₂ ◌∷◌ (ap (λ n. n == 1) (bit_at_cat_low a k b j (omega arith))) (bits_low j k a b (omega arith))

-- a number that is written in two parts
pub bits_cat : (j k a b : ℕ) → b < 2 ^ k → bits (j + k) (a * 2 ^ k + b) ≡ bits j a ++ bits k b
unfolding bits
bits_cat zero k a b small = rw zero-add (bits_low k k a b (omega arith))
bits_cat (suc j) k a b small =
    let e : j + k - k ≡ j = omega arith in
    rw suc-add (ap₂ ◌∷◌
    (ap (λ n. n == 1) (bit_at_cat_high a k b (j + k) small (omega arith) ∙ ap (bit_at a) e))
    (bits_cat j k a b small))

worth : (x w : ℕ) → x < 2 → (if x == 1 then w else 0) ≡ x * w
worth zero w h = omega arith
worth (suc zero) w h = omega arith
worth (suc (suc x)) w h = absurd (omega arith)

-- the number of a number's k lowest bits
pub number-bits : (k n : ℕ) → number (bits k n) ≡ n % 2 ^ k
unfolding bits number
number-bits zero n = omega arith
number-bits (suc k) n =
    ap₂ (λ w rest. (if bit_at n k == 1 then 2 ^ w else 0) + rest) (length-bits k n) (number-bits k n)
    ∙ ap (λ x. x + n % 2 ^ k) (worth (bit_at n k) (2 ^ k) (bit_at-lt n k))
    ∙ sym (mod-pow-add n 1 k)
    ∙ ap (λ e. n % 2 ^ e) (omega arith)

worth_most : (b : Bool) (w : ℕ) → (if b then w else 0) ≤ w
worth_most true w = omega arith
worth_most false w = omega arith

-- a number of so many bits
pub number-lt : (l : List Bool) → number l < 2 ^ length l
unfolding number
number-lt [] = omega arith
number-lt (b ∷ l) = omega (arith, number-lt l, worth_most b (2 ^ length l), pow-suc 2 (length l))
