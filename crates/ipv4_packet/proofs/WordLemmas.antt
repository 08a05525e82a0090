-- sums of 16-bit words

use Rattle.std.proofs.Common.{◌≡◌, ℕ, ◌+◌, ◌-◌, ◌*◌, ◌%◌, List, [], ◌∷◌, ◌++◌, length, sum, cond, eqb, arith}
use Rattle.std.proofs.lemmas.Bool.Decides.{nat_tests}
use Rattle.std.specs.List.{fold}
use Rattle.ipv4_packet.specs.Packet.{words, ones_complement}

-- a sum that begins with some number
fold_sum : (first : ℕ) (numbers : List ℕ) → fold ◌+◌ first numbers ≡ first + sum numbers
fold_sum first [] = omega arith
fold_sum first (number ∷ numbers) = omega (arith, fold_sum (first + number) numbers, fold_sum (0 + number) numbers)

pub sum-cons : (number : ℕ) (numbers : List ℕ) → sum (number ∷ numbers) ≡ number + sum numbers
sum-cons number numbers = omega (arith, fold_sum (0 + number) numbers)

-- what one more octet adds: it is the high octet of a new word where an even number stand before it
pub sum_words-append_one : (octets : List ℕ) (octet : ℕ) → sum (words (octets ++ octet ∷ [])) ≡ sum (words octets) + cond (eqb (length octets % 2) 0) (octet * 256) octet
sum_words-append_one [] octet = omega arith
sum_words-append_one (high ∷ []) octet = omega arith
sum_words-append_one (high ∷ low ∷ octets) octet =
    let parity : length (high ∷ low ∷ octets) % 2 ≡ length octets % 2 = omega arith in
    rw (sum-cons, sum-cons, parity) (omega (arith, sum_words-append_one octets octet))

-- with the complement of a sum beside it, the sum is FFFF
pub ones_complement-completed : (total : ℕ) → ones_complement (total + (65535 - ones_complement total)) ≡ 65535
ones_complement-completed total = grind (arith, nat_tests)
