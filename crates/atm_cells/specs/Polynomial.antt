-- Polynomials whose coefficients are 0 and 1 and add modulo 2 (I.432.1 4.3.2, I.363.5 9.2.1.2). One
-- is the list of its coefficients, that of the highest power of x first; `true` is 1.

use Rattle.std.specs.Prelude.{◌≡◌, ℕ, zero, suc, ◌-◌, ◌^◌, Bool, true, false, List, [], ◌∷◌, ◌++◌, length, replicate, flat_map, if◌then◌else◌, ◌==◌, ◌+◌}
use Rattle.std.specs.Bool.{xor}
use Rattle.std.specs.Int.{bit_at}

-- the sum of two lists of coefficients, written one below the other from the left
unfoldable pub plus : List Bool → List Bool → List Bool
plus [] q = q
plus (a ∷ p) [] = a ∷ p
plus (a ∷ p) (b ∷ q) = xor a b ∷ plus p q

-- what n steps of long division by x^k + g leave of p, where g has the k lower coefficients of the
-- divisor: a step takes the leading coefficient away, and where that is 1, adds g behind it
unfoldable pub divided : ℕ → (g p : List Bool) → List Bool
divided zero g p = p
divided (suc n) g [] = []
divided (suc n) g (true ∷ p) = divided n g (plus g p)
divided (suc n) g (false ∷ p) = divided n g p

-- the remainder of p by x^k + g
abbrev pub remainder : (g p : List Bool) → List Bool
remainder g p = divided (length p - length g) g p

-- the product of q and x^k + g
unfoldable pub product : (q g : List Bool) → List Bool
product [] g = replicate (length g) false
product (true ∷ q) g = true ∷ plus g (product q g)
product (false ∷ q) g = false ∷ product q g

-- r is what division of p by x^k + g leaves: of degree below k, and p is a multiple of x^k + g plus r
pub record IsRemainder (g p r : List Bool) : Type 0 where
  pub quotient : List Bool
  pub is : p ≡ plus (product quotient g) (replicate (length quotient) false ++ r)
  pub degree : length r ≡ length g

-- a number's k lowest bits, the highest of them first
unfoldable pub bits : (k n : ℕ) → List Bool
bits zero n = []
bits (suc k) n = (bit_at n k == 1) ∷ bits k n

-- the bits of octets, each octet's highest bit first
abbrev pub octet_bits : List ℕ → List Bool
octet_bits octets = flat_map (bits 8) octets

-- the number whose bits these are
unfoldable pub number : List Bool → ℕ
number [] = 0
number (b ∷ bs) = (if b then 2 ^ length bs else 0) + number bs
