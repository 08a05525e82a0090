-- The CRC-32 of a CPCS-PDU (I.363.5 9.2.1.2)

use Rattle.std.specs.Prelude.{ℕ, Bool, true, false, not, List, ◌++◌, map, replicate}
use Rattle.atm_cells.specs.Polynomial.{plus, remainder, bits, octet_bits, number}

-- x^32 + x^26 + x^23 + x^22 + x^16 + x^12 + x^11 + x^10 + x^8 + x^7 + x^5 + x^4 + x^2 + x + 1 without
-- its leading term
abbrev pub crc_generator : List Bool
crc_generator = bits 32 0x04C1_1DB7

-- The k bits of the octets are a polynomial M. The CRC is the complement of the remainder of
-- x^32 M + x^k (x^31 + x^30 + … + x + 1): the register is all ones at the start.
unfoldable pub crc_of : (octets : List ℕ) → ℕ
crc_of octets = number (map not (remainder crc_generator (plus (replicate 32 true) (octet_bits octets ++ replicate 32 false))))
