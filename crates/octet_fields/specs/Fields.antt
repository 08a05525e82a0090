-- numbers of 16 and 32 bits among octets, the first octet highest (RFC 791, appendix B)

use Rattle.std.specs.Prelude.{ℕ, ◌+◌, List, ◌++◌, length, take, drop}
use Rattle.std.specs.Int.{w16, w32, from_be_bytes}

abbrev pub u16_at : List ℕ → ℕ → ℕ
u16_at octets place = from_be_bytes w16 (take 2 (drop place octets))

abbrev pub u32_at : List ℕ → ℕ → ℕ
u32_at octets place = from_be_bytes w32 (take 4 (drop place octets))

-- the octets with these ones written over theirs from this place on
abbrev pub written : List ℕ → ℕ → List ℕ → List ℕ
written octets place field = take place octets ++ (field ++ drop (place + length field) octets)
