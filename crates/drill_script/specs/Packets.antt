-- the octets of a packet before those of its data

use Rattle.std.specs.Prelude.{ℕ, ◌+◌, List, [], ◌∷◌, ◌++◌}
use Rattle.std.specs.Int.{w16, to_be_bytes}

-- the headers of IPv4 and UDP, the checksum of neither set
abbrev pub headers : (nodes identification source_port size : ℕ) → List ℕ
headers nodes identification source_port size =
    69 ∷ 0 ∷ (to_be_bytes w16 (28 + size) ++ (to_be_bytes w16 identification
    ++ (0 ∷ 0 ∷ 32 ∷ 17 ∷ 0 ∷ 0 ∷ 10 ∷ 0 ∷ 1 ∷ 1 ∷ 10 ∷ 0 ∷ nodes ∷ 1 ∷ (to_be_bytes w16 source_port
    ++ (to_be_bytes w16 9 ++ (to_be_bytes w16 (8 + size) ++ (0 ∷ 0 ∷ [])))))))
