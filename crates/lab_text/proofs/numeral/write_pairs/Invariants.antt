use Rattle.std.proofs.Common.{◌≡◌, ℕ, ◌+◌, ◌*◌, ◌/◌, ◌<◌, length, get_or}
use Rattle.std.specs.Char.{digit_value}
use Rattle.lab_text.proofs.numeral.write_pairs.Given as goal

-- the octets so far are those of their two digits
abbrev pub invariant-loop-k : goal.invariant-loop-k
invariant-loop-k l = (length l.octets ≡ length l.digits / 2)
    × ((i : ℕ) → i < l.k → get_or l.octets i 0 ≡ 16 * digit_value (get_or l.digits (2 * i) 0) + digit_value (get_or l.digits (2 * i + 1) 0))
