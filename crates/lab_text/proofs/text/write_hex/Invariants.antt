use Rattle.std.proofs.Common.{◌≡◌, ◌*◌, length, take}
use Rattle.lab_text.specs.Text.{hex_digits}
use Rattle.lab_text.proofs.text.write_hex.Given as goal

-- the digits of the octets so far stand in front
abbrev pub invariant-loop-k : goal.invariant-loop-k
invariant-loop-k l = (length l.digits ≡ 2 * length l.octets) × (take (2 * l.k) l.digits ≡ hex_digits (take l.k l.octets))
