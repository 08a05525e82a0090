-- counts of faults: what ties an answer to a cause outside of the program

use Rattle.std.specs.Prelude.{ℕ, ◌+◌, ◌-◌, ◌^◌, ◌≤◌, ◌==◌, ◌&&◌, min, nat_lt, Bool, true, List, length, Result, Ok, Err, if◌then◌else◌}

-- one more, or the greatest number that 64 bits hold
abbrev pub counted : ℕ → ℕ
counted count = min (count + 1) (2 ^ 64 - 1)

-- the count after a call: one more where the call failed, else as it was
abbrev pub count_after : (failed : Bool) → (count : ℕ) → ℕ
count_after failed count = if failed then counted count else count

-- the count went up by one at least, or stands at its greatest value
abbrev pub Rose : ℕ → ℕ → Type 0
Rose before now = counted before ≤ now

-- a write failed: it says so, or it took none of some octets
abbrev pub write_failed : {E : Type 0} → Result ℕ E → (octets : List ℕ) → Bool
write_failed (Ok taken) octets = (taken == 0) && nat_lt 0 (length octets)
write_failed (Err _) octets = true
