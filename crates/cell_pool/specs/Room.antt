-- How a region stands in memory: the places that were ever taken are those below some number, and only
-- these have been written. No public clause rests on it.

use Rattle.std.specs.Prelude.{ℕ, ◌-◌, List, ◌++◌, length, replicate}
use Rattle.std.specs.List.{range_with_len}

-- as many values as there are places: x for each place that wasn't written
abbrev pub filled : {A : Type 0} → (places : ℕ) → A → List A → List A
filled places x xs = xs ++ replicate (places - length xs) x

-- the places that were never taken, the one that is taken next the first
abbrev pub never_taken : (places taken : ℕ) → List ℕ
never_taken places taken = range_with_len taken (places - taken)
