use Rattle.std.proofs.Common.{◌≡◌, ◌<◌, ◌≤◌, ◌*◌, ◌-◌, ℕ, true, false, Some}
use Rattle.fabric.specs.Following.{is_behind}
use Rattle.fabric.specs.Table.{end_at}
use Rattle.fabric.proofs.place.places_up_to.Given as goal

abbrev pub invariant-loop-low : goal.invariant-loop-low
invariant-loop-low l = record {
  order : l.low ≤ l.high;
  most : l.high ≤ 15888 * 16;
  up_to : (n : ℕ) → n < l.low → is_behind (Some l.other) (end_at n) ≡ false;
  others : (n : ℕ) → l.high ≤ n → n < 15888 * 16 → is_behind (Some l.other) (end_at n) ≡ true;
}

abbrev pub decreases-loop-low : goal.decreases-loop-low
decreases-loop-low l = l.high - l.low
