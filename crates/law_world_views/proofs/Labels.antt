-- a label in the range of a port is a label's number

use Rattle.std.proofs.Common.{◌≡◌, ℕ, Bool, true, false, refl}
use Rattle.std.specs.Prelude.{◌&&◌}
use Rattle.law_controller_views.specs.world_model.Words.{is_label_number, Setup, is_in_range}

pub in_range_label : (setup : Setup) (number : ℕ) → is_in_range setup number ≡ true → is_label_number number ≡ true
in_range_label setup number e = first (is_label_number number) _ e
  where
    first : (a b : Bool) → a && b ≡ true → a ≡ true
    first true b h = refl
    first false b h = absurd (cc h)
