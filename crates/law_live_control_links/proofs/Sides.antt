-- sides that stay as they are but for their silence

use Rattle.std.proofs.Common.{◌≡◌, Some, refl, sym, ◌∙◌, ap}
use Rattle.world_model.specs.Words.{Party, Side}
use Rattle.live_model.specs.Met.{HaveMet}
use Rattle.law_live_control.specs.Calm.{GoesOn, aged}

pub record IsStill (before after : Side Party) : Type 0 where
  pub state : after.state ≡ before.state
  pub own : after.own ≡ before.own
  pub stored : after.stored ≡ before.stored

pub still_same : (side : Side Party) → IsStill side side
still_same side = record { state = refl; own = refl; stored = refl }

pub still_on : (before after : Side Party) → GoesOn before after → IsStill before after
still_on before after g = record { state = g.state; own = g.own; stored = g.stored }

pub still_aged : (side : Side Party) → IsStill side (aged side)
still_aged side = record { state = refl; own = refl; stored = refl }

pub still_met : (one other one_after other_after : Side Party) → HaveMet one other → IsStill one one_after → IsStill other other_after → HaveMet one_after other_after
still_met one other one_after other_after met near far = record {
  one_is_up = near.state ∙ met.one_is_up;
  other_is_up = far.state ∙ met.other_is_up;
  one_knows = near.stored ∙ (met.one_knows ∙ ap (λ p. Some p) (sym far.own));
  other_knows = far.stored ∙ (met.other_knows ∙ ap (λ p. Some p) (sym near.own));
}
