-- A source that said its end, and is read no more

use Rattle.std.proofs.Common.{◌≡◌, ◌∙◌, ◌⊎◌, ℕ, Bool, true, false, Ok, Result, refl, ap, inl, inr}
use Rattle.lab_io.specs.Fault.{count_after}
use Rattle.lab_io.specs.declared.edge.Failed.{Failed}

-- a read before the end isn't late
pub not_late : (said : Bool) (old new : ℕ) → said ≡ false → new ≡ count_after said old → new ≡ old
not_late said old new unsaid after = after ∙ ap (λ (b : Bool). count_after b old) unsaid

-- a read that gave octets said no end
pub still_unsaid : (before said : Bool) (count : ℕ) → before ≡ false → (count ≡ 0 → ⊥)
    → (said ≡ true → (before ≡ true) ⊎ ◌≡◌ {A = Result ℕ Failed} (Ok count) (Ok 0)) → said ≡ false
still_unsaid before false count unsaid some told = refl
still_unsaid before true count unsaid some told = by (told refl)
  where
    by : (before ≡ true) ⊎ ◌≡◌ {A = Result ℕ Failed} (Ok count) (Ok 0) → true ≡ false
    by (inl was) = absurd (cc (was, unsaid))
    by (inr none) = absurd (some (cc none))
