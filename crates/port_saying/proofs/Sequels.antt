-- A rule that is done for each element of a list: at a place, behind the last one, and where it asks for a reset

use Rattle.std.proofs.Common.{◌≡◌, ℕ, zero, suc, ◌+◌, ◌≤◌, Bool, true, false, List, [], ◌∷◌, refl, sym, ap, ◌∙◌, subst, drop, length, slice_get, None, Some, Err, if◌then◌else◌, add-one}
use Rattle.std.specs.Prelude.{fold}
use Rattle.port_model.specs.declared.action.Action.{Action}
use Rattle.port_model.specs.Port.{Port, Work}
use Rattle.port_saying.specs.Rules.{stopped, Ends}
use Rattle.port_saying.specs.declared.stop.Stop.{Stop}
use Rattle.port_saying.specs.declared.stop.Stop.TheVariants as stop
use Rattle.port_saying.proofs.Rounds.{rest_none, round_next, round_over, round_stop}

-- a test that holds
pub if_true : {A : Type 0} (b : Bool) (x y : A) → b ≡ true → (if b then x else y) ≡ x
if_true true x y e = refl
if_true false x y e = absurd (cc e)

module _ {F X : Type 0} (rule : F → Work → X → Work) (first here : F) (whole before : Work) (xs : List X) (i : ℕ) (same : here ≡ first)
    (far : whole ≡ fold (rule first) before (drop i xs)) where
  -- the one at the place is done
  pub round_step : (after : Work) (x : X) → slice_get xs i ≡ Some x → rule here before x ≡ after → whole ≡ fold (rule first) after (drop (i + 1) xs)
  round_step after x is done = far ∙ round_next (rule first) before after xs i x is (subst (λ (f : F). rule f before x ≡ after) same done)

  -- none is there
  pub round_skip : slice_get xs i ≡ None → whole ≡ fold (rule first) before (drop (i + 1) xs)
  round_skip none = far ∙ ap (fold (rule first) before) (rest_none xs i none ∙ sym (behind xs i none))
    where
      behind : (ys : List X) (k : ℕ) → slice_get ys k ≡ None → drop (k + 1) ys ≡ []
      behind ys k e = rw (add-one k) (further ys k e)
        where
          further : (zs : List X) (j : ℕ) → slice_get zs j ≡ None → drop (suc j) zs ≡ []
          further [] j e = refl
          further (z ∷ zs) zero e = absurd (cc e)
          further (z ∷ zs) (suc j) e = further zs j e

  -- all are done
  pub round_end : length xs ≤ i → whole ≡ before
  round_end past = far ∙ round_over (rule first) before xs i past

  -- the one at the place asks for a reset
  pub round_break : (A B : Type 0) (s : Stop) (port : Port) (actions : List Action) (n : ℕ) (x : X) → slice_get xs i ≡ Some x
      → ((y : X) → rule first (stopped port actions n) y ≡ stopped port actions n)
      → Ends {A = A} (Err s) port actions n (rule here before x) → Ends {A = B} (Err s) port actions n whole
  round_break A B stop.Reset port actions n x is still h =
      far ∙ round_stop (rule first) before (stopped port actions n) xs i x is (subst (λ (f : F). rule f before x ≡ stopped port actions n) same h) still
  round_break A B (stop.OutOfMemory error) port actions n x is still h = tt
