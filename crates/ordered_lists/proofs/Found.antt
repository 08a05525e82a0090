-- the first element of a list that passes a test

use Rattle.std.proofs.Common.{◌≡◌, Bool, true, false, Option, Some, List, [], ◌∷◌, find, subst, if◌then◌else◌}
use Rattle.ordered_lists.specs.Ordered.{Every}

module _ {A : Type 0} (P : A → Type 0) where
  found_at : (passes : Bool) (x found : A) (others : Option A)
      → (if passes then Some x else others) ≡ Some found → P x → (others ≡ Some found → P found) → P found
  found_at true x found others e h behind = let same : x ≡ found = cc in subst P same h
  found_at false x found others e h behind = behind e

  -- it has what each has
  pub every_found : (test : A → Bool) (xs : List A) (found : A) → find test xs ≡ Some found
      → Every P xs → P found
  every_found test [] found e h = absurd cc
  every_found test (x ∷ xs) found e h =
      found_at (test x) x found (find test xs) e h.0 (λ behind. every_found test xs found behind h.1)
