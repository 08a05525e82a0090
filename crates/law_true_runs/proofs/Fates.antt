-- what is so of a network with regard to packets says that fates are true, once and whole

use Rattle.std.proofs.Common.{◌≡◌, ℕ, Bool, true, false, List, [], ◌∷◌, length, refl, arith}
use Rattle.std.specs.Prelude.{◌==◌, ◌&&◌}
use Rattle.std.specs.List.{list_all, sum_by}
use Rattle.std.proofs.lemmas.Bool.Decides.{nat_tests}
use Rattle.std.proofs.lemmas.List.Sums.{sum_by-cons}
use Rattle.world_model.specs.Words.{Place, Cell, World, places, queue_at, Past, HasFatesWhole}
use Rattle.law_run_facts.specs.law_world_views.Marks.{ends_in}
use Rattle.law_run_facts.specs.law_world_views.Between.{HasPacketsOnce}

-- *Links that are empty* hold no last cell
no_cells : (k : ℕ) (cells : List Cell) → (length cells == 0) ≡ true → ends_in k cells ≡ 0
no_cells k [] h = refl
no_cells k (cell ∷ cells) h = absurd (grind (nat_tests, arith, h))

none_anywhere : (w : World) (k : ℕ) (ps : List Place) → list_all (λ place. length (queue_at w place) == 0) ps ≡ true → sum_by (λ place. ends_in k (queue_at w place)) ps ≡ 0
none_anywhere w k [] h = refl
none_anywhere w k (place ∷ ps) h = by (length (queue_at w place) == 0) refl h (none_anywhere w k ps)
  where
    by : (b : Bool) → (length (queue_at w place) == 0) ≡ b → (b && list_all (λ place. length (queue_at w place) == 0) ps) ≡ true
        → (list_all (λ place. length (queue_at w place) == 0) ps ≡ true → sum_by (λ place. ends_in k (queue_at w place)) ps ≡ 0)
        → sum_by (λ place. ends_in k (queue_at w place)) (place ∷ ps) ≡ 0
    by true e h rest = omega (arith, sum_by-cons (λ (p : Place). ends_in k (queue_at w p)) place ps, no_cells k (queue_at w place) e, rest h)
    by false e h rest = absurd (cc h)

pub fates_whole : (past : Past) → HasPacketsOnce past → HasFatesWhole past
fates_whole past h empty number accepted kept =
    omega (arith, h.kept number accepted kept, none_anywhere past.now number (places past.now) empty)
