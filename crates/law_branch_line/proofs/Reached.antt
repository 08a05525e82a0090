-- the lines that moves lead to

use Rattle.std.proofs.Common.{ℕ, ◌<◌, List, [], ◌∷◌, ◌++◌, refl, ap, subst, ◌∙◌}
use Rattle.std.proofs.lemmas.List.Sums.{fold-append}
use Rattle.law_branch_line.specs.Line.{Line, start}
use Rattle.law_branch_line.specs.Moves.{Move, step, run}
use Rattle.law_branch_line.specs.Law.{Always, IsReached}

pub first_reached : (controller switch fresh before behind : ℕ)
    → 0 < controller → controller < fresh → switch < fresh
    → IsReached (start controller switch fresh before behind)
first_reached controller switch fresh before behind positive drawn also = record {
  controller = controller;
  switch = switch;
  fresh = fresh;
  ports_before = before;
  ports_behind = behind;
  positive = positive;
  controller_drawn = drawn;
  switch_drawn = also;
  moves = [];
  is = refl;
}

pub run_reached : (w : Line) (moves : List Move) → IsReached w → IsReached (run w moves)
run_reached w moves reached = record {
  controller = reached.controller;
  switch = reached.switch;
  fresh = reached.fresh;
  ports_before = reached.ports_before;
  ports_behind = reached.ports_behind;
  positive = reached.positive;
  controller_drawn = reached.controller_drawn;
  switch_drawn = reached.switch_drawn;
  moves = reached.moves ++ moves;
  is = fold-append step
      (start reached.controller reached.switch reached.fresh reached.ports_before reached.ports_behind)
      reached.moves moves ∙ ap (λ (v : Line). run v moves) reached.is;
}

pub next_reached : (w : Line) (move : Move) → IsReached w → IsReached (step w move)
next_reached w move reached = run_reached w (move ∷ []) reached

-- what always holds is so of each
pub holds_reached : (P : Line → Type 0) → Always P → (w : Line) → IsReached w → P w
holds_reached P always w reached = subst P reached.is
    (always reached.controller reached.switch reached.fresh reached.ports_before reached.ports_behind
    reached.positive reached.controller_drawn reached.switch_drawn reached.moves)
