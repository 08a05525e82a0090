-- the lines that moves lead to

use Rattle.std.proofs.Common.{ℕ, ◌<◌, List, [], ◌∷◌, ◌++◌, refl, ap, subst, ◌∙◌}
use Rattle.std.proofs.lemmas.List.Sums.{fold-append}
use Rattle.law_label_line.specs.Line.{Line, start}
use Rattle.law_label_line.specs.Moves.{Move, step, run}
use Rattle.law_label_line.specs.Law.{Always, IsReached}

pub first_reached : (downstream upstream fresh : ℕ) → downstream < fresh → upstream < fresh
    → IsReached (start downstream upstream fresh)
first_reached downstream upstream fresh drawn also = record {
  downstream = downstream;
  upstream = upstream;
  fresh = fresh;
  downstream_drawn = drawn;
  upstream_drawn = also;
  moves = [];
  is = refl;
}

pub run_reached : (line : Line) (moves : List Move) → IsReached line → IsReached (run line moves)
run_reached line moves reached = record {
  downstream = reached.downstream;
  upstream = reached.upstream;
  fresh = reached.fresh;
  downstream_drawn = reached.downstream_drawn;
  upstream_drawn = reached.upstream_drawn;
  moves = reached.moves ++ moves;
  is = fold-append step (start reached.downstream reached.upstream reached.fresh) reached.moves moves
      ∙ ap (λ (reached_line : Line). run reached_line moves) reached.is;
}

pub next_reached : (line : Line) (move : Move) → IsReached line → IsReached (step line move)
next_reached line move reached = run_reached line (move ∷ []) reached

-- what always holds is so of each
pub holds_reached : (P : Line → Type 0) → Always P → (line : Line) → IsReached line → P line
holds_reached P always line reached = subst P reached.is
    (always reached.downstream reached.upstream reached.fresh reached.downstream_drawn reached.upstream_drawn reached.moves)
