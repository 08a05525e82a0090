-- That moves of an input's line lead from what a site shows to what it shows next

use Rattle.std.specs.Prelude.{◌≡◌, ℕ, List}
use Rattle.law_shown_cells.specs.world_model.Words.{End, NodeId, Frame, Site}
use Rattle.law_branch_line.specs.Line.{Line}
use Rattle.law_branch_line.specs.Moves.{Move, run}
use Rattle.law_branch_line.specs.Law.{IsReached}
use Rattle.law_input_views.specs.Shown.{InputShows}

-- some moves lead from a line to one that shows, and of which P is so: P keeps for a moment what the relation forgets
pub record Follows (node : NodeId) (input : End) (site : Site) (frames : List Frame) (instances : ℕ) (P : Line → Type 0) (line : Line) : Type 0 where
  pub moves : List Move
  pub after : Line
  pub is : run line moves ≡ after
  pub shows : InputShows node input site frames instances after
  pub also : P after

abbrev pub Anything : Line → Type 0
Anything line = Unit {0}

-- a line that moves lead to shows
pub record ReachedAs (node : NodeId) (input : End) (site : Site) (frames : List Frame) (instances : ℕ) (P : Line → Type 0) : Type 0 where
  pub line : Line
  pub reached : IsReached line
  pub shows : InputShows node input site frames instances line
  pub also : P line
