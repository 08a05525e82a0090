-- That moves of a label's line lead from what a port at work shows to what it shows next

use Rattle.std.specs.Prelude.{◌≡◌, ℕ, Bool, List, Some}
use Rattle.law_port_facts.specs.port_model.ifmp_wire.declared.message.Message.{Message}
use Rattle.law_label_line.specs.Cells as lines
use Rattle.law_label_line.specs.Cells.{Role, Downstream, Upstream, Cell}
use Rattle.law_label_line.specs.Line.{Line}
use Rattle.law_label_line.specs.Downstream.{downstream_hears}
use Rattle.law_label_line.specs.Upstream.{upstream_hears}
use Rattle.law_label_line.specs.Moves.{Move, run}
use Rattle.law_port_facts.specs.port_model.Words.{Work}
use Rattle.law_port_facts.specs.port_model.Resets.{cleared}
use Rattle.law_port_views.specs.Link.{LinkLabel, other}
use Rattle.law_port_views.specs.Heard.{heard_by}
use Rattle.law_port_views.specs.Shown.{Shown, rest_of}

-- some moves lead from `start` to a line that the port shows, which differs from `line` at most at the port's end
pub record ReachesFrom (role : Role) (link : LinkLabel) (like : Type 0) (queued : List Cell) (w : Work) (start line : Line) : Type 0 where
  pub moves : List Move
  pub after : Line
  pub is : run start moves ≡ after
  pub shown : Shown role link like queued w after
  pub rest : rest_of role after ≡ rest_of role line

abbrev pub Reaches : Role → LinkLabel → (like : Type 0) → (queued : List lines.Cell) → Work → Line → Type 0
Reaches role link like queued w line = ReachesFrom role link like queued w line line

-- from every line that is shown at v some moves lead to one that is shown at w
abbrev pub Leads : Role → LinkLabel → (like : Type 0) → (queued : List lines.Cell) → (v w : Work) → Type 0
Leads role link like queued v w = (line : Line) → Shown role link like queued v line → Reaches role link like queued w line

-- *A message of the other end comes*: what the line makes of it, where there is room for a grant, and so many
-- instances were drawn elsewhere
abbrev pub hears_at : Role → Line → lines.Message → (room : Bool) → (drawn : ℕ) → Line
hears_at Downstream line message room drawn = downstream_hears line message drawn
hears_at Upstream line message room drawn = upstream_hears line message room drawn

-- the line hears it, where it bears on the label, and moves go on from there; or it is lost, and moves go on from the
-- line as it was
pub data Comes (role : Role) (link : LinkLabel) (like : Type 0) (queued : List Cell) (w : Work) (message : Message) (line : Line) : Type 0 where
  heard : (said : lines.Message) (room : Bool) (drawn : ℕ) → heard_by (other role) link.label message ≡ Some said
      → ReachesFrom role link like queued w (hears_at role line said room drawn) line → Comes role link like queued w message line
  unheard : Reaches role link like queued w line → Comes role link like queued w message line

-- *A port at work is cleared*
abbrev pub clears_work : Work → Work
clears_work w = record w { port = cleared w.port }
