-- That a rule of a port is moves of a label's line, and leaves the numbers of the port unspent

use Rattle.std.specs.Prelude.{◌≡◌, false, List}
use Rattle.law_port_views.specs.law_label_line.Cells.{Role, Cell}
use Rattle.law_port_views.specs.port_model.Words.{Work, is_spent}
use Rattle.law_port_views.specs.Link.{LinkLabel}
use Rattle.law_port_views.specs.Reaching.{Leads}

-- a port whose numbers are spent has asked to be reset, and does nothing more
abbrev pub IsUnspent : Work → Type 0
IsUnspent w = w.halted ≡ false → is_spent w.port.session ≡ false

-- from every line that is shown at v some moves lead to one that is shown at w; and where the numbers of v aren't
-- spent, those of w aren't
abbrev pub Follows : Role → LinkLabel → (like : Type 0) → (queued : List Cell) → (v w : Work) → Type 0
Follows role link like queued v w = (IsUnspent v → IsUnspent w) × Leads role link like queued v w
