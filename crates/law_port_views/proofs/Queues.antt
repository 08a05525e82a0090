-- moves on what an end has sent: a message is put, and the last one is lost again

use Rattle.std.proofs.Common.{◌≡◌, true, List, [], ◌∷◌, ◌++◌, refl, ◌∙◌, ap, append-nil, length, remove}
use Rattle.law_label_line.specs.Cells.{Role, Downstream, Upstream, Cell, Default, Message, frame, put, ToSwitch}
use Rattle.law_label_line.specs.Line.{Line}
use Rattle.law_label_line.specs.Moves.{Lose, step}
use Rattle.law_port_views.specs.Link.{other}
use Rattle.law_port_views.specs.Shown.{rest_of}

-- an end puts cells at the end of its queue
abbrev pub sends : Role → Line → List Cell → Line
sends Downstream line cells = record line { to_upstream = put line.to_upstream cells }
sends Upstream line cells = record line { to_downstream = put line.to_downstream cells }

pub sends_rest : (role : Role) (line : Line) (cells : List Cell) → rest_of role (sends role line cells) ≡ rest_of role line
sends_rest Downstream line cells = refl
sends_rest Upstream line cells = refl

-- the place of what is put
abbrev pub sent_by : Role → Line → List Cell
sent_by Downstream line = line.to_upstream.to_switch
sent_by Upstream line = line.to_downstream.to_switch

removed_at : (xs ys : List Cell) (x : Cell) → remove (xs ++ (x ∷ ys)) (length xs) ≡ xs ++ ys
removed_at [] ys x = refl
removed_at (z ∷ xs) ys x = ap (λ w. z ∷ w) (removed_at xs ys x)

-- it is lost before anything happens to it
pub unsaid : (role : Role) (line : Line) (message : Message)
    → step (sends role line (frame message)) (Lose (other role) ToSwitch (length (sent_by role line))) ≡ line
unsaid Downstream line message =
    ap (λ (z : List Cell). record line { to_upstream = record (line.to_upstream) { to_switch = z } })
    (removed_at line.to_upstream.to_switch [] (Default true message) ∙ append-nil line.to_upstream.to_switch)
unsaid Upstream line message =
    ap (λ (z : List Cell). record line { to_downstream = record (line.to_downstream) { to_switch = z } })
    (removed_at line.to_downstream.to_switch [] (Default true message) ∙ append-nil line.to_downstream.to_switch)
