-- A chain that passes its test counts as the frame of its last cell

use Rattle.std.specs.Prelude.{List, [], ◌∷◌, ◌++◌}
use Rattle.world_model.specs.Words.{Policy, Topology, CountsAsItsFrame, past_of, IsTame}
use Rattle.world_model.specs.network_model.declared.event.Event.{Event}

-- *A chain that passes* has the payload of its last cell's frame, in each event of a run behind which no frame was forged and
-- none has passed by chance
abbrev pub ChainsAreTheirFrames : Type 0
ChainsAreTheirFrames = (policy : Policy) (topology : Topology) (before : List Event) (event : Event)
    → IsTame (past_of policy topology (before ++ event ∷ [])).records
    → CountsAsItsFrame (past_of policy topology before).now event
