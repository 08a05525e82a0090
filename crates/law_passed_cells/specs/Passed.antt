-- Where two labels are joined, what the controller sent to the second has passed the switch; and so each broken frame of a run
-- stands beside its cause

use Rattle.std.specs.Prelude.{◌≡◌, true, List, ◌++◌, Contains, Some}
use Rattle.world_model.specs.Words.{NodeId, Down, Cell, Standing, Policy, default_channel, same_channel, Topology, queue_at, run, records_of, copy_under, Past, past_of, frames_of, HasCauses, IsTame, IsRun}
use Rattle.world_model.specs.network_model.declared.event.Event.{Event}
use Rattle.law_fed_worlds.specs.law_world_views.Between.{IsWorld, HasAllPassed}
use Rattle.law_fed_worlds.specs.law_world_views.Kept.{Comes, behind}

-- requests wait for the switch on GSMP's channel
abbrev pub HasRequests : Past → Type 0
HasRequests past = (node : NodeId) (cell : Cell) (s : Standing) → Contains (queue_at past.now (Down node)) cell → copy_under (frames_of past) cell.mark ≡ Some s
    → same_channel cell.header.channel default_channel ≡ true

-- *Each event keeps* that, and that cells have passed
abbrev pub PassedIsKept : Type 0
PassedIsKept = (policy : Policy) (topology : Topology) (before : List Event) (event : Event)
    → Comes policy topology before event → IsWorld (past_of policy topology before) → HasRequests (past_of policy topology before)
    → HasAllPassed (behind policy topology before event) × HasRequests (behind policy topology before event)

-- *Broken frames stand beside a cause* in every run in each of whose networks all is so
abbrev pub BreaksHaveCauses : Type 0
BreaksHaveCauses = (policy : Policy) (topology : Topology) (events : List Event) → IsRun policy topology events
    → IsTame (records_of (run policy topology events))
    → ((before after : List Event) → events ≡ before ++ after → IsWorld (past_of policy topology before))
    → HasCauses policy topology events
