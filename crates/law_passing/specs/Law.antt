-- How an event changes the queues of a network

use Rattle.std.specs.Prelude.{◌≡◌, ◌++◌, true, false, [], Some}
use Rattle.law_actor_pace.specs.world_model.Words.{Place, IsTopology, queue_at, same_queue, next, Topology, World}
use Rattle.law_actor_pace.specs.world_model.network_model.declared.event.Event.{Event}
use Rattle.telling_model.specs.Passing.{left, cells_put_at, source_of}
use Rattle.telling_model.specs.Reached.{owns, reached}

-- *What was left in a queue stays*, in its order, and behind it stands what was put there
abbrev pub QueuesChangeByPassing : Type 0
QueuesChangeByPassing = (topology : Topology) (w : World) (event : Event) (place : Place)
    → queue_at (next topology w event) place ≡ left w event place ++ cells_put_at topology w event place

-- *Cells are put into the queues of the actor* that the event reaches, and into no other
abbrev pub QueuesAreTheActors : Type 0
QueuesAreTheActors = (topology : Topology) (w : World) (event : Event) (place : Place)
    → owns (reached topology w event) place ≡ false → cells_put_at topology w event place ≡ []

-- *The queue that it takes from* gets none
abbrev pub SourcesGetNothing : Type 0
SourcesGetNothing = (topology : Topology) (w : World) (event : Event) (source place : Place)
    → IsTopology topology → source_of event ≡ Some source → same_queue source place ≡ true → cells_put_at topology w event place ≡ []
