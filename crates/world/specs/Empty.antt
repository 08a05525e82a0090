-- A carry of an empty queue

use Rattle.std.specs.Prelude.{◌≡◌, ◌+◌, []}
use Rattle.net_types.specs.declared.node.Place.{Place}
use Rattle.world_model.specs.network_model.declared.event.Event.{Event}
use Rattle.world_model.specs.network_model.declared.event.Event.TheVariants.{Carry, Lose}
use Rattle.world_model.specs.Places.{queue_at}
use Rattle.world_model.specs.Step.{step}
use Rattle.world_model.specs.Topology.{Topology}
use Rattle.world_model.specs.World.{World}

-- a carry or a loss of an empty queue
abbrev pub FindsNothing : World → Event → Type 0
FindsNothing w (Carry place) = queue_at w place ≡ []
FindsNothing w (Lose place) = queue_at w place ≡ []
FindsNothing w event = ⊥

-- *It counts*, and changes nothing else
abbrev pub EmptyCarriesCount : Type 0
EmptyCarriesCount = (topology : Topology) (w : World) (place : Place) → queue_at w place ≡ []
    → step topology w (Carry place) ≡ record w { events = w.events + 1 }
