-- Carries of empty queues, as they are told

use Rattle.std.specs.Prelude.{◌≡◌, ℕ, []}
use Rattle.net_types.specs.declared.node.Place.{Place}
use Rattle.world_model.specs.network_model.declared.event.Event.TheVariants.{Carry}
use Rattle.world_model.specs.Places.{queue_at}
use Rattle.world_model.specs.Topology.{Topology}
use Rattle.world_model.specs.World.{World}
use Rattle.telling_model.specs.Placed.{placed}
use Rattle.telling_model.specs.Tale.{Tale}

-- *Nothing is told* of a carry of an empty queue, and nothing becomes known by it
abbrev pub PassesOverEmptyQueues : {S : Type 0} → Tale S → Type 0
PassesOverEmptyQueues {S} tale = (known : S) (topology : Topology) (w : World) (line : ℕ) (place : Place) → queue_at w place ≡ []
    → tale.tells known topology w (placed line (Carry place)) ≡ record { octets = []; state = known }
