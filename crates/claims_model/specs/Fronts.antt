-- The worlds that a run comes to, and its fronts

use Rattle.std.specs.Prelude.{◌≡◌, List, ◌++◌, ◌<◌, ◌^◌, All}
use Rattle.world_model.specs.Words.{Policy, Topology, World, world_after, Past, past_of, IsTame, Node}
use Rattle.world_model.specs.network_model.declared.event.Event.{Event}
use Rattle.world_model.specs.World.{opened}

-- *The world* after these events
abbrev pub world_at : Policy → Topology → (before : List Event) → World
world_at policy topology before = world_after topology (opened policy topology) before

-- *Each front of a run* before the first frame that was forged or passed its test by chance
abbrev pub InFronts : Policy → Topology → List Event → (Past → Type 0) → Type 0
InFronts policy topology events P = (before after : List Event) → events ≡ before ++ after
    → IsTame (past_of policy topology before).records → P (past_of policy topology before)

-- *The addresses* of nodes have 32 bits
abbrev pub HasAddresses : Topology → Type 0
HasAddresses topology = All (λ (node : Node). node.address.0 < 2 ^ 32) topology.nodes
