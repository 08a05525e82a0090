-- where a journey ends, as a fate; and one hop of it, on which no claim rests

use Rattle.std.specs.Prelude.{◌≡◌, ℕ, ◌<◌, List, Result, Ok, Err}
use Rattle.net_types.specs.declared.node.NodeId.{NodeId}
use Rattle.ipv4_packet.specs.Packet.{IsPacket, ttl_of}
use Rattle.ipv4_forward.specs.declared.table.Route.{Route}
use Rattle.world_model.specs.Fates.{Fate, IsDelivered, IsDropped}
use Rattle.world_model.specs.Conditions.{IsNode}
use Rattle.world_model.specs.Journey.{journey}
use Rattle.world_model.specs.Topology.{Topology}
use Rattle.ideal_fates.specs.declared.hops.Ending.{Ending}
use Rattle.ideal_fates.specs.declared.hops.Ending.TheVariants.{Delivered, Dropped}

-- the fate that an ending is, of the packet as it stands there
abbrev pub ending_told : Ending → (packet : List ℕ) → Fate
ending_told (Delivered node) packet = IsDelivered node packet
ending_told (Dropped node cause) packet = IsDropped node cause

-- the packet goes to another node, from where its journey goes on
pub record GoesOn (topology : Topology) (tables : NodeId → List Route) (node : NodeId) (old new : List ℕ) (far : NodeId) : Type 0 where
  pub onward : journey topology tables far new ≡ journey topology tables node old
  pub there : IsNode topology far
  pub packet : IsPacket new
  pub less : ttl_of new < ttl_of old

-- or its journey ends
abbrev pub Hops : Topology → (tables : NodeId → List Route) → NodeId → (old new : List ℕ) → Result NodeId Ending → Type 0
Hops topology tables node old new (Ok far) = GoesOn topology tables node old new far
Hops topology tables node old new (Err ending) = ending_told ending new ≡ journey topology tables node old
