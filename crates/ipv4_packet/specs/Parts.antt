-- The destination of a flow's packets, and whether two flows are one

use Rattle.std.specs.Prelude.{Bool, false, ◌&&◌, ◌==◌}
use Rattle.net_types.specs.declared.prefix.Addr.{Addr}
use Rattle.ipv4_packet.specs.declared.flow.FlowId.{FlowId}
use Rattle.ipv4_packet.specs.declared.flow.FlowId.TheVariants.{One, Two}

abbrev pub flow_destination : FlowId → Addr
flow_destination (One tos ttl protocol source destination source_port destination_port) = destination
flow_destination (Two ttl source destination) = destination

abbrev pub same_flow : FlowId → FlowId → Bool
same_flow (One tos ttl protocol source destination source_port destination_port)
    (One tos2 ttl2 protocol2 source2 destination2 source_port2 destination_port2) =
    (tos == tos2 && (ttl == ttl2 && protocol == protocol2))
    && ((source.0 == source2.0 && destination.0 == destination2.0)
    && (source_port == source_port2 && destination_port == destination_port2))
same_flow (Two ttl source destination) (Two ttl2 source2 destination2) =
    ttl == ttl2 && (source.0 == source2.0 && destination.0 == destination2.0)
same_flow flow other = false
