-- Labels for flows that ask for high throughput: bit 4 of Type of Service, of which bit 0 is the highest (RFC 791 3.1)

use Rattle.std.specs.Prelude.{Bool, false, ◌/◌, ◌%◌, ◌==◌, ◌&&◌, nat_le}
use Rattle.ipv4_packet.specs.declared.flow.FlowId.{FlowId}
use Rattle.ipv4_packet.specs.declared.flow.FlowId.TheVariants.{One, Two}
use Rattle.port_model.specs.Setup.{Policy}

-- a flow between two hosts is of packets of any Type of Service
abbrev pub asks : FlowId → Bool
asks (One tos ttl protocol source destination source_port destination_port) = tos / 8 % 2 == 1
asks (Two ttl source destination) = false

-- *The policy*: from the second packet on, and for at most 40 idle ticks
abbrev pub throughput : Policy
throughput = record {
  offers = λ flow packets. asks flow && nat_le 2 packets;
  keeps = λ flow idle. asks flow && nat_le idle 40;
}
