-- Tags of grants, by which a search passes over those of other flows. No claim needs this file.

use Rattle.std.specs.Prelude.{ℕ, ◌+◌, ◌%◌}
use Rattle.ipv4_packet.specs.declared.flow.FlowId.{FlowId}
use Rattle.ipv4_packet.specs.declared.flow.FlowId.TheVariants.{One, Two}
use Rattle.grant_table.specs.declared.held.Held.{Held}
use Rattle.grant_table.specs.Held.{shown}

abbrev pub flow_tag : FlowId → ℕ
flow_tag (One tos ttl protocol source destination source_port destination_port) =
    (source.0 + destination.0 + source_port + destination_port) % 256
flow_tag (Two ttl source destination) = (source.0 + destination.0) % 256

abbrev pub held_tag : Held → ℕ
held_tag held = flow_tag (shown held).flow
