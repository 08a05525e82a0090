-- The grant under which a packet is sent on, by its label and the kind of its flow; and the way and the payload that
-- it gives. No claim needs this file.

use Rattle.std.specs.Prelude.{ℕ, List, Option, None, Some}
use Rattle.net_types.specs.declared.node.PortNo.{PortNo}
use Rattle.net_types.specs.declared.channel.End.{End}
use Rattle.ipv4_packet.specs.declared.flow.FlowKind.{FlowKind}
use Rattle.ipv4_packet.specs.Flow.{kind_of}
use Rattle.flow_encaps.specs.Default.{default_payload}
use Rattle.flow_encaps.specs.Labelled.{labelled_payload}
use Rattle.port_model.specs.Setup.{control_end}
use Rattle.port_model.specs.Grants.{Grant}
use Rattle.world_model.specs.Controller.{default_home}
use Rattle.controller_router.specs.declared.packets.Permit.{Permit}

pub record Named : Type 0 where
  pub label : ℕ
  pub kind : FlowKind

abbrev pub shown : Permit → Named
shown permit = record { label = permit.number; kind = kind_of permit.flow }

abbrev pub granted : Grant → Named
granted grant = record { label = grant.label; kind = kind_of grant.flow }

abbrev pub way_by : PortNo → Option Named → End
way_by port None = default_home port
way_by port (Some named) = control_end port named.label

abbrev pub payload_by : (packet : List ℕ) → Option Named → List ℕ
payload_by packet None = default_payload packet
payload_by packet (Some named) = labelled_payload named.kind packet
