-- Which flows a rule matches, and what rules decide. Rules are this project's own; the types of flows are those of
-- RFC 1953

use Rattle.std.specs.Prelude.{ℕ, Bool, true, false, ◌==◌, ◌&&◌, nat_le, List, find, Option, None, Some}
use Rattle.std.specs.Option.{option_map}
use Rattle.net_types.specs.declared.prefix.Addr.{Addr}
use Rattle.net_types.specs.Prefix.{covers}
use Rattle.port_model.specs.ipv4_packet.declared.flow.FlowId.{FlowId}
use Rattle.port_model.specs.ipv4_packet.declared.flow.FlowId.TheVariants.{One, Two}
use Rattle.port_model.specs.ipv4_packet.Flow.{has_ports}
use Rattle.port_model.specs.Setup.{Policy}
use Rattle.rule_model.specs.declared.rule.Protocol.{Protocol}
use Rattle.rule_model.specs.declared.rule.Protocol.TheVariants as protocols
use Rattle.rule_model.specs.declared.rule.Ports.{Ports}
use Rattle.rule_model.specs.declared.rule.Ports.TheVariants as ports
use Rattle.rule_model.specs.declared.rule.Decision.{Decision}
use Rattle.rule_model.specs.declared.rule.Decision.TheVariants.{Deny, Offer}
use Rattle.rule_model.specs.declared.rule.Rule.{Rule}

-- *Flows of type 1*: UDP is protocol 17, TCP is 6
abbrev pub has_protocol : Protocol → (protocol : ℕ) → Bool
has_protocol protocols.Udp protocol = protocol == 17
has_protocol protocols.Tcp protocol = protocol == 6
has_protocol protocols.Two protocol = false
has_protocol protocols.Any protocol = has_ports protocol

abbrev pub has_port : Ports → (port : ℕ) → Bool
has_port ports.Any port = true
has_port (ports.Between least greatest) port = nat_le least port && nat_le port greatest

-- *Flows of type 2* have neither a protocol nor ports
abbrev pub has_hosts : Protocol → Bool
has_hosts protocols.Udp = false
has_hosts protocols.Tcp = false
has_hosts protocols.Two = true
has_hosts protocols.Any = true

abbrev pub are_all : Ports → Bool
are_all ports.Any = true
are_all (ports.Between least greatest) = false

-- *A rule matches a flow*
abbrev pub has_ends : Rule → (source destination : Addr) → Bool
has_ends rule source destination = covers rule.source source && covers rule.destination destination

abbrev pub takes_hosts : Rule → Bool
takes_hosts rule = has_hosts rule.protocol && (are_all rule.source_ports && are_all rule.destination_ports)

abbrev pub matches : Rule → FlowId → Bool
matches rule (One tos ttl protocol source destination source_port destination_port) =
    has_ends rule source destination
    && (has_protocol rule.protocol protocol
    && (has_port rule.source_ports source_port && has_port rule.destination_ports destination_port))
matches rule (Two ttl source destination) = has_ends rule source destination && takes_hosts rule

-- *What rules decide*: the first one that matches
abbrev pub decided : List Rule → FlowId → Option Decision
decided rules flow = option_map (λ (rule : Rule). rule.decision) (find (λ rule. matches rule flow) rules)

abbrev pub offered : Option Decision → (packets : ℕ) → Bool
offered (Some (Offer after keep)) packets = nat_le after packets
offered (Some Deny) packets = false
offered None packets = false

abbrev pub kept : Option Decision → (idle : ℕ) → Bool
kept (Some (Offer after keep)) idle = nat_le idle keep
kept (Some Deny) idle = false
kept None idle = false

-- *The policy* that rules are
abbrev pub rules_policy : List Rule → Policy
rules_policy rules = record {
  offers = λ flow packets. offered (decided rules flow) packets;
  keeps = λ flow idle. kept (decided rules flow) idle;
}
