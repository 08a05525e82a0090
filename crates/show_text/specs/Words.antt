-- Texts of what a network holds: states, flows, labels by their channels, slots

use Rattle.std.specs.Prelude.{ℕ, ◌==◌, List, [], ◌∷◌, ◌++◌, codes, decimal, Option, None, Some, if◌then◌else◌}
use Rattle.net_types.specs.declared.prefix.Addr.{Addr}
use Rattle.net_types.specs.declared.channel.Channel.{Channel}
use Rattle.net_types.specs.declared.channel.End.{End}
use Rattle.net_types.specs.declared.node.NodeId.{NodeId}
use Rattle.net_types.specs.declared.node.PortNo.{PortNo}
use Rattle.adjacency_table.specs.declared.State.{State}
use Rattle.adjacency_table.specs.declared.State.TheVariants.{Clearing, SynSent, SynRcvd, Estab}
use Rattle.ipv4_packet.specs.declared.flow.FlowId.{FlowId}
use Rattle.ipv4_packet.specs.declared.flow.FlowId.TheVariants.{One, Two}
use Rattle.world_model.specs.Topology.{Topology}
use Rattle.script_model.specs.Texts.{address_text, channel_text, name_of, port_text}

-- *The state of a side of an adjacency*
abbrev pub state_text : State → List ℕ
state_text Clearing = codes "Clearing"
state_text SynSent = codes "SynSent"
state_text SynRcvd = codes "SynRcvd"
state_text Estab = codes "Estab"

-- *A flow* (RFC 1953): of type 1 between ports of two hosts, of type 2 between the hosts
abbrev pub socket_text : Addr → (port : ℕ) → List ℕ
socket_text address port = address_text address ++ (codes ":" ++ decimal port)

abbrev pub flow_text : FlowId → List ℕ
flow_text (One tos ttl protocol source destination source_port destination_port) =
    socket_text source source_port ++ (codes " > " ++ (socket_text destination destination_port
    ++ (codes " protocol " ++ (decimal protocol ++ (codes " tos " ++ (decimal tos ++ (codes " ttl " ++ decimal ttl)))))))
flow_text (Two ttl source destination) =
    address_text source ++ (codes " > " ++ (address_text destination ++ (codes " ttl " ++ decimal ttl)))

-- *A port of a node*, by the node's name and the port's number
abbrev pub at_text : Topology → NodeId → PortNo → List ℕ
at_text topology node port = name_of topology node ++ (codes " " ++ port_text port)

-- *A label by its channel*: its VCI, or in version 2 its VPI/VCI
abbrev pub labelled_text : Topology → Channel → List ℕ
labelled_text topology channel = if topology.version == 2 then channel_text channel else decimal channel.vci

-- *An end that is a label of a port*, behind how it is joined to another; nothing where there is none
abbrev pub joined_text : Topology → (how : List ℕ) → Option End → List ℕ
joined_text topology how None = []
joined_text topology how (Some end) =
    how ++ (port_text end.port ++ (codes " " ++ labelled_text topology end.channel))

-- *Slots*, and how many of them are free
abbrev pub slots_text : (free cells : ℕ) → List ℕ
slots_text free cells = codes " free " ++ (decimal free ++ (codes " of " ++ decimal cells))

-- *Words*, with a space between each two
abbrev pub spaced : List (List ℕ) → List ℕ
spaced [] = []
spaced (word ∷ []) = word
spaced (word ∷ next ∷ words) = word ++ (codes " " ++ spaced (next ∷ words))
