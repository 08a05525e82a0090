-- What a linked port holds: its adjacency and its numbers, the flows that it counts, its labels, its grants

use Rattle.std.specs.Prelude.{ℕ, true, false, List, [], ◌++◌, codes, decimal, Option, None, Some, option_map}
use Rattle.std.specs.List.{flat_map}
use Rattle.std.specs.Option.{option_map_or}
use Rattle.net_types.specs.declared.prefix.Addr.{Addr}
use Rattle.net_types.specs.declared.channel.Channel.{Channel}
use Rattle.net_types.specs.declared.adjacency.Peer.{Peer}
use Rattle.net_types.specs.declared.node.NodeId.{NodeId}
use Rattle.net_types.specs.declared.node.PortNo.{PortNo}
use Rattle.adjacency_table.specs.Side.{Side}
use Rattle.ipv4_packet.specs.declared.flow.FlowId.{FlowId}
use Rattle.port_model.specs.Counts.{Counted, packet_total}
use Rattle.port_model.specs.Labels.{Label, LabelState, Wiring, Offered, Recalled, Wired}
use Rattle.port_model.specs.Grants.{Grant, GrantState, Idle, ByController, ByInput, Leaving, lent_input}
use Rattle.port_model.specs.Port.{Port, Session, labels_of}
use Rattle.world_model.specs.Topology.{Topology}
use Rattle.script_model.specs.Texts.{address_text, channel_text, label_text}
use Rattle.show_text.specs.Words.{at_text, flow_text, joined_text, state_text}

-- *The port*: the state of its side of the adjacency with its peer; and in Estab, which is where it has a session, the
-- address of the stored peer, the numbers of both ends, and the two ends of the range to which its labels were narrowed
abbrev pub peer_text : Option Addr → List ℕ
peer_text None = []
peer_text (Some address) = codes " peer " ++ address_text address

abbrev pub numbers_text : (number expected known : ℕ) → List ℕ
numbers_text number expected known =
    codes " number " ++ (decimal number ++ (codes " expected " ++ (decimal expected ++ (codes " known " ++ decimal known))))

abbrev pub range_text : (least greatest : Channel) → List ℕ
range_text least greatest = codes " labels " ++ (channel_text least ++ (codes " " ++ channel_text greatest))

abbrev pub session_text : Option Addr → Option Session → List ℕ
session_text peer None = []
session_text peer (Some s) =
    peer_text peer ++ (numbers_text s.number s.expected s.known ++ range_text s.least s.greatest)

abbrev pub peer_address : Side Peer → Option Addr
peer_address side = option_map (λ peer. peer.address) side.stored

abbrev pub port_line : Topology → NodeId → PortNo → Port → List ℕ
port_line topology node number port =
    codes "port " ++ (at_text topology node number ++ (codes " " ++ (state_text port.adjacency.state
    ++ (session_text (peer_address port.adjacency) port.session ++ codes "\n"))))

-- *A flow that is counted*, with its packets in the window; the one whose last packet is the oldest first
abbrev pub count_line : Topology → NodeId → PortNo → FlowId → (packets : ℕ) → List ℕ
count_line topology node number flow packets =
    codes "count " ++ (at_text topology node number ++ (codes " " ++ (decimal packets
    ++ (codes " " ++ (flow_text flow ++ codes "\n")))))

abbrev pub counted_by : Option Session → List Counted
counted_by session = option_map_or (λ s. s.counted) session []

abbrev pub count_lines : Topology → NodeId → PortNo → List Counted → List ℕ
count_lines topology node number counted = flat_map (λ c. count_line topology node number c.flow (packet_total c.packets)) counted

-- *A label that is held*: its state; for how many ticks no packet used it, how many ticks ago the last REDIRECT was sent;
-- its flow, and where its input is joined to. They stand in the order of their numbers
abbrev pub label_state_text : LabelState → List ℕ
label_state_text Wiring = codes "wiring"
label_state_text Offered = codes "offered"
label_state_text (Recalled last false) = codes "recalled"
label_state_text (Recalled last true) = codes "returned"
label_state_text Wired = codes "quit"

abbrev pub label_line : Topology → NodeId → PortNo → Label → List ℕ
label_line topology node number label =
    codes "label " ++ (at_text topology node number ++ (codes " " ++ (label_text topology label.number
    ++ (codes " " ++ (label_state_text label.state ++ (codes " idle " ++ (decimal label.idle
    ++ (codes " told " ++ (decimal label.ticks ++ (codes " " ++ (flow_text label.flow
    ++ (joined_text topology (codes " to ") label.join ++ codes "\n"))))))))))))

abbrev pub label_lines : Topology → NodeId → PortNo → List Label → List ℕ
label_lines topology node number labels = flat_map (label_line topology node number) labels

-- *A grant*: its state, the ticks that it has left to live, its flow, and the input that is joined to it. They stand in
-- the order of acceptance
abbrev pub grant_state_text : GrantState → List ℕ
grant_state_text Idle = codes "idle"
grant_state_text ByController = codes "own"
grant_state_text (ByInput input) = codes "lent"
grant_state_text (Leaving input false) = codes "leaving"
grant_state_text (Leaving input true) = codes "owed"

abbrev pub grant_line : Topology → NodeId → PortNo → Grant → List ℕ
grant_line topology node number grant =
    codes "grant " ++ (at_text topology node number ++ (codes " " ++ (label_text topology grant.label
    ++ (codes " " ++ (grant_state_text grant.state ++ (codes " lifetime " ++ (decimal grant.lifetime
    ++ (codes " " ++ (flow_text grant.flow ++ (joined_text topology (codes " for ") (lent_input grant.state) ++ codes "\n"))))))))))

abbrev pub grant_lines : Topology → NodeId → PortNo → List Grant → List ℕ
grant_lines topology node number grants = flat_map (grant_line topology node number) grants

-- *All of a port*
abbrev pub port_lines : Topology → NodeId → PortNo → Port → List ℕ
port_lines topology node number port =
    port_line topology node number port
    ++ (count_lines topology node number (counted_by port.session)
    ++ (label_lines topology node number (labels_of port) ++ grant_lines topology node number port.grants))
