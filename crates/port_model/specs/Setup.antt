-- What stays the same of a port in a run, and the names of its channels

use Rattle.std.specs.Prelude.{ℕ, Bool, ◌+◌, ◌-◌, ◌==◌, ◌&&◌, ◌||◌, nat_lt, nat_le, List, filter}
use Rattle.std.specs.List.{range_with_len}
use Rattle.net_types.specs.declared.prefix.Addr.{Addr}
use Rattle.net_types.specs.declared.node.NodeId.{NodeId}
use Rattle.net_types.specs.declared.node.PortNo.{PortNo}
use Rattle.net_types.specs.declared.channel.Channel.{Channel}
use Rattle.net_types.specs.declared.channel.End.{End}
use Rattle.net_types.specs.Channel.{channel_on_control}
use Rattle.net_types.specs.Label.{label_channel_of, is_label_number}
use Rattle.link_model.specs.ipv4_packet.declared.flow.FlowId.{FlowId}
use Rattle.port_model.specs.declared.timers.Timers.{Timers}

-- when a flow is offered a label, by its packets in the window, and when a label is kept that was idle
-- for so many ticks
pub record Policy : Type 0 where
  pub offers : FlowId → (packets : ℕ) → Bool
  pub keeps : FlowId → (idle : ℕ) → Bool

-- the node and the port, the node's address, the range of labels that the port hands out and takes, by
-- their numbers, the timers and the policy
pub record Setup : Type 0 where
  pub node : NodeId
  pub port : PortNo
  pub address : Addr
  pub least : ℕ
  pub greatest : ℕ
  pub timers : Timers
  pub policy : Policy

-- a number of a label in the port's range
abbrev pub is_in_range : Setup → (number : ℕ) → Bool
is_in_range setup number = is_label_number number && (nat_le setup.least number && nat_le number setup.greatest)

-- the labels of the port, the lowest first
abbrev pub label_numbers : Setup → List ℕ
label_numbers setup =
    filter (is_in_range setup) (range_with_len setup.least (setup.greatest + 1 - setup.least))

-- label number l of port p is a channel of the port, and shows on the control link
abbrev pub label_end : PortNo → (number : ℕ) → End
label_end port number = record { port = port; channel = label_channel_of number }

abbrev pub home_of : End → End
home_of end = record { port = record { 0 = 0 }; channel = channel_on_control end.port end.channel }

abbrev pub control_end : PortNo → (number : ℕ) → End
control_end port number = home_of (label_end port number)

-- the order of channels: by VPI, then by VCI
abbrev pub channel_le : Channel → Channel → Bool
channel_le a b = nat_lt a.vpi b.vpi || (a.vpi == b.vpi && nat_le a.vci b.vci)

abbrev pub is_between : (least greatest : Channel) → Channel → Bool
is_between least greatest channel = channel_le least channel && channel_le channel greatest
