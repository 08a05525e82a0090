-- The channels that a switch connects, in order. Their ranges are this project's own.

use Rattle.std.specs.Prelude.{ℕ, ◌*◌, ◌-◌, ◌≤◌, ◌==◌, nat_le, nat_lt, Bool, ◌&&◌, ◌||◌, if◌then◌else◌, List, map, All}
use Rattle.std.specs.List.{list_any}
use Rattle.std.specs.List.Sorted.{IsStrictlyIncreasing}
use Rattle.std.specs.Ordering.{nat_cmp, ordering_then}
use Rattle.std.specs.declared.cmp.Ordering.{Ordering}
use Rattle.net_types.specs.Channel.{is_default_channel}
use Rattle.net_types.specs.Label.{is_label_vci}
use Rattle.net_types.specs.declared.node.PortNo.{PortNo}
use Rattle.net_types.specs.declared.channel.Channel.{Channel}
use Rattle.net_types.specs.declared.channel.End.{End}

-- the order of ends: by port, then by VPI, then by VCI
abbrev pub end_cmp : End → End → Ordering
end_cmp a b = ordering_then (nat_cmp a.port.0 b.port.0) (ordering_then (nat_cmp a.channel.vpi b.channel.vpi) (nat_cmp a.channel.vci b.channel.vci))

-- port 0 is the control port, the ports of the links are 1 to 8
abbrev pub IsLinkPort : PortNo → Type 0
IsLinkPort p = (1 ≤ p.0) × (p.0 ≤ 8)

-- the ports of a switch: of links, ascending, none twice
pub record ArePorts (ports : List PortNo) : Type 0 where
  pub of_links : All IsLinkPort ports
  pub ascending : IsStrictlyIncreasing (map (λ p. p.0) ports)

-- the default channel of a link, or a label of one of the first so many paths
abbrev pub is_link_channel : (vpis : ℕ) → Channel → Bool
is_link_channel vpis c = is_default_channel c || (nat_lt c.vpi vpis && is_label_vci c.vci)

-- the end is such a channel of port p: there, or as VPI 16p + x for its VPI x on the control port
abbrev pub is_channel_of : PortNo → (vpis : ℕ) → End → Bool
is_channel_of p vpis e =
    nat_lt 0 p.0 && (
    if e.port.0 == 0
    then nat_le (16 * p.0) e.channel.vpi && is_link_channel vpis (record e.channel { vpi = e.channel.vpi - 16 * p.0 })
    else e.port.0 == p.0 && is_link_channel vpis e.channel
    )

-- a channel that a switch with these ports connects; on each it connects so many paths
abbrev pub is_connectable : (ports : List PortNo) → (vpis : ℕ) → End → Bool
is_connectable ports vpis e = list_any (λ p. is_channel_of p vpis e) ports
