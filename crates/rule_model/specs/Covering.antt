-- When one rule matches all that another one matches

use Rattle.std.specs.Prelude.{◌≡◌, ℕ, ◌+◌, ◌-◌, ◌^◌, ◌<◌, ◌≤◌, Bool, true, false, ◌&&◌, ◌||◌, not, List, take, position, slice_get, Option, None, Some}
use Rattle.std.specs.Option.{option_map_or, option_and_then}
use Rattle.net_types.specs.declared.prefix.Addr.{Addr}
use Rattle.net_types.specs.Prefix.{Network, IsNetwork, covers as has_address}
use Rattle.port_model.specs.ipv4_packet.declared.flow.FlowId.{FlowId}
use Rattle.port_model.specs.ipv4_packet.Identifier.{FitsFields}
use Rattle.rule_model.specs.declared.rule.Protocol.{Protocol}
use Rattle.rule_model.specs.declared.rule.Protocol.TheVariants as protocols
use Rattle.rule_model.specs.declared.rule.Ports.{Ports}
use Rattle.rule_model.specs.declared.rule.Ports.TheVariants as ports
use Rattle.rule_model.specs.declared.rule.Rule.{Rule}
use Rattle.rule_model.specs.Matching.{has_protocol, has_port, takes_hosts, matches}

-- *Covering*: each flow whose fields have their widths and that the other matches is matched by the one
abbrev pub Covers : (one other : Rule) → Type 0
Covers one other = (flow : FlowId) → FitsFields flow → matches other flow ≡ true → matches one flow ≡ true

-- of two rules of a list, by their places from 0
abbrev pub matched_at : List Rule → (place : ℕ) → FlowId → Bool
matched_at rules place flow = option_map_or (λ rule. matches rule flow) (slice_get rules place) false

abbrev pub CoversAt : List Rule → (m n : ℕ) → Type 0
CoversAt rules m n =
    (flow : FlowId) → FitsFields flow → matched_at rules n flow ≡ true → matched_at rules m flow ≡ true

-- a flow that tells them apart: rule n matches it, and rule m doesn't
pub record TellsApart (rules : List Rule) (m n : ℕ) (flow : FlowId) : Type 0 where
  pub in_range : FitsFields flow
  pub matched : matched_at rules n flow ≡ true
  pub missed : matched_at rules m flow ≡ false

-- the least rule before rule n that covers it, if one does
abbrev pub IsLeastCover : List Rule → (n : ℕ) → Option ℕ → Type 0
IsLeastCover rules n None = (m : ℕ) → m < n → ¬ CoversAt rules m n
IsLeastCover rules n (Some m) =
    (m < n) × CoversAt rules m n × ((earlier : ℕ) → earlier < m → ¬ CoversAt rules earlier n)

-- *The same, field by field*: a prefix has all addresses of another where it has its lowest and its highest; ports
-- likewise
abbrev pub lowest : Network → Addr
lowest network = network.addr

abbrev pub highest : Network → Addr
highest network = record { 0 = network.addr.0 + (2 ^ (32 - network.len) - 1) }

abbrev pub covers_network : (one other : Network) → Bool
covers_network one other = has_address one (lowest other) && has_address one (highest other)

abbrev pub least_port : Ports → ℕ
least_port ports.Any = 0
least_port (ports.Between least greatest) = least

abbrev pub greatest_port : Ports → ℕ
greatest_port ports.Any = 65535
greatest_port (ports.Between least greatest) = greatest

abbrev pub covers_ports : (one other : Ports) → Bool
covers_ports one other = has_port one (least_port other) && has_port one (greatest_port other)

-- of flows of type 1
abbrev pub has_connections : Protocol → Bool
has_connections protocols.Udp = true
has_connections protocols.Tcp = true
has_connections protocols.Two = false
has_connections protocols.Any = true

abbrev pub covers_protocol : (one other : Protocol) → Bool
covers_protocol one protocols.Udp = has_protocol one 17
covers_protocol one protocols.Tcp = has_protocol one 6
covers_protocol one protocols.Two = true
covers_protocol one protocols.Any = has_protocol one 17 && has_protocol one 6

abbrev pub covers_ends : (one other : Rule) → Bool
covers_ends one other =
    covers_network one.source other.source && covers_network one.destination other.destination

abbrev pub covers_connections : (one other : Rule) → Bool
covers_connections one other =
    not (has_connections other.protocol)
    || (covers_ends one other
    && (covers_protocol one.protocol other.protocol
    && (covers_ports one.source_ports other.source_ports && covers_ports one.destination_ports other.destination_ports)))

-- of flows of type 2
abbrev pub covers_hosts : (one other : Rule) → Bool
covers_hosts one other = not (takes_hosts other) || (covers_ends one other && takes_hosts one)

abbrev pub covers : (one other : Rule) → Bool
covers one other = covers_connections one other && covers_hosts one other

-- the least place before n whose rule covers that at n
abbrev pub covered : List Rule → (n : ℕ) → Option ℕ
covered rules n =
    option_and_then (λ (rule : Rule). position (λ (earlier : Rule). covers earlier rule) (take n rules)) (slice_get rules n)

-- *A rule that a line can say*: its prefixes are some, and its ranges aren't empty
pub record IsPrefix (network : Network) : Type 0 where
  pub network_is : IsNetwork network.addr.0 network.len
  pub fits : network.addr.0 < 2 ^ 32

abbrev pub IsRange : Ports → Type 0
IsRange ports.Any = Unit {0}
IsRange (ports.Between least greatest) = (least ≤ greatest) × (greatest < 2 ^ 16)

pub record IsRule (rule : Rule) : Type 0 where
  pub source : IsPrefix rule.source
  pub destination : IsPrefix rule.destination
  pub source_ports : IsRange rule.source_ports
  pub destination_ports : IsRange rule.destination_ports
