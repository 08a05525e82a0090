-- The octets that identify a flow in a message: those of the header fields that its packets share,
-- and for type 1 the ports behind them. The layout is this project's own, after RFC 1953.

use Rattle.std.specs.Prelude.{◌≡◌, ℕ, ◌^◌, ◌<◌, ◌==◌, ◌&&◌, nat_lt, not, Bool, true, List, ◌∷◌, ◌++◌, length, slice_index, Option, Some, None, if◌then◌else◌}
use Rattle.std.specs.Int.{w16, w32, to_be_bytes}
use Rattle.ipv4_packet.specs.declared.flow.FlowKind.{FlowKind}
use Rattle.ipv4_packet.specs.declared.flow.FlowKind.TheVariants.{One as ConnectionKind, Two as HostsKind}
use Rattle.ipv4_packet.specs.declared.flow.FlowId.{FlowId}
use Rattle.ipv4_packet.specs.declared.flow.FlowId.TheVariants.{One, Two}
use Rattle.ipv4_packet.specs.declared.identifier.FlowFault.{FlowFault}
use Rattle.ipv4_packet.specs.declared.identifier.FlowFault.TheVariants.{Size, Reserved, Fields}
use Rattle.ipv4_packet.specs.Flow.{kind_of, has_ports, IsFlow}

-- version and header length, TOS, TTL, protocol, source, destination and ports, or zeros in place of
-- TOS and protocol and no ports
abbrev pub identifier : FlowId → List ℕ
identifier (One tos ttl protocol source destination source_port destination_port) =
    69 ∷ tos ∷ ttl ∷ protocol ∷ (to_be_bytes w32 source.0 ++ (to_be_bytes w32 destination.0
    ++ (to_be_bytes w16 source_port ++ to_be_bytes w16 destination_port)))
identifier (Two ttl source destination) =
    69 ∷ 0 ∷ ttl ∷ 0 ∷ (to_be_bytes w32 source.0 ++ to_be_bytes w32 destination.0)

-- each number has as many bits as its field
abbrev pub FitsFields : FlowId → Type 0
FitsFields (One tos ttl protocol source destination source_port destination_port) =
    (tos < 2 ^ 8) × (ttl < 2 ^ 8) × (protocol < 2 ^ 8) × (source.0 < 2 ^ 32) × (destination.0 < 2 ^ 32)
    × (source_port < 2 ^ 16) × (destination_port < 2 ^ 16)
FitsFields (Two ttl source destination) =
    (ttl < 2 ^ 8) × (source.0 < 2 ^ 32) × (destination.0 < 2 ^ 32)

-- these octets identify this flow, of this kind
pub record Identifies (kind : FlowKind) (octets : List ℕ) (flow : FlowId) : Type 0 where
  pub of_kind : kind_of flow ≡ kind
  pub spelled : octets ≡ identifier flow
  pub in_range : IsFlow flow
  pub fits : FitsFields flow

-- the tests of a reader in their order: which fails first
abbrev pub identifier_size : FlowKind → ℕ
identifier_size ConnectionKind = 16
identifier_size HostsKind = 12

abbrev pub has_zeros : FlowKind → List ℕ → Bool
has_zeros ConnectionKind octets = true
has_zeros HostsKind octets = slice_index octets 1 == 0 && slice_index octets 3 == 0

abbrev pub has_fields : FlowKind → List ℕ → Bool
has_fields ConnectionKind octets =
    slice_index octets 0 == 69 && (nat_lt 0 (slice_index octets 2) && has_ports (slice_index octets 3))
has_fields HostsKind octets = slice_index octets 0 == 69 && nat_lt 0 (slice_index octets 2)

abbrev pub first_fault : FlowKind → List ℕ → Option FlowFault
first_fault kind octets =
    if not (length octets == identifier_size kind) then Some Size
    else if not (has_zeros kind octets) then Some Reserved
    else if not (has_fields kind octets) then Some Fields
    else None
