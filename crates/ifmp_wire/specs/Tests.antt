-- The tests of a receiver in their order: which fails first. Those of the head come first, then
-- those of what the op code says.

use Rattle.std.specs.Prelude.{◌≡◌, ℕ, ◌+◌, ◌-◌, ◌==◌, ◌&&◌, ◌||◌, ◌≤◌, nat_lt, nat_le, not, Bool, IsTrue, List, [], ◌∷◌, length, drop, slice_index, Option, Some, None, if◌then◌else◌}
use Rattle.std.specs.Option.{option_or}
use Rattle.octet_fields.specs.Fields.{u16_at, u32_at, written}
use Rattle.ipv4_packet.specs.Packet.{internet_sum_of}
use Rattle.ipv4_packet.specs.declared.flow.FlowKind.{FlowKind}
use Rattle.ipv4_packet.specs.declared.flow.FlowKind.TheVariants.{One, Two}
use Rattle.ipv4_packet.specs.Identifier.{identifier_size, has_zeros, has_fields}
use Rattle.ifmp_wire.specs.declared.reader.Fault.{Fault}
use Rattle.ifmp_wire.specs.declared.reader.Fault.TheVariants.{Short, Version, OpCode, Size, Checksum, FlowType, FlowLength, ZeroLifetime, LabelReserved, RangeOrder, ErrorCode, Reserved, FlowFields}
use Rattle.ifmp_wire.specs.Message.{flow_type, flow_words}

abbrev pub op_at : List ℕ → ℕ
op_at octets = slice_index octets 1

-- 20 octets for an adjacency message, 36 or 40 with a flow, 24 for the other two
abbrev pub has_size : List ℕ → Bool
has_size octets =
    if nat_le (op_at octets) 3 then length octets == 20
    else if nat_le (op_at octets) 6 then (length octets == 36 || length octets == 40)
    else length octets == 24

-- the checksum that octets should have (RFC 1071)
abbrev pub checksum_of : List ℕ → ℕ
checksum_of octets = 65535 - internet_sum_of (written octets 2 (0 ∷ 0 ∷ []))

abbrev pub head_fault : List ℕ → Option Fault
head_fault octets =
    if nat_lt (length octets) 4 then Some Short
    else if not (slice_index octets 0 == 1) then Some Version
    else if nat_lt 8 (op_at octets) then Some OpCode
    else if not (has_size octets) then Some Size
    else if not (u16_at octets 2 == checksum_of octets) then Some Checksum
    else None

-- the kind that the flow type names
abbrev pub has_kind : FlowKind → List ℕ → Bool
has_kind kind octets =
    slice_index octets 17 == flow_words kind && length octets == 24 + identifier_size kind

abbrev pub kind_fault : List ℕ → Option Fault
kind_fault octets =
    if slice_index octets 16 == flow_type One
    then (if has_kind One octets then None else Some FlowLength)
    else if slice_index octets 16 == flow_type Two
    then (if has_kind Two octets then None else Some FlowLength)
    else Some FlowType

abbrev pub kind_at : List ℕ → FlowKind
kind_at octets = if slice_index octets 16 == flow_type One then One else Two

-- a flow identifier behind its label
abbrev pub identifier_fault : FlowKind → List ℕ → Option Fault
identifier_fault kind octets =
    if not (has_zeros kind octets) then Some Reserved
    else if not (has_fields kind octets) then Some FlowFields
    else None

-- REDIRECT alone has a lifetime, where the others have zeros
abbrev pub lifetime_fault : List ℕ → Option Fault
lifetime_fault octets =
    if op_at octets == 4 && u16_at octets 18 == 0 then Some ZeroLifetime
    else if not (slice_index octets 20 == 0) then Some LabelReserved
    else if not (op_at octets == 4) && not (u16_at octets 18 == 0) then Some Reserved
    else None

abbrev pub flow_fault : List ℕ → Option Fault
flow_fault octets =
    option_or (kind_fault octets)
    (option_or (lifetime_fault octets) (identifier_fault (kind_at octets) (drop 24 octets)))

abbrev pub range_fault : List ℕ → Option Fault
range_fault octets =
    if not (slice_index octets 16 == 0 && slice_index octets 20 == 0) then Some LabelReserved
    else if nat_lt (u32_at octets 20) (u32_at octets 16) then Some RangeOrder
    else None

abbrev pub error_fault : List ℕ → Option Fault
error_fault octets =
    if not (slice_index octets 20 == 0) then Some LabelReserved
    else if not (nat_le 1 (slice_index octets 16) && nat_le (slice_index octets 16) 4) then Some ErrorCode
    else if not (slice_index octets 17 == 0 && (slice_index octets 18 == 0 && slice_index octets 19 == 0)) then Some Reserved
    else None

abbrev pub body_fault : List ℕ → Option Fault
body_fault octets =
    if nat_le (op_at octets) 3 then None
    else if nat_le (op_at octets) 6 then flow_fault octets
    else if op_at octets == 7 then range_fault octets
    else error_fault octets

abbrev pub first_fault : List ℕ → Option Fault
first_fault octets = option_or (head_fault octets) (body_fault octets)

-- what the tests of the head leave known
pub record HasHead (octets : List ℕ) : Type 0 where
  pub version : slice_index octets 0 ≡ 1
  pub known : op_at octets ≤ 8
  pub size : IsTrue (has_size octets)
  pub sum : u16_at octets 2 ≡ checksum_of octets

-- what the tests of flow type and flow length leave known
pub record HasKind (octets : List ℕ) (kind : FlowKind) : Type 0 where
  pub named : slice_index octets 16 ≡ flow_type kind
  pub words : slice_index octets 17 ≡ flow_words kind
  pub size : length octets ≡ 24 + identifier_size kind
