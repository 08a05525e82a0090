-- The fields of octets that are a message, by their places, and the message of octets (`decoded`),
-- which definitions above cite. What `decode` does is said by Layout alone.

use Rattle.std.specs.Prelude.{ℕ, ◌+◌, ◌==◌, List, [], ◌∷◌, take, drop, zero, suc, slice_index, Option, Some, None, Result, Ok, Err, if◌then◌else◌}
use Rattle.net_types.specs.declared.adjacency.Party.{Party}
use Rattle.net_types.specs.declared.adjacency.HelloKind.{HelloKind}
use Rattle.net_types.specs.declared.adjacency.HelloKind.TheVariants.{Syn, Synack, Rstack, Ack}
use Rattle.net_types.specs.declared.channel.Channel.{Channel}
use Rattle.gsmp_wire.specs.declared.fault.Fault.{Fault}
use Rattle.gsmp_wire.specs.declared.fault.Fault.TheVariants as faults
use Rattle.gsmp_wire.specs.declared.message.Connection.{Connection}
use Rattle.gsmp_wire.specs.declared.message.MessageType.{MessageType}
use Rattle.gsmp_wire.specs.declared.message.MessageType.TheVariants as kinds
use Rattle.gsmp_wire.specs.declared.message.Message.{Message}
use Rattle.gsmp_wire.specs.declared.message.Message.TheVariants.{Adjacency, Branch, Move, Port, AllPorts}
use Rattle.gsmp_wire.specs.declared.rows.PortRow.{PortRow}
use Rattle.octet_fields.specs.Fields.{u16_at, u32_at}
use Rattle.gsmp_wire.specs.Refusal.{refusal, type_of}

abbrev pub channel_in : (place : ℕ) → List ℕ → Channel
channel_in place m = record { vpi = u16_at m place; vci = u16_at m (place + 2) }

abbrev pub connection_in : List ℕ → Connection
connection_in m = record {
  transaction = u32_at m 4;
  session = u32_at m 8;
  input_port = u32_at m 12;
  input = channel_in 16 m;
  output_port = u32_at m 20;
  output = channel_in 24 m;
  branches = u16_at m 28;
  priority = slice_index m 31;
}

abbrev pub hello_kind : (code : ℕ) → HelloKind
hello_kind code =
    if code == 1 then Syn else (if code == 2 then Synack else (if code == 3 then Ack else Rstack))

abbrev pub party_in : (name port instance : ℕ) → List ℕ → Party
party_in name port instance m = record {
  name = take 6 (drop name m);
  port = u32_at m port;
  instance = record { 0 = u32_at m instance };
}

abbrev pub row_in : List ℕ → PortRow
row_in r = record {
  port = u32_at r 0;
  session = u32_at r 4;
  up = slice_index r 8 == 1;
  least = u16_at r 10;
  greatest = u16_at r 12;
}

abbrev pub rows_in : (count : ℕ) → List ℕ → List PortRow
rows_in zero rows = []
rows_in (suc count) rows = row_in rows ∷ rows_in count (drop 16 rows)

abbrev pub message_in : MessageType → List ℕ → Message
message_in kinds.Adjacency m =
    Adjacency (record {
      kind = hello_kind (slice_index m 3);
      sender = party_in 4 16 24 m;
      receiver = party_in 10 20 28 m;
    })
message_in (kinds.Branch kind) m =
    Branch kind (slice_index m 2) (slice_index m 3) (u32_at m 4) (u32_at m 8) (u32_at m 12)
    (channel_in 16 m) (u32_at m 20) (channel_in 24 m) (u16_at m 28) (slice_index m 31)
message_in kinds.Move m =
    Move (slice_index m 2) (slice_index m 3) (u32_at m 4) (u32_at m 8) (u32_at m 12)
    (channel_in 16 m) (u32_at m 20) (channel_in 24 m) (u32_at m 32) (channel_in 36 m)
    (u16_at m 28) (slice_index m 31)
message_in kinds.Port m =
    Port (slice_index m 2) (slice_index m 3) (u32_at m 4) (u32_at m 8) (u32_at m 12)
    (slice_index m 16)
message_in kinds.AllPorts m =
    AllPorts (slice_index m 2) (slice_index m 3) (u32_at m 4) (rows_in (u16_at m 8) (drop 12 m))

-- what octets are: the message of their fields, or why they are none; a message type that there isn't
-- is a refusal already
abbrev pub decoded_by : Option Fault → Option MessageType → List ℕ → Result Message Fault
decoded_by (Some fault) kind m = Err fault
decoded_by None (Some kind) m = Ok (message_in kind m)
decoded_by None None m = Err faults.MessageType

unfoldable pub decoded : List ℕ → Result Message Fault
decoded octets = decoded_by (refusal octets) (type_of (slice_index octets 9)) (drop 8 octets)
