-- The fields of octets that are a message, by their places, and the message that octets are

use Rattle.std.specs.Prelude.{ℕ, ◌+◌, ◌==◌, nat_le, List, drop, slice_index, Option, Some, None, Result, Ok, Err, if◌then◌else◌}
use Rattle.net_types.specs.declared.prefix.Addr.{Addr}
use Rattle.net_types.specs.declared.adjacency.Hello.{Hello}
use Rattle.net_types.specs.declared.adjacency.HelloKind.{HelloKind}
use Rattle.net_types.specs.declared.adjacency.HelloKind.TheVariants.{Syn, Synack, Rstack, Ack}
use Rattle.net_types.specs.declared.channel.Channel.{Channel}
use Rattle.net_types.specs.declared.number.Instance.{Instance}
use Rattle.octet_fields.specs.Fields.{u16_at, u32_at}
use Rattle.ipv4_packet.specs.declared.flow.FlowKind.{FlowKind}
use Rattle.ipv4_packet.specs.declared.flow.FlowKind.TheVariants as flow_kinds
use Rattle.ipv4_packet.specs.declared.flow.FlowId.{FlowId}
use Rattle.ipv4_packet.specs.declared.flow.FlowId.TheVariants.{One, Two}
use Rattle.ifmp_wire.specs.declared.message.Message.{Message}
use Rattle.ifmp_wire.specs.declared.message.Message.TheVariants.{Adjacency, Redirect, Reclaim, ReclaimAck, LabelRange, Error}
use Rattle.ifmp_wire.specs.declared.reader.Fault.{Fault}
use Rattle.ifmp_wire.specs.Tests.{op_at, kind_at, first_fault}

abbrev pub instance_at : List ℕ → (place : ℕ) → Instance
instance_at octets place = record { 0 = u32_at octets place }

abbrev pub addr_at : List ℕ → (place : ℕ) → Addr
addr_at octets place = record { 0 = u32_at octets place }

-- a label: its VPI and its VCI behind a zero octet
abbrev pub label_at : List ℕ → (place : ℕ) → Channel
label_at octets place = record { vpi = slice_index octets (place + 1); vci = u16_at octets (place + 2) }

abbrev pub flow_in : FlowKind → (identifier : List ℕ) → FlowId
flow_in flow_kinds.One octets =
    One (slice_index octets 1) (slice_index octets 2) (slice_index octets 3) (addr_at octets 4) (addr_at octets 8)
    (u16_at octets 12) (u16_at octets 14)
flow_in flow_kinds.Two octets = Two (slice_index octets 2) (addr_at octets 4) (addr_at octets 8)

abbrev pub flow_at : List ℕ → FlowId
flow_at octets = flow_in (kind_at octets) (drop 24 octets)

abbrev pub hello_kind : (op : ℕ) → HelloKind
hello_kind op = if op == 0 then Syn else (if op == 1 then Synack else (if op == 2 then Rstack else Ack))

abbrev pub hello_at : List ℕ → Hello
hello_at octets = record {
  kind = hello_kind (op_at octets);
  sender = instance_at octets 4;
  peer = instance_at octets 8;
  identity = addr_at octets 12;
  next = u32_at octets 16;
}

abbrev pub redirection_at : List ℕ → (sender peer : Instance) → (number : ℕ) → Message
redirection_at octets sender peer number =
    if op_at octets == 4 then Redirect sender peer number (u16_at octets 18) (label_at octets 20) (flow_at octets)
    else (if op_at octets == 5 then Reclaim sender peer number (label_at octets 20) (flow_at octets)
    else (if op_at octets == 6 then ReclaimAck sender peer number (label_at octets 20) (flow_at octets)
    else (if op_at octets == 7 then LabelRange sender peer number (label_at octets 16) (label_at octets 20)
    else Error sender peer number (slice_index octets 16) (label_at octets 20))))

abbrev pub message_at : List ℕ → Message
message_at octets =
    if nat_le (op_at octets) 3 then Adjacency (hello_at octets)
    else redirection_at octets (instance_at octets 4) (instance_at octets 8) (u32_at octets 12)

-- what octets are: the message of their fields, or the first test that they fail
abbrev pub decoded_by : Option Fault → List ℕ → Result Message Fault
decoded_by (Some fault) octets = Err fault
decoded_by None octets = Ok (message_at octets)

unfoldable pub decoded : List ℕ → Result Message Fault
decoded octets = decoded_by (first_fault octets) octets
