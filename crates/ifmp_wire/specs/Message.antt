-- The octets of each message of the Ipsilon Flow Management Protocol. Messages, fields and op codes
-- are after RFC 1953; the layout is this project's own.

use Rattle.std.specs.Prelude.{◌≡◌, ℕ, ◌+◌, ◌-◌, ◌*◌, ◌^◌, ◌<◌, ◌≤◌, List, ◌∷◌, ◌++◌}
use Rattle.std.specs.Int.{w16, w32, to_be_bytes}
use Rattle.net_types.specs.declared.adjacency.HelloKind.{HelloKind}
use Rattle.net_types.specs.declared.adjacency.HelloKind.TheVariants.{Syn, Synack, Rstack, Ack}
use Rattle.net_types.specs.declared.channel.Channel.{Channel}
use Rattle.net_types.specs.declared.number.Instance.{Instance}
use Rattle.ipv4_packet.specs.Packet.{internet_sum_of}
use Rattle.ipv4_packet.specs.declared.flow.FlowKind.{FlowKind}
use Rattle.ipv4_packet.specs.declared.flow.FlowKind.TheVariants.{One, Two}
use Rattle.ipv4_packet.specs.declared.flow.FlowId.{FlowId}
use Rattle.ipv4_packet.specs.Flow.{kind_of, IsFlow}
use Rattle.ipv4_packet.specs.Identifier.{identifier, FitsFields}
use Rattle.ifmp_wire.specs.declared.message.Names.{Names}
use Rattle.ifmp_wire.specs.declared.message.Message.{Message}
use Rattle.ifmp_wire.specs.declared.message.Message.TheVariants.{Adjacency, Redirect, Reclaim, ReclaimAck, LabelRange, Error}

-- a label is a channel: a zero octet, its VPI and its VCI
abbrev pub label_octets : Channel → List ℕ
label_octets label = 0 ∷ label.vpi ∷ to_be_bytes w16 label.vci

abbrev pub label_number : Channel → ℕ
label_number label = 65536 * label.vpi + label.vci

abbrev pub hello_code : HelloKind → ℕ
hello_code Syn = 0
hello_code Synack = 1
hello_code Rstack = 2
hello_code Ack = 3

abbrev pub op_code : Message → ℕ
op_code (Adjacency hello) = hello_code hello.kind
op_code (Redirect _ _ _ _ _ _) = 4
op_code (Reclaim _ _ _ _ _) = 5
op_code (ReclaimAck _ _ _ _ _) = 6
op_code (LabelRange _ _ _ _ _) = 7
op_code (Error _ _ _ _ _) = 8

-- a flow's type, and the length of its identifier in words of 4 octets
abbrev pub flow_type : FlowKind → ℕ
flow_type One = 1
flow_type Two = 2

abbrev pub flow_words : FlowKind → ℕ
flow_words One = 4
flow_words Two = 3

-- the instances of sender and receiver, and a number of 32 bits: the Peer Identity of an adjacency
-- message, the Sequence Number of the others
abbrev pub names_of : Message → Names
names_of (Adjacency hello) =
    record { sender = hello.sender; peer = hello.peer; number = hello.identity.0 }
names_of (Redirect sender peer number _ _ _) = record { sender = sender; peer = peer; number = number }
names_of (Reclaim sender peer number _ _) = record { sender = sender; peer = peer; number = number }
names_of (ReclaimAck sender peer number _ _) = record { sender = sender; peer = peer; number = number }
names_of (LabelRange sender peer number _ _) = record { sender = sender; peer = peer; number = number }
names_of (Error sender peer number _ _) = record { sender = sender; peer = peer; number = number }

abbrev pub with_names : Names → List ℕ → List ℕ
with_names names rest =
    to_be_bytes w32 names.sender.0 ++ (to_be_bytes w32 names.peer.0 ++ (to_be_bytes w32 names.number ++ rest))

-- what a message says of a label and its flow; zero stands in place of a lifetime
abbrev pub flow_octets : (lifetime : ℕ) → Channel → FlowId → List ℕ
flow_octets lifetime label flow =
    flow_type (kind_of flow) ∷ flow_words (kind_of flow)
    ∷ (to_be_bytes w16 lifetime ++ (label_octets label ++ identifier flow))

-- the octets behind the names
abbrev pub rest_of : Message → List ℕ
rest_of (Adjacency hello) = to_be_bytes w32 hello.next
rest_of (Redirect _ _ _ lifetime label flow) = flow_octets lifetime label flow
rest_of (Reclaim _ _ _ label flow) = flow_octets 0 label flow
rest_of (ReclaimAck _ _ _ label flow) = flow_octets 0 label flow
rest_of (LabelRange _ _ _ least greatest) = label_octets least ++ label_octets greatest
rest_of (Error _ _ _ code label) = code ∷ 0 ∷ 0 ∷ 0 ∷ label_octets label

-- the octets from the fifth on
abbrev pub body : Message → List ℕ
body message = with_names (names_of message) (rest_of message)

-- version 1, op code, the Internet checksum of the whole with its field zero, body
abbrev pub without_checksum : ℕ → List ℕ → List ℕ
without_checksum op rest = 1 ∷ op ∷ 0 ∷ 0 ∷ rest

abbrev pub with_checksum : ℕ → List ℕ → List ℕ
with_checksum op rest =
    1 ∷ op ∷ (to_be_bytes w16 (65535 - internet_sum_of (without_checksum op rest)) ++ rest)

abbrev pub octets_of : Message → List ℕ
octets_of message = with_checksum (op_code message) (body message)

-- a message that may be sent: labels with a VPI of 8 bits, a flow that packets can have, a lifetime,
-- a range that isn't empty, an error that has a name
abbrev pub IsLabel : Channel → Type 0
IsLabel label = label.vpi < 2 ^ 8

abbrev pub InRange : Message → Type 0
InRange (Adjacency _) = Unit {0}
InRange (Redirect _ _ _ lifetime label flow) = (0 < lifetime) × IsLabel label × IsFlow flow
InRange (Reclaim _ _ _ label flow) = IsLabel label × IsFlow flow
InRange (ReclaimAck _ _ _ label flow) = IsLabel label × IsFlow flow
InRange (LabelRange _ _ _ least greatest) =
    IsLabel least × IsLabel greatest × (label_number least ≤ label_number greatest)
InRange (Error _ _ _ code label) = (1 ≤ code) × (code ≤ 4) × IsLabel label

-- each number has as many bits as its field
abbrev pub FitsHead : Instance → Instance → ℕ → Type 0
FitsHead sender peer number = (sender.0 < 2 ^ 32) × (peer.0 < 2 ^ 32) × (number < 2 ^ 32)

abbrev pub FitsMessage : Message → Type 0
FitsMessage (Adjacency hello) =
    FitsHead hello.sender hello.peer hello.identity.0 × (hello.next < 2 ^ 32)
FitsMessage (Redirect sender peer number lifetime label flow) =
    FitsHead sender peer number × (lifetime < 2 ^ 16) × (label.vci < 2 ^ 16) × FitsFields flow
FitsMessage (Reclaim sender peer number label flow) =
    FitsHead sender peer number × (label.vci < 2 ^ 16) × FitsFields flow
FitsMessage (ReclaimAck sender peer number label flow) =
    FitsHead sender peer number × (label.vci < 2 ^ 16) × FitsFields flow
FitsMessage (LabelRange sender peer number least greatest) =
    FitsHead sender peer number × (least.vci < 2 ^ 16) × (greatest.vci < 2 ^ 16)
FitsMessage (Error sender peer number code label) =
    FitsHead sender peer number × (code < 2 ^ 8) × (label.vci < 2 ^ 16)

-- these octets are this message
pub record Tells (octets : List ℕ) (message : Message) : Type 0 where
  pub spelled : octets ≡ octets_of message
  pub in_range : InRange message
  pub fits : FitsMessage message
