-- IFMP messages as text (the messages are after RFC 1953; the words are this project's own)

use Rattle.std.specs.Prelude.{ℕ, List, ◌++◌, codes}
use Rattle.net_types.specs.declared.adjacency.HelloKind.{HelloKind}
use Rattle.net_types.specs.declared.adjacency.HelloKind.TheVariants.{Syn, Synack, Rstack, Ack}
use Rattle.net_types.specs.declared.channel.Channel.{Channel}
use Rattle.net_types.specs.declared.number.Instance.{Instance}
use Rattle.ipv4_packet.specs.declared.flow.FlowId.{FlowId}
use Rattle.ipv4_packet.specs.Identifier.{identifier}
use Rattle.ifmp_wire.specs.declared.message.Message.{Message}
use Rattle.ifmp_wire.specs.declared.message.Message.TheVariants.{Adjacency, Redirect, Reclaim, ReclaimAck, LabelRange, Error}
use Rattle.message_text.specs.Fields.{named_number, named_octets, named_channel, named_address}

abbrev pub hello_word : HelloKind → List ℕ
hello_word Syn = codes "syn"
hello_word Synack = codes "synack"
hello_word Rstack = codes "rstack"
hello_word Ack = codes "ack"

-- which message it is, and the instances of its sender and of its receiver
unfoldable pub between : (word : List ℕ) → (sender peer : Instance) → List ℕ
between word sender peer = word ++ (named_number (codes " from ") sender.0 ++ named_number (codes " to ") peer.0)

-- the same, and its sequence number
unfoldable pub head_text : (word : List ℕ) → (sender peer : Instance) → (number : ℕ) → List ℕ
head_text word sender peer number = between word sender peer ++ named_number (codes " number ") number

-- a label, and the flow that is to use it or used it
unfoldable pub use_text : Channel → FlowId → List ℕ
use_text label flow = named_channel (codes " label ") label ++ named_octets (codes " flow ") (identifier flow)

abbrev pub ifmp_text : Message → List ℕ
ifmp_text (Adjacency hello) =
    between (hello_word hello.kind) hello.sender hello.peer
    ++ (named_address (codes " identity ") hello.identity ++ named_number (codes " next ") hello.next)
ifmp_text (Redirect sender peer number lifetime label flow) =
    head_text (codes "redirect") sender peer number
    ++ (named_number (codes " lifetime ") lifetime ++ use_text label flow)
ifmp_text (Reclaim sender peer number label flow) =
    head_text (codes "reclaim") sender peer number ++ use_text label flow
ifmp_text (ReclaimAck sender peer number label flow) =
    head_text (codes "reclaimack") sender peer number ++ use_text label flow
ifmp_text (LabelRange sender peer number least greatest) =
    head_text (codes "labelrange") sender peer number
    ++ (named_channel (codes " least ") least ++ named_channel (codes " greatest ") greatest)
ifmp_text (Error sender peer number code label) =
    head_text (codes "error") sender peer number
    ++ (named_number (codes " code ") code ++ named_channel (codes " label ") label)
