-- The parties and messages of an IFMP adjacency (RFC 1953, IFMP Adjacency Protocol)

use Rattle.std.specs.Prelude.{ℕ, Bool, ◌&&◌, ◌==◌}
use Rattle.std.specs.Option.{option_map, option_map_or}
use Rattle.net_types.specs.declared.prefix.Addr.{Addr}
use Rattle.net_types.specs.declared.number.Instance.{Instance}
use Rattle.net_types.specs.declared.adjacency.Hello.{Hello}
use Rattle.net_types.specs.declared.adjacency.Peer.{Peer}
use Rattle.net_types.specs.declared.adjacency.HelloKind.{HelloKind}
use Rattle.net_types.specs.declared.adjacency.HelloKind.TheVariants.{Synack, Ack}
use Rattle.adjacency_table.specs.declared.message.Heard.{Heard}
use Rattle.adjacency_table.specs.declared.message.Said.{Said}
use Rattle.adjacency_table.specs.declared.message.Answer.{Answer}
use Rattle.adjacency_table.specs.declared.message.Answer.TheVariants.{Quiet, Send, Open, Reset}
use Rattle.adjacency_table.specs.Side.{Side, Step, received}

abbrev pub same_peer : Peer → Peer → Bool
same_peer x y = (x.instance.0 == y.instance.0) && (x.address.0 == y.address.0)

-- a message as its receiver hears it: the sender's identity is the source address of its packet
abbrev pub heard_from : Addr → Hello → Heard Peer
heard_from source hello = record {
  kind = hello.kind;
  sender = record { instance = hello.sender; address = source };
  receiver = record { instance = hello.peer; address = hello.identity };
}

-- the sequence number that a message carries: the expected one in SYNACK and ACK
abbrev pub next_in : HelloKind → ℕ → ℕ
next_in Synack next = next
next_in Ack next = next
next_in _ _ = 0

-- a message as it is written: where it names no receiver, the receiver's fields are 0
abbrev pub hello_of : ℕ → Said Peer → Hello
hello_of next m = record {
  kind = m.kind;
  sender = m.sender.instance;
  peer = record { 0 = option_map_or (λ peer. peer.instance.0) m.receiver 0 };
  identity = record { 0 = option_map_or (λ peer. peer.address.0) m.receiver 0 };
  next = next_in m.kind next;
}

-- an answer in IFMP's messages; what it hands out stands for the own instance
abbrev pub ifmp_answer : ℕ → Answer (Said Peer) Peer → Answer Hello Instance
ifmp_answer next Quiet = Quiet
ifmp_answer next (Send m) = Send (hello_of next m)
ifmp_answer next (Open m own) = Open (option_map (hello_of next) m) own.instance
ifmp_answer next Reset = Reset

-- what a message from this source makes of a side
abbrev pub ifmp_received : Side Peer → Addr → Hello → Step Peer
ifmp_received a source hello = received same_peer a (heard_from source hello)
