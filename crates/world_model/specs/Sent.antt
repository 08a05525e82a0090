-- Facts on order, of the messages between the two ends of a link

use Rattle.std.specs.Prelude.{◌≡◌, ℕ, ◌≤◌, Contains, Option, None, Some}
use Rattle.network_model.specs.net_types.declared.number.Instance.{Instance}
use Rattle.network_model.specs.net_types.declared.adjacency.Hello.{Hello}
use Rattle.network_model.specs.net_types.declared.adjacency.HelloKind.TheVariants.{Ack}
use Rattle.network_model.specs.net_types.declared.adjacency.Peer.{Peer}
use Rattle.network_model.specs.adjacency_table.declared.State.TheVariants.{Estab}
use Rattle.network_model.specs.adjacency_table.Side.{Side}
use Rattle.network_model.specs.atm_cells.declared.cell.Cell.{Cell}
use Rattle.network_model.specs.ifmp_wire.declared.message.Message.{Message}
use Rattle.network_model.specs.ifmp_wire.declared.message.Message.TheVariants.{Adjacency, Redirect, Reclaim, ReclaimAck, LabelRange, Error}
use Rattle.network_model.specs.port_model.Port.{Session}
use Rattle.network_model.specs.declared.link.LinkEnd.{LinkEnd}
use Rattle.network_model.specs.World.{World}
use Rattle.world_model.specs.Ways.{session_at, side_at, on_the_way, ifmp_under}

-- *Redirection messages*: by their two instances and their number
pub record Numbered : Type 0 where
  pub sender : Instance
  pub peer : Instance
  pub number : ℕ

abbrev pub numbered : Message → Option Numbered
numbered (Adjacency hello) = None
numbered (Redirect sender peer number lifetime label flow) = Some (record { sender = sender; peer = peer; number = number })
numbered (Reclaim sender peer number label flow) = Some (record { sender = sender; peer = peer; number = number })
numbered (ReclaimAck sender peer number label flow) = Some (record { sender = sender; peer = peer; number = number })
numbered (LabelRange sender peer number least greatest) = Some (record { sender = sender; peer = peer; number = number })
numbered (Error sender peer number code label) = Some (record { sender = sender; peer = peer; number = number })

-- none with these two instances and a number below this one is on the way
abbrev pub HasNoneBelow : World → (from to : LinkEnd) → (sender peer : Instance) → (least : ℕ) → Type 0
HasNoneBelow w from to sender peer least =
    (cell : Cell) (m : Message) (n : Numbered) → Contains (on_the_way w from to) cell
    → ifmp_under w.notes.frames cell.mark ≡ Some m → numbered m ≡ Some n
    → n.sender.0 ≡ sender.0 → n.peer.0 ≡ peer.0 → least ≤ n.number

-- *What an end in Estab expects*: nothing of its peer that is below the expected number comes any more
abbrev pub IsNotOverdue : World → (from to : LinkEnd) → Type 0
IsNotOverdue w from to =
    (side : Side Peer) (peer : Peer) (session : Session) → side_at w to ≡ Some side → side.state ≡ Estab
    → side.stored ≡ Some peer → session_at w to ≡ Some session
    → HasNoneBelow w from to peer.instance side.own.instance session.expected

-- *What an end in Estab knows*: nothing of its own that is below the number that its peer is known to expect next, or
-- that an ACK on the way from its peer says, is on the way there
pub record HasArrived (w : World) (from to : LinkEnd) (side : Side Peer) (peer : Peer) (session : Session) : Type 0 where
  pub known : HasNoneBelow w from to side.own.instance peer.instance session.known
  pub said : (cell : Cell) (hello : Hello) → Contains (on_the_way w to from) cell
      → ifmp_under w.notes.frames cell.mark ≡ Some (Adjacency hello) → hello.kind ≡ Ack
      → hello.sender.0 ≡ peer.instance.0 → hello.peer.0 ≡ side.own.instance.0
      → HasNoneBelow w from to side.own.instance peer.instance hello.next

abbrev pub IsKnownRightly : World → (from to : LinkEnd) → Type 0
IsKnownRightly w from to =
    (side : Side Peer) (peer : Peer) (session : Session) → side_at w from ≡ Some side → side.state ≡ Estab
    → side.stored ≡ Some peer → session_at w from ≡ Some session → HasArrived w from to side peer session
