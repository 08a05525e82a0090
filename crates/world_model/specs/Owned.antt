-- Ownership of a label: what is so of it in every world

use Rattle.std.specs.Prelude.{◌≡◌, ℕ, suc, true, Contains, slice_get, Option, None, Some}
use Rattle.network_model.specs.net_types.declared.channel.End.{End}
use Rattle.network_model.specs.net_types.declared.number.Instance.{Instance}
use Rattle.network_model.specs.net_types.declared.adjacency.Peer.{Peer}
use Rattle.network_model.specs.net_types.Label.{label_channel_of}
use Rattle.network_model.specs.adjacency_table.declared.State.TheVariants.{Clearing, Estab}
use Rattle.network_model.specs.adjacency_table.Side.{Side}
use Rattle.network_model.specs.atm_cells.declared.cell.Cell.{Cell}
use Rattle.network_model.specs.ipv4_packet.declared.flow.FlowId.{FlowId}
use Rattle.network_model.specs.ifmp_wire.declared.message.Message.TheVariants.{Reclaim, ReclaimAck}
use Rattle.network_model.specs.keyed_lists.Keyed.{at}
use Rattle.network_model.specs.port_model.Setup.{label_end, control_end}
use Rattle.network_model.specs.port_model.Labels.{Label, LabelState, Wiring, Offered, Recalled, Wired, label_number}
use Rattle.network_model.specs.port_model.Grants.{Grant, Leaving}
use Rattle.network_model.specs.port_model.Port.{Session}
use Rattle.network_model.specs.declared.link.LinkEnd.{LinkEnd}
use Rattle.network_model.specs.World.{World}
use Rattle.world_model.specs.Ways.{session_at, grants_at, side_at, output_at, on_the_way, ifmp_under}
use Rattle.world_model.specs.Past.{Past, last_bound}
use Rattle.world_model.specs.Users.{Way, User, Uses, IsUnused, IsOwn, StandsFor}

-- *The label at the port that hands it out*: spare where it isn't held, and still while it is being wired; wired before
-- it is bound, and once it was quit
abbrev pub held : Session → (label : ℕ) → Option Label
held session label = at label_number label session.labels

abbrev pub IsWiring : LabelState → Type 0
IsWiring Wiring = Unit {0}
IsWiring state = ⊥

abbrev pub IsSpare : Option Label → Type 0
IsSpare None = Unit {0}
IsSpare (Some label) = IsWiring label.state

abbrev pub IsWired : LabelState → Type 0
IsWired Wiring = Unit {0}
IsWired Offered = ⊥
IsWired (Recalled last acknowledged) = ⊥
IsWired Wired = Unit {0}

abbrev pub IsSpareOrWired : Option Label → Type 0
IsSpareOrWired None = Unit {0}
IsSpareOrWired (Some label) = IsWired label.state

abbrev pub IsNotRecalledIn : LabelState → Type 0
IsNotRecalledIn (Recalled last acknowledged) = ⊥
IsNotRecalledIn state = Unit {0}

abbrev pub IsNotRecalled : Option Label → Type 0
IsNotRecalled None = Unit {0}
IsNotRecalled (Some label) = IsNotRecalledIn label.state

-- *Users* stand for the flow that the label was bound to last
pub record StandsForLast (past : Past) (way : Way) (label : ℕ) (user : User) : Type 0 where
  pub flow : FlowId
  pub bound : last_bound past.records way.down label ≡ Some flow
  pub stands : StandsFor past way user flow

-- *Reclaims*: none is on the way, no acknowledgement is, and none is owed
pub record HasNoReclaim (w : World) (way : Way) (label : ℕ) : Type 0 where
  pub no_reclaim : (cell : Cell) (sender peer : Instance) (number : ℕ) (flow : FlowId)
      → Contains (on_the_way w way.down way.up) cell
      → ifmp_under w.notes.frames cell.mark ≡ Some (Reclaim sender peer number (label_channel_of label) flow)
      → IsOwn sender (side_at w way.down) → IsOwn peer (side_at w way.up) → ⊥
  pub no_ack : (cell : Cell) (sender peer : Instance) (number : ℕ) (flow : FlowId)
      → Contains (on_the_way w way.up way.down) cell
      → ifmp_under w.notes.frames cell.mark ≡ Some (ReclaimAck sender peer number (label_channel_of label) flow)
      → IsOwn sender (side_at w way.up) → IsOwn peer (side_at w way.down) → ⊥
  pub none_owed : (grant : Grant) (input : End)
      → Contains (grants_at w way.up) grant → grant.label ≡ label → grant.state ≡ Leaving input true → ⊥

-- *Clearing*: between two worlds a port was cleared under an instance that it had drawn, and had drawn no other since
abbrev pub WaitsAs : (instance : ℕ) → Option (Side Peer) → Type 0
WaitsAs instance None = ⊥
WaitsAs instance (Some side) = (side.state ≡ Clearing) × (side.own.instance.0 ≡ instance)

abbrev pub IsClearedAs : (instance : ℕ) → Option (Side Peer) → Type 0
IsClearedAs instance None = ⊥
IsClearedAs instance (Some side) = (side.state ≡ Clearing → ⊥) × (side.own.instance.0 ≡ instance)

pub record WasCleared (past : Past) (end : LinkEnd) (instance : ℕ) : Type 0 where
  pub place : ℕ
  pub before : World
  pub is_before : slice_get past.worlds place ≡ Some before
  pub after : World
  pub is_after : slice_get past.worlds (suc place) ≡ Some after
  pub waits : WaitsAs instance (side_at before end)
  pub cleared : IsClearedAs instance (side_at after end)

-- an end in Estab has stored an instance under which its peer's port was cleared
pub record HasStored (past : Past) (far : LinkEnd) (side : Side Peer) : Type 0 where
  pub peer : Peer
  pub stored : side.stored ≡ Some peer
  pub cleared : WasCleared past far peer.instance.0

abbrev pub KnowsCleared : Past → (own far : LinkEnd) → Type 0
KnowsCleared past own far =
    (side : Side Peer) → side_at past.now own ≡ Some side → side.state ≡ Estab → HasStored past far side

-- *Ownership*. A pool is open while its port has a session
pub record IsOwned (past : Past) (way : Way) (label : ℕ) : Type 0 where
  pub users : (user : User) → Uses past.now way label user → StandsForLast past way label user
  pub unused : (session : Session) → session_at past.now way.down ≡ Some session
      → IsSpareOrWired (held session label) → IsUnused past.now way label
  pub unjoined : (session : Session) → session_at past.now way.down ≡ Some session → IsSpare (held session label)
      → (output : End) → output_at past.now way.down.node (label_end way.down.port label) ≡ Some output
      → output ≡ control_end way.down.port label
  pub unreclaimed : (session : Session) → session_at past.now way.down ≡ Some session
      → IsNotRecalled (held session label) → HasNoReclaim past.now way label
  pub downstream_knows : KnowsCleared past way.down way.up
  pub upstream_knows : KnowsCleared past way.up way.down
