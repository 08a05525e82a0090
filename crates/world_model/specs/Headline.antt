-- What is to hold of every run before the first frame that was forged or passed its test by chance: whether a
-- cut-through ever changes what routing would have done with a packet

use Rattle.std.specs.Prelude.{◌≡◌, ℕ, suc, ◌==◌, ◌||◌, ◌≤◌, Bool, true, false, List, ◌∷◌, ◌++◌, length, count_by, slice_get, Contains, Option, None, Some}
use Rattle.std.specs.List.{list_all, list_any}
use Rattle.network_model.specs.net_types.declared.node.NodeId.{NodeId}
use Rattle.network_model.specs.net_types.Label.{is_label_number}
use Rattle.network_model.specs.ipv4_packet.declared.flow.FlowId.{FlowId}
use Rattle.network_model.specs.ifmp_wire.declared.message.Message.{Message}
use Rattle.network_model.specs.ifmp_wire.declared.message.Message.TheVariants.{Error}
use Rattle.network_model.specs.link_model.declared.frames.Frame.{Frame}
use Rattle.network_model.specs.link_model.declared.record.DropCause.{DropCause}
use Rattle.network_model.specs.link_model.declared.record.Record.{Record}
use Rattle.network_model.specs.link_model.declared.record.Record.TheVariants.{Delivered, Dropped, Chance, Forged, Bad, Bind}
use Rattle.network_model.specs.port_model.Setup.{Policy}
use Rattle.world_model.specs.Fates.{Fate, IsDelivered, IsDropped, is_fate_of, has_loss_of}
use Rattle.network_model.specs.controller_model.Packets.{inject_refusal}
use Rattle.network_model.specs.declared.event.Event.{Event}
use Rattle.network_model.specs.Topology.{Topology}
use Rattle.network_model.specs.World.{World, opened}
use Rattle.network_model.specs.Conditions.{IsTopology, CanCome}
use Rattle.network_model.specs.Places.{places, queue_at}
use Rattle.network_model.specs.Run.{world_after}
use Rattle.world_model.specs.Reached.{Sent, IsFateAt}
use Rattle.world_model.specs.Ways.{ifmp_of}
use Rattle.world_model.specs.Past.{Past, past_of}
use Rattle.world_model.specs.Users.{Way, IsWay, IsUnused}
use Rattle.world_model.specs.Owned.{IsOwned}

-- *The one premise*: no frame was forged, and none passed by chance
abbrev pub is_wild : Record → Bool
is_wild (Forged place) = true
is_wild (Chance mark) = true
is_wild item = false

abbrev pub IsTame : List Record → Type 0
IsTame records = list_any is_wild records ≡ false

-- *A run* of a network: of a topology that lines make, and of events of which each can come when it comes
pub record IsRun (policy : Policy) (topology : Topology) (events : List Event) : Type 0 where
  pub topology_is : IsTopology topology
  pub each : (before after : List Event) (event : Event) → events ≡ before ++ event ∷ after
      → CanCome topology (world_after topology (opened policy topology) before) event

-- *Packets*: one that was sent and accepted under a number, from 1
pub record WasAccepted (past : Past) (number : ℕ) : Type 0 where
  pub place : ℕ
  pub numbered : number ≡ suc place
  pub sent : Sent
  pub is_sent : slice_get past.history.sent place ≡ Some sent
  pub accepted : inject_refusal sent.packet ≡ None

-- *The records of a packet's fate*
abbrev pub fates_of : Past → (number : ℕ) → ℕ
fates_of past number = count_by (is_fate_of number) past.records

-- *Links are empty* when no queue of any node holds a cell
abbrev pub is_empty : World → Bool
is_empty w = list_all (λ place. length (queue_at w place) == 0) (places w)

-- *Deliveries*: at each event, each delivery and each drop is of an accepted packet, and is one that forwarding hop by
-- hop, over the tables held, can have made by then
pub record IsTrueFate (past : Past) (time number : ℕ) (fate : Fate) : Type 0 where
  pub was_accepted : WasAccepted past number
  pub is_fate : IsFateAt past.topology past.history time number fate

pub record AreTrueFates (past : Past) : Type 0 where
  pub delivered : (time : ℕ) (w : World) (node : NodeId) (number : ℕ) (packet : List ℕ)
      → slice_get past.worlds (suc time) ≡ Some w → Contains w.notes.records (Delivered node number packet)
      → IsTrueFate past time number (IsDelivered node packet)
  pub dropped : (time : ℕ) (w : World) (node : NodeId) (number : ℕ) (cause : DropCause)
      → slice_get past.worlds (suc time) ≡ Some w → Contains w.notes.records (Dropped node number cause)
      → IsTrueFate past time number (IsDropped node cause)

-- *Once*: no packet has two such records
abbrev pub HasFatesOnce : Past → Type 0
HasFatesOnce past = (number : ℕ) → fates_of past number ≤ 1

-- *Labels*: before each event that binds a label, nobody may use it
abbrev pub BindsUnused : Past → Type 0
BindsUnused past =
    (time : ℕ) (before after : World) (way : Way) (label : ℕ) (flow : FlowId)
    → slice_get past.worlds time ≡ Some before → slice_get past.worlds (suc time) ≡ Some after
    → Contains after.notes.records (Bind way.down.node way.down.port label flow) → IsWay past.topology way
    → IsUnused before way label

-- *Fates*: once the links are empty, each accepted packet of whose frames the ledger has no entry has one such record
abbrev pub HasFatesWhole : Past → Type 0
HasFatesWhole past =
    is_empty past.now ≡ true → (number : ℕ) → WasAccepted past number
    → has_loss_of number past.now.notes.entries ≡ false → fates_of past number ≡ 1

pub record IsTrueToRouting (past : Past) : Type 0 where
  pub deliveries : AreTrueFates past
  pub once : HasFatesOnce past
  pub labels : BindsUnused past
  pub fates : HasFatesWhole past

-- *The headline*: so is each front of a run that has no such frame
pub record Headline (policy : Policy) (topology : Topology) (events : List Event) : Type 0 where
  pub fronts : (before after : List Event) → events ≡ before ++ after
      → IsTame (past_of policy topology before).records → IsTrueToRouting (past_of policy topology before)

-- *Below it*: each label of each link is owned, nothing is refused, and no message says that a label is taken or is of
-- another flow
abbrev pub is_bad : Record → Bool
is_bad (Bad node layer name) = true
is_bad item = false

abbrev pub AreOwned : Past → Type 0
AreOwned past = (way : Way) (label : ℕ) → IsWay past.topology way → is_label_number label ≡ true → IsOwned past way label

abbrev pub is_disowning : Option Message → Bool
is_disowning (Some (Error sender peer number code label)) = (code == 1) || (code == 4)
is_disowning message = false

pub record IsInHarmony (past : Past) : Type 0 where
  pub none_bad : list_any is_bad past.records ≡ false
  pub none_disowned : list_any (λ (frame : Frame). is_disowning (ifmp_of frame.payload)) past.now.notes.frames ≡ false

-- *Without labels*: where the policy offers nothing no label is ever bound
abbrev pub OffersNothing : Policy → Type 0
OffersNothing policy = (flow : FlowId) (packets : ℕ) → policy.offers flow packets ≡ false

abbrev pub is_bind : Record → Bool
is_bind (Bind node port label flow) = true
is_bind item = false

abbrev pub BindsNothing : Past → Type 0
BindsNothing past = list_any is_bind past.records ≡ false
