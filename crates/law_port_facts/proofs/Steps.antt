-- The smallest steps of which every rule of a port is made, each with what holds where it is taken. What
-- each of them keeps, every rule keeps.

use Rattle.std.proofs.Common.{◌≡◌, ℕ, ◌≤◌, ◌<◌, true, false, length, None, Some}
use Rattle.port_model.specs.Words.{Addr, Channel, End, IsFlow, number_of_channel, Hello, Peer, Side, ticked, ifmp_received, FlowId, Bind, Free, at, Desk, Setup, is_in_range, label_end, Label, Wiring, Offered, Recalled, Wired, is_bound, is_spare, Grant, Idle, ByController, grant_label, is_leaving, most_grants, Session, Work, with_session, with_label, without_label, with_grant, without_grant, label_at, has_room, Unnumbered, greets, tells, halts_if_spent, redirect, reclaim, reclaim_ack, label_range, error, unwires, wires, accepts, grants_label}
use Rattle.law_port_facts.specs.Port.{AnyChannel}
use Rattle.port_model.specs.adjacency_table.Side as sides
use Rattle.port_model.specs.link_model.declared.record.Record.TheVariants.{Join}
use Rattle.port_model.specs.declared.action.Action.TheVariants.{Note, CutChain, TakeBack}
use Rattle.port_model.specs.Grants.{lent_input}
use Rattle.port_model.specs.Port.{Port, with_action}
use Rattle.port_model.specs.Adjacency.{steps}

-- what a message or a tick makes of the port's side
pub data IsTurn (side : Side Peer) : sides.Step Peer → Type 0 where
  hears : (source : Addr) (hello : Hello) → IsTurn side (ifmp_received side source hello)
  ages : IsTurn side (ticked side)

-- a session keeps its labels and its number
pub record KeepsSession (before after : Session) : Type 0 where
  pub labels : after.labels ≡ before.labels
  pub number : after.number ≡ before.number

-- a label that is held stays as it is, but for its counts and for what its peer is told
pub record KeepsLabel (before after : Label) : Type 0 where
  pub number : after.number ≡ before.number
  pub flow : after.flow ≡ before.flow
  pub join : after.join ≡ before.join
  pub bound : is_bound after.state ≡ is_bound before.state
  pub wiring : after.state ≡ Wiring → before.state ≡ Wiring
  pub wired : after.state ≡ Wired → before.state ≡ Wired

-- a grant stays the same's, and an input that it is lent to stays
pub record KeepsGrant (before after : Grant) : Type 0 where
  pub label : after.label ≡ before.label
  pub flow : after.flow ≡ before.flow
  pub input : lent_input after.state ≡ lent_input before.state
  pub lives : is_leaving after.state ≡ false → (is_leaving before.state ≡ false) × (1 ≤ before.lifetime → 1 ≤ after.lifetime)

-- a join of the port's: of a label that is joined, or under a grant that is lent
pub data IsJoined (setup : Setup) (port : Port) : (input output : End) → Type 0 where
  of_label : (number : ℕ) (label : Label) (output : End) → label_at port number ≡ Some label → label.join ≡ Some output
      → IsJoined setup port (label_end setup.port number) output
  of_grant : (label : ℕ) (grant : Grant) (input : End) → at grant_label label port.grants ≡ Some grant → lent_input grant.state ≡ Some input
      → IsJoined setup port input (label_end setup.port label)

-- an acknowledgement is owed only while there is a session
pub data MayOwe (port : Port) (before : Grant) : Type 0 where
  in_session : (s : Session) → port.session ≡ Some s → MayOwe port before
  was_live : is_leaving before.state ≡ false → MayOwe port before

-- a label that is held for a flow
pub record HeldFlow (port : Port) (number : ℕ) (flow : FlowId) : Type 0 where
  pub held : Label
  pub found : label_at port number ≡ Some held
  pub same : held.flow ≡ flow

-- what a port says of its own accord, or names of what it heard
pub data IsTold (Heard : Channel → Type 0) (setup : Setup) (port : Port) : Unnumbered → Type 0 where
  offering : (label : Label) → HeldFlow port label.number label.flow → IsTold Heard setup port (redirect setup label)
  recalling : (label : Label) → HeldFlow port label.number label.flow → IsTold Heard setup port (reclaim label)
  acknowledging : (channel : Channel) (flow : FlowId) → Heard channel → IsFlow flow → IsTold Heard setup port (reclaim_ack channel flow)
  narrowing : IsTold Heard setup port (label_range setup)
  refusing : (code : ℕ) (channel : Channel) → 1 ≤ code → code ≤ 4 → Heard channel → IsTold Heard setup port (error code channel)

-- the steps of a port that heard of these channels; a label is freed where this is so
module _ (Heard : Channel → Type 0) (Frees : Type 0) (setup : Setup) (desk : Desk) where
  pub data StepOn : Work → Work → Type 0 where
    -- *What is said*
    greeting : (w : Work) (hello : Hello) → StepOn w (greets w hello)
    telling : (w : Work) (message : Unnumbered) → IsTold Heard setup w.port message → StepOn w (tells w message)
    closing : (w : Work) → StepOn w (halts_if_spent w)
    noting : (w : Work) (input output : End) → StepOn w (with_action w (Note (Join setup.node setup.port (number_of_channel input.channel) output.port (number_of_channel output.channel))))
    -- *The adjacency and the session*
    turning : (w : Work) (step : sides.Step Peer) → w.halted ≡ false → IsTurn w.port.adjacency step → StepOn w (steps setup w step)
    heard : (w : Work) → StepOn w (record w { port = record w.port { adjacency = record w.port.adjacency { silence = 0 } } })
    minding : (w : Work) (change : Session → Session) → ((s : Session) → w.port.session ≡ Some s → KeepsSession s (change s)) → StepOn w (with_session w change)
    -- *Labels*
    relabelling : (w : Work) (before after : Label) → label_at w.port after.number ≡ Some before → KeepsLabel before after → StepOn w (with_label w after)
    wiring : (w : Work) (s : Session) (flow : FlowId) (number : ℕ) → w.port.session ≡ Some s → is_spare s.labels number ≡ true → is_in_range setup number ≡ true
        → has_room desk w ≡ true → IsFlow flow → StepOn w (wires setup w flow (Some number))
    binding : (w : Work) (label : Label) → label_at w.port label.number ≡ Some label → label.state ≡ Wiring
        → StepOn w (with_action (with_label w (record label { state = Offered })) (Note (Bind setup.node setup.port label.number label.flow)))
    quitting : (w : Work) (label : Label) (last : ℕ) → label_at w.port label.number ≡ Some label → label.state ≡ Recalled last true
        → StepOn w (with_action (with_label w (record label { state = Wired })) (CutChain label.number))
    unwiring : (w : Work) (number : ℕ) (label : Label) → label_at w.port number ≡ Some label → StepOn w (unwires setup desk w number)
    freeing : (w : Work) (label : Label) → label_at w.port label.number ≡ Some label → label.state ≡ Wired → Frees
        → StepOn w (with_action (without_label w label.number) (Note (Free setup.node setup.port label.number)))
    -- *Grants*
    accepting : (w : Work) → StepOn w (accepts w)
    granting : (w : Work) (s : Session) (label : ℕ) (flow : FlowId) (lifetime : ℕ) → w.port.session ≡ Some s → is_in_range setup label ≡ true
        → at grant_label label w.port.grants ≡ None → length w.port.grants < most_grants → 1 ≤ lifetime → has_room desk w ≡ true → IsFlow flow
        → StepOn w (grants_label setup w label flow lifetime)
    regranting : (w : Work) (before after : Grant) → at grant_label after.label w.port.grants ≡ Some before → KeepsGrant before after → MayOwe w.port before
        → StepOn w (with_grant w after)
    starting : (w : Work) (grant : Grant) → at grant_label grant.label w.port.grants ≡ Some grant → grant.state ≡ Idle → StepOn w (with_grant w (record grant { state = ByController }))
    ending : (w : Work) (grant : Grant) → at grant_label grant.label w.port.grants ≡ Some grant → lent_input grant.state ≡ None → StepOn w (without_grant w grant.label)
    -- *Joins*
    taking_back : (w : Work) (input output : End) → IsJoined setup w.port input output → StepOn w (with_action w (TakeBack input output))

  -- any number of steps
  pub data GoesOn : Work → Work → Type 0 where
    stays : (w : Work) → GoesOn w w
    steps_to : {v w : Work} → StepOn v w → GoesOn v w
    further : {u v w : Work} → GoesOn u v → GoesOn v w → GoesOn u w

  -- what each step keeps
  pub goes_on_keeps : (P : Work → Type 0) → ((v w : Work) → StepOn v w → P v → P w) → {v w : Work} → GoesOn v w → P v → P w
  goes_on_keeps P each (stays w) p = p
  goes_on_keeps P each (steps_to {v = a} {w = b} s) p = each a b s p
  goes_on_keeps P each (further g h) p = goes_on_keeps P each h (goes_on_keeps P each g p)

-- of a port that heard of any channel, and may free a label
abbrev pub Step : Setup → Desk → Work → Work → Type 0
Step setup desk = StepOn AnyChannel (Unit {0}) setup desk

abbrev pub Goes : Setup → Desk → Work → Work → Type 0
Goes setup desk = GoesOn AnyChannel (Unit {0}) setup desk

pub goes_keeps : (setup : Setup) (desk : Desk) (P : Work → Type 0) → ((v w : Work) → Step setup desk v w → P v → P w) → {v w : Work} → Goes setup desk v w → P v → P w
goes_keeps setup desk P each goes p = goes_on_keeps AnyChannel (Unit {0}) setup desk P each goes p
