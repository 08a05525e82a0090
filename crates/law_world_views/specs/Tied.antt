-- What ties the lines of labels and of inputs to one another: who uses a label, under which instances ports were cleared, and
-- what is joined

use Rattle.std.specs.Prelude.{◌≡◌, ℕ, ◌<◌, Bool, true, false, not, List, [], ◌∷◌, ◌++◌, Contains, Some}
use Rattle.law_controller_views.specs.world_model.Words.{End, NodeId, Down, Instance, Peer, HelloKind, Rstack, label_channel_of, Clearing, Side, Cell, FlowId, Redirect, names_of, Standing, home_of, label_end, Grant, World, Site, queue_at, ifmp_under, copy_under, grants_at, side_at, output_at, on_channel, on_default_channel, requests_chain_at, Past, frames_of, last_bound, Way, ByBranch, leads, WasCleared, StandsForLast}
use Rattle.law_controller_views.specs.world_model.ifmp_wire.declared.message.Message.{Message}
use Rattle.law_controller_views.specs.world_model.ifmp_wire.declared.message.Message.TheVariants.{Adjacency}
use Rattle.law_controller_views.specs.law_label_line.Cells.{Downstream, Upstream}
use Rattle.law_controller_views.specs.world_model.network_model.declared.link.LinkEnd.{LinkEnd}
use Rattle.law_controller_views.specs.law_port_views.Link.{LinkLabel}
use Rattle.law_world_views.specs.Pairs.{Pairs, IsJoin}
use Rattle.law_world_views.specs.Shown.{end_of, way_of}

-- *Users of a label*: its grants, and what REDIRECTs of it on the way tell, are of the flow that it was bound to last
pub record HasUsersOfLast (past : Past) (link : LinkLabel) : Type 0 where
  pub grants : (grant : Grant) → Contains (grants_at past.now (end_of Upstream link)) grant → grant.label ≡ link.label
      → last_bound past.records (end_of Downstream link) link.label ≡ Some grant.flow
  pub redirects : (cell : Cell) (sender peer : Instance) (number lifetime : ℕ) (flow : FlowId)
      → Contains (on_default_channel past.now (end_of Downstream link) (end_of Upstream link)) cell
      → ifmp_under (frames_of past) cell.mark ≡ Some (Redirect sender peer number lifetime (label_channel_of link.label) flow)
      → last_bound past.records (end_of Downstream link) link.label ≡ Some flow

-- *Instances* of a port: the one that it has once it was cleared, those that its messages on the way tell of their sender,
-- an RSTACK's aside, and the one that the other end has stored are such as it was cleared under
abbrev pub is_rstack : HelloKind → Bool
is_rstack Rstack = true
is_rstack kind = false

abbrev pub tells_its_own : Message → Bool
tells_its_own (Adjacency hello) = not (is_rstack hello.kind)
tells_its_own message = true

pub record HasClearedInstances (past : Past) (from to : LinkEnd) : Type 0 where
  pub opened : (side : Side Peer) → side_at past.now from ≡ Some side → (side.state ≡ Clearing → ⊥) → WasCleared past from side.own.instance.0
  pub said : (cell : Cell) (message : Message) → Contains (on_default_channel past.now from to) cell
      → ifmp_under (frames_of past) cell.mark ≡ Some message → tells_its_own message ≡ true
      → WasCleared past from (names_of message).sender.0
  pub stored : (side : Side Peer) (peer : Peer) → side_at past.now to ≡ Some side → side.stored ≡ Some peer → WasCleared past from peer.instance.0

abbrev pub HasClearedEnds : Past → (way : Way) → Type 0
HasClearedEnds past way = HasClearedInstances past way.down way.up × HasClearedInstances past way.up way.down

-- *Joins*: once the switch is met, each two labels that are joined or may be are a join of the controller
abbrev pub HasJoins : World → NodeId → Site → Type 0
HasJoins w node site =
    site.controller.has_met ≡ true → (input output : End) → 0 < input.port.0 → 0 < output.port.0
    → Pairs w node input output → IsJoin site.controller input output

-- at any time two inputs aren't joined to one output
abbrev pub LeadsOnce : World → NodeId → Type 0
LeadsOnce w node = (one other output : End) → 0 < one.port.0 → 0 < other.port.0 → 0 < output.port.0
    → Pairs w node one output → Pairs w node other output → one ≡ other

-- and the flow bound last to the output is one hop further than that of the input, by the route of the
-- table that is held
abbrev pub HasHops : Past → LinkLabel → Type 0
HasHops past link =
    (input : End) → 0 < input.port.0 → Pairs past.now (link.node Upstream) input (label_end (link.port Upstream) link.label)
    → StandsForLast past (way_of link) link.label (ByBranch input)

-- *Order*: where an input is joined to a label, no cell that the controller sent to that label waits for the switch; and
-- where a request on its way joins it, none waits behind that
abbrev pub waiting_on : (output : End) → List Cell → List Cell
waiting_on output cells = on_channel (home_of output).channel cells

pub record HasPassed (w : World) (node : NodeId) : Type 0 where
  pub branch : (input output : End) → 0 < input.port.0 → 0 < output.port.0 → output_at w node input ≡ Some output
      → waiting_on output (queue_at w (Down node)) ≡ []
  pub chain : (input output : End) (s : Standing) (cell : Cell) → 0 < input.port.0 → 0 < output.port.0
      → Contains (requests_chain_at w node) cell → copy_under w.notes.frames cell.mark ≡ Some s → leads s.request ≡ Some (input, output)
      → waiting_on output (queue_at w (Down node)) ≡ []
  pub behind : (input output : End) (s : Standing) (before after : List Cell) (cell : Cell) → 0 < input.port.0 → 0 < output.port.0
      → queue_at w (Down node) ≡ before ++ cell ∷ after → copy_under w.notes.frames cell.mark ≡ Some s → leads s.request ≡ Some (input, output)
      → waiting_on output after ≡ []
