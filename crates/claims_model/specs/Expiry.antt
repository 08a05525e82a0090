-- Lifetimes of outgoing labels (RFC 1953), at one controller: what sets one, which ticks reach it, and what is to hold of a grant
-- whose lifetime has passed

use Rattle.std.specs.Prelude.{◌≡◌, ℕ, true, ◌==◌, nat_lt, List, [], ◌∷◌, length, drop, Option, None, Some, Ok, ◌&&◌, not, Bool, false, is_some, ◌<◌, ◌++◌}
use Rattle.world_model.specs.Words.{Addr, PortNo, Channel, Instance, protocol_of, source_of, Cell, FlowId, default_unwrapped, Redirect, Journal, tested, most_asked, Grant, Acceptance, New, Refreshed, acceptance, takes, Controller, Linked, control_protocol, ForDefault, taker_of, Answer, is_estab, ticked, at, grant_label, is_leaving, linked_at, same_channel}
use Rattle.world_model.specs.ipv4_packet.Packet.{first_fault}
use Rattle.world_model.specs.ifmp_wire.declared.message.Message.{Message}
use Rattle.world_model.specs.ifmp_wire.Fields.{decoded}
use Rattle.world_model.specs.frame_model.Reassembly.{Taken, taken}
use Rattle.world_model.specs.Controller.{Acted, free_slots}
use Rattle.claims_model.specs.Inputs.{Input, CellComes, takes_input, FrameIsForged, CellLeaves}
use Rattle.std.specs.Option.{option_map_or, option_and_then}
use Rattle.world_model.specs.adjacency_table.declared.message.Answer.TheVariants.{Reset}
use Rattle.ordered_lists.specs.Ordered.{Every}
use Rattle.world_model.specs.Ticks.{ticks}

-- the payload of the frame that a cell has ended on a port's default channel, where it passes its test
abbrev pub payload_ended : Journal → (ended : List Cell) → Option (List ℕ)
payload_ended notes [] = None
payload_ended notes (cell ∷ cells) = (tested notes (cell ∷ cells)).payload

abbrev pub payload_taken : Taken → Option (List ℕ)
payload_taken t = payload_ended t.notes t.ended

abbrev pub frame_at : Acted → Linked → Cell → Option (List ℕ)
frame_at a linked cell = payload_taken (taken a.notes (nat_lt 0 (free_slots a.controller)) linked.reassembly cell)

-- *A port hears a message*: in a packet of IFMP from this source, in such a frame
pub record Hears (a : Acted) (input : Input) (linked : Linked) (source : Addr) (message : Message) : Type 0 where
  pub cell : Cell
  pub comes : input ≡ CellComes cell
  pub channel : taker_of a.controller cell.header.channel ≡ Some (ForDefault linked)
  pub payload : List ℕ
  pub frame : frame_at a linked cell ≡ Some payload
  pub packet : List ℕ
  pub unwrapped : default_unwrapped payload ≡ Ok packet
  pub sound : first_fault packet ≡ None
  pub control : (protocol_of packet == control_protocol) ≡ true
  pub from : source_of packet ≡ source
  pub says : decoded (drop 20 packet) ≡ Ok message

-- *A REDIRECT is accepted*: a new grant of the label is made, or the one that is there is refreshed
pub data Accepts (c : Controller) (label : ℕ) : Acceptance → Type 0 where
  anew : nat_lt (length c.desk.standing) most_asked ≡ true → Accepts c label (New label)
  again : (grant : Grant) → grant.label ≡ label → Accepts c label (Refreshed grant)

-- *An input sets the lifetime* of the grant of a label at a port
pub record Sets (a : Acted) (input : Input) (port : PortNo) (label lifetime : ℕ) : Type 0 where
  pub linked : Linked
  pub here : linked.setup.port ≡ port
  pub source : Addr
  pub sender : Instance
  pub peer : Instance
  pub number : ℕ
  pub channel : Channel
  pub flow : FlowId
  pub heard : Hears a input linked source (Redirect sender peer number lifetime channel flow)
  pub due : takes linked.port source sender peer number ≡ true
  pub accepted : Accepts a.controller label (acceptance linked.setup linked.port.grants channel flow)

-- *A tick reaches the lifetimes of a port* that is in Estab, where it ends neither the adjacency with the switch nor
-- the port's own
abbrev pub is_reset_answer : {M K : Type 0} → Answer M K → Bool
is_reset_answer Reset = true
is_reset_answer answer = false

abbrev pub reaches : Controller → Linked → Bool
reaches c linked =
    not (is_reset_answer (ticked c.adjacency).answer)
    && (is_some linked.port.session && not (is_reset_answer (ticked linked.port.adjacency).answer))

abbrev pub reaches_at : Controller → PortNo → Bool
reaches_at c port = option_map_or (reaches c) (linked_at c port) false

-- *The session with the switch stands*: the node's side of it is in Estab. A node reset ends it
abbrev pub has_switch : Controller → Bool
has_switch c = is_estab c.adjacency.state

-- *A grant* of a label at a port; one that has ended, or is leaving
abbrev pub grant_at : Controller → PortNo → (label : ℕ) → Option Grant
grant_at c port label = option_and_then (λ linked. at grant_label label linked.port.grants) (linked_at c port)

abbrev pub HasEnded : Option Grant → Type 0
HasEnded None = Unit {0}
HasEnded (Some grant) = is_leaving grant.state ≡ true

-- *It is set*: after an input that sets it the grant is there, isn't leaving and has just that left of its lifetime, unless
-- the node was reset in that input: then the session with the switch doesn't stand
pub record HasLeft (granted : Option Grant) (lifetime : ℕ) : Type 0 where
  pub grant : Grant
  pub there : granted ≡ Some grant
  pub live : is_leaving grant.state ≡ false
  pub left : grant.lifetime ≡ lifetime

-- *No frame is sent by it*: what joins the queue to the switch is on other channels than the label's, but for frames
-- that are forged
abbrev pub stays_queued : Input → List Cell → List Cell
stays_queued CellLeaves queue = drop 1 queue
stays_queued input queue = queue

pub record SendsNone (channel : Channel) (before after : List Cell) : Type 0 where
  pub sent : List Cell
  pub joined : after ≡ before ++ sent
  pub others : Every (λ (cell : Cell). same_channel cell.header.channel channel ≡ false) sent

abbrev pub IsConduct : Input → Type 0
IsConduct (FrameIsForged channel mark payload) = ⊥
IsConduct input = Unit {0}

-- *Nothing but a node reset ends the session* in an input that sets a lifetime, or in a tick that reaches the lifetimes of a
-- port: where it doesn't stand afterwards, the node's side has a new instance, above all that were given out before
abbrev pub IsReset : (before after : Acted) → Type 0
IsReset before after = before.numbers.instances < after.controller.adjacency.own.instance.0

pub record EndsByReset (a : Acted) (port : PortNo) : Type 0 where
  pub setting : (input : Input) (label lifetime : ℕ) → Sets a input port label lifetime → has_switch (takes_input a input).controller ≡ false → IsReset a (takes_input a input)
  pub tick : reaches_at a.controller port ≡ true → has_switch (ticks a).controller ≡ false → IsReset a (ticks a)
