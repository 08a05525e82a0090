-- What ports of a controller are, say and note in an event, by what was so before it

use Rattle.std.specs.Prelude.{◌≡◌, ◌≢◌, ℕ, ◌<◌, ◌≤◌, ◌⊎◌, true, false, List, Contains, Some}
use Rattle.law_controller_bindings.specs.world_model.Words.{NodeId, PortNo, Addr, Channel, Instance, Peer, label_channel_of, Clearing, Cell, FlowId, FlowKind, onward, default_payload, labelled_payload, Redirect, Error, names_of, Frame, Record, Bind, payload_of, Action, Say, Note, Setup, Label, LabelState, Wiring, Offered, Recalled, Wired, Grant, Session, labels_of, Linked, default_home, same_channel}
use Rattle.law_controller_bindings.specs.world_model.gsmp_wire.declared.message.Message.{Message as GsmpMessage}
use Rattle.law_controller_bindings.specs.world_model.gsmp_wire.Layout.{octets_of as gsmp_octets}
use Rattle.law_controller_bindings.specs.world_model.ifmp_wire.declared.message.Message.{Message}
use Rattle.law_controller_bindings.specs.ordered_lists.Ordered.{Every}
use Rattle.law_controller_bindings.specs.world_model.port_model.Port.{Port}
use Rattle.law_controller_bindings.specs.world_model.Controller.{Acted}
use Rattle.law_world_views.specs.law_controller_views.Lifted.{payload_by}
use Rattle.law_world_views.specs.Made.{IsFit}
use Rattle.law_world_views.specs.Tied.{tells_its_own}

-- *What was so before the event*, by ports of the node: the instances that a port may have outside Clearing, and those that
-- its messages may tell, those of its peer that it may store, the flows that a grant of a label may be of, the labels that
-- are held for a flow, of them those that are being wired, those that may be offered and those that may be bound, the codes
-- of Errors beside those that disown nothing, the frames that were made, the cells that a port may gather, and those that waited for the switch
pub record Terms : Type 1 where
  pub node : NodeId
  pub address : Addr
  pub own : PortNo → ℕ → Type 0
  pub told : PortNo → ℕ → Type 0
  pub known : PortNo → ℕ → Type 0
  pub granted : PortNo → ℕ → FlowId → Type 0
  pub held : PortNo → ℕ → FlowId → Type 0
  pub wired : PortNo → ℕ → FlowId → Type 0
  pub offered : PortNo → ℕ → FlowId → Type 0
  pub bindable : PortNo → ℕ → FlowId → Type 0
  pub refused : ℕ → Type 0
  pub framed : Frame → Type 0
  pub gathered : PortNo → Cell → Type 0
  pub waited : Cell → Type 0

-- *A message* that disowns no label: an Error of another code than 1 (it is taken) and 4 (it is of another flow), or no Error;
-- or an Error whose code may be refused
abbrev pub DisownsNone : (refused : ℕ → Type 0) → Message → Type 0
DisownsNone refused (Error sender peer number code channel) = refused code ⊎ ((code ≢ 1) × (code ≢ 4))
DisownsNone refused message = Unit {0}

-- *A frame* was made before; or it has a packet that is sent on, in the default encapsulation or as under a label, a message
-- of GSMP, or a port's message, which disowns no label
pub data IsMade (framed : Frame → Type 0) (refused : ℕ → Type 0) (address : Addr) (frame : Frame) : Type 0 where
  was_made : framed frame → IsMade framed refused address frame
  of_default : (packet : List ℕ) → IsFit packet → frame.payload ≡ default_payload (onward packet) → IsMade framed refused address frame
  of_label : (kind : FlowKind) (packet : List ℕ) → IsFit packet → frame.payload ≡ labelled_payload kind (onward packet) → IsMade framed refused address frame
  of_gsmp : (message : GsmpMessage) → frame.payload ≡ gsmp_octets message → IsMade framed refused address frame
  of_port : (message : Message) → DisownsNone refused message → frame.payload ≡ payload_by address message → IsMade framed refused address frame

module _ (t : Terms) where
  -- *A port*: a label that is being wired was so before; any other is held for its flow
  abbrev pub StandsAs : PortNo → (number : ℕ) → FlowId → LabelState → Type 0
  StandsAs port number flow Wiring = t.wired port number flow
  StandsAs port number flow Offered = t.held port number flow
  StandsAs port number flow (Recalled last acknowledged) = t.held port number flow
  StandsAs port number flow Wired = t.held port number flow

  abbrev pub Stands : PortNo → Label → Type 0
  Stands port label = StandsAs port label.number label.flow label.state

  abbrev pub IsGranted : PortNo → Grant → Type 0
  IsGranted port grant = t.granted port grant.label grant.flow

  pub record IsSteady (setup : Setup) (port : Port) : Type 0 where
    pub node : setup.node ≡ t.node
    pub own : port.adjacency.state ≢ Clearing → t.own setup.port port.adjacency.own.instance.0
    pub stored : (peer : Peer) → port.adjacency.stored ≡ Some peer → t.known setup.port peer.instance.0
    pub lives : (session : Session) → port.session ≡ Some session → port.adjacency.state ≢ Clearing
    pub labels : Every (Stands setup.port) (labels_of port)
    pub grants : Every (IsGranted setup.port) port.grants

  -- *A message*: it tells the port's own instance, a REDIRECT is of a label that may be offered, and it disowns no label
  pub record IsRedirected (port : PortNo) (channel : Channel) (flow : FlowId) : Type 0 where
    pub number : ℕ
    pub is : channel ≡ label_channel_of number
    pub offered : t.offered port number flow

  abbrev pub IsOfHeld : PortNo → Message → Type 0
  IsOfHeld port (Redirect sender peer number lifetime channel flow) = IsRedirected port channel flow
  IsOfHeld port (Error sender peer number code channel) = t.refused code ⊎ ((code ≢ 1) × (code ≢ 4))
  IsOfHeld port message = Unit {0}

  pub record IsWord (port : PortNo) (message : Message) : Type 0 where
    pub own : tells_its_own message ≡ true → t.told port (names_of message).sender.0
    pub held : IsOfHeld port message

  -- *What a rule asks*: it says such messages, and binds nothing
  abbrev pub BindsNone : Record → Type 0
  BindsNone (Bind node port label flow) = ⊥
  BindsNone item = Unit {0}

  abbrev pub IsFair : PortNo → Action → Type 0
  IsFair port (Say message) = IsWord port message
  IsFair port (Note item) = BindsNone item
  IsFair port action = Unit {0}

  -- *A cell for the switch*: it waited there before, is of a packet, or of no port's default channel, or of a message; or
  -- of the REDIRECT of a label whose binding was recorded
  pub record IsFrameOf (frames : List Frame) (controls : ℕ) (cell : Cell) (port : PortNo) (message : Message) : Type 0 where
    pub channel : cell.header.channel ≡ (default_home port).channel
    pub control : cell.mark.packet ≡ 0
    pub drawn : cell.mark.frame ≤ controls
    pub made : payload_of frames cell.mark ≡ Some (payload_by t.address message)

  pub data IsSent (records : List Record) (frames : List Frame) (controls : ℕ) (cell : Cell) : Type 0 where
    waited : t.waited cell → IsSent records frames controls cell
    of_packet : cell.mark.packet ≢ 0 → IsSent records frames controls cell
    away : ((port : PortNo) → 0 < port.0 → same_channel cell.header.channel (default_home port).channel ≡ false) → IsSent records frames controls cell
    said : (port : PortNo) (message : Message) → IsFrameOf frames controls cell port message → IsWord port message → IsSent records frames controls cell
    bound : (port : PortNo) (sender peer : Instance) (number lifetime label : ℕ) (flow : FlowId)
        → IsFrameOf frames controls cell port (Redirect sender peer number lifetime (label_channel_of label) flow) → t.told port sender.0
        → Contains records (Bind t.node port label flow) → IsSent records frames controls cell

  -- *A record* binds what may be bound
  abbrev pub IsNoted : Record → Type 0
  IsNoted (Bind node port label flow) = (node ≡ t.node) × t.bindable port label flow
  IsNoted item = Unit {0}

  -- *A controller in the event*
  abbrev pub IsSteadyAt : Linked → Type 0
  IsSteadyAt linked = IsSteady linked.setup linked.port × Every (t.gathered linked.setup.port) linked.reassembly.chain

  pub record IsSteadily (a : Acted) : Type 0 where
    pub address : (a.controller.address ≡ t.address) × (a.controller.node ≡ t.node)
    pub ports : Every IsSteadyAt a.controller.ports
    pub cells : Every (IsSent a.notes.records a.notes.frames a.numbers.controls) a.controller.queue
    pub records : Every IsNoted a.notes.records
    pub frames : Every (IsMade t.framed t.refused t.address) a.notes.frames
