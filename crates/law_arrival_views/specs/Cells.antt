-- What a cell that comes to a controller has to be, so that the lines of labels follow it

use Rattle.std.specs.Prelude.{◌≡◌, ℕ, ◌≤◌, ◌==◌, nat_le, nat_lt, true, false, List, [], ◌∷◌, ◌++◌, drop, length, None, Some, Ok}
use Rattle.law_controller_views.specs.world_model.Words.{Addr, protocol_of, source_of, Cell, default_unwrapped, payload_of, is_frame, last_mark, payload_in, Reassembly, most_cells, is_spent, Work, hears, Linked, linked_at, with_linked, default_channel, forwards_packet, control_protocol, taker_of, reassembly_of, with_reassembly, frame_holds, counted_at, begins}
use Rattle.law_controller_views.specs.world_model.ipv4_packet.Packet.{first_fault}
use Rattle.law_controller_views.specs.world_model.ifmp_wire.declared.message.Message.{Message}
use Rattle.law_controller_views.specs.world_model.ifmp_wire.Fields.{decoded}
use Rattle.law_controller_views.specs.world_model.frame_model.Frame.{octets_of}
use Rattle.law_controller_views.specs.ordered_lists.Ordered.{Every}
use Rattle.law_controller_views.specs.law_label_line.Cells.{Role}
use Rattle.law_controller_views.specs.world_model.Controller.{Acted, free_slots}
use Rattle.law_controller_views.specs.world_model.Cells.{Taker}
use Rattle.law_controller_views.specs.law_port_views.Link.{LinkLabel}
use Rattle.law_controller_views.specs.law_shown_cells.Label.{OnControl, channel_at}
use Rattle.law_controller_views.specs.Ends.{EndLeads}
use Rattle.law_controller_views.specs.Lifted.{IsReadableAction}

-- *Not by chance*: a chain that a last cell ends and that passes its test is the frame that was made under that cell's
-- mark
abbrev pub PassesByRight : Acted → List Cell → Type 0
PassesByRight a cells = (payload : List ℕ) → payload_in (octets_of cells) ≡ Some payload → is_frame a.notes.frames (last_mark cells) payload ≡ true

-- *A cell that ends a frame* of its channel: a last one, of a channel that gathers cells, has a slot for it and isn't full
pub record EndsFrame (a : Acted) (r : Reassembly) (cell : Cell) : Type 0 where
  pub last : cell.header.last ≡ true
  pub gathers : r.is_skipping ≡ false
  pub slot : nat_lt 0 (free_slots a.controller) ≡ true
  pub short : nat_le most_cells (length r.chain) ≡ false

-- *On the default channel* of the port at an end of the link
abbrev pub IsDefault : LinkLabel → Role → Cell → Type 0
IsDefault link role cell = cell.header.channel ≡ channel_at (OnControl (link.port role)) default_channel

-- the controller once the chain of the port has ended
abbrev pub unchained : Linked → Linked
unchained linked = record linked { reassembly = record linked.reassembly { chain = [] } }

abbrev pub ended_at : Acted → Linked → Acted
ended_at a linked = with_linked a (unchained linked)

-- a whole frame's message of IFMP
pub record IsTold (payload packet : List ℕ) (message : Message) : Type 0 where
  pub unwrapped : default_unwrapped payload ≡ Ok packet
  pub protocol : (protocol_of packet == control_protocol) ≡ true
  pub decoded : decoded (drop 20 packet) ≡ Ok message

-- what a port makes of a message, and what it needs to hear it
abbrev pub heard_work : Acted → Linked → Addr → Message → Work
heard_work a linked source message = hears linked.setup a.controller.desk (begins a linked) source message

pub record CanHear (link : LinkLabel) (role : Role) (a : Acted) (linked : Linked) (source : Addr) (message : Message) : Type 0 where
  pub unspent : is_spent linked.port.session ≡ false
  pub drawn : a.numbers.instances ≤ (heard_work a linked source message).instances
  pub reads : Every (IsReadableAction (link.address role)) (heard_work a linked source message).actions

-- *Of any channel*: the controller once the channel's chain has ended
abbrev pub ended_by : Acted → Taker → Acted
ended_by a taker = with_reassembly a taker (record (reassembly_of a.controller taker) { chain = [] })

-- *A cell of that channel*: where it ends a frame, that passes by right, and the port can hear its message, or the packet
-- that it carries leads the line
pub record CanCome (link : LinkLabel) (like : Type 0) (role : Role) (a : Acted) (linked : Linked) (cell : Cell) : Type 0 where
  pub passes : PassesByRight a (linked.reassembly.chain ++ cell ∷ [])
  pub hears : (payload packet : List ℕ) (message : Message) → payload_of a.notes.frames cell.mark ≡ Some payload → IsTold payload packet message
      → CanHear link role (ended_at a linked) (unchained linked) (source_of packet) message
  pub forwards : (payload packet : List ℕ) → payload_of a.notes.frames cell.mark ≡ Some payload → default_unwrapped payload ≡ Ok packet → first_fault packet ≡ None
      → (protocol_of packet == control_protocol) ≡ false
      → EndLeads link like role (ended_at a linked) [] (counted_at (forwards_packet (ended_at a linked) cell.mark packet) linked.setup.port packet) []

-- *Any cell*: where it ends a frame, that passes by right; that of the default channel of the link's port is as above, and
-- what a whole frame of another channel does leads the line
pub record CanArrive (link : LinkLabel) (like : Type 0) (role : Role) (a : Acted) (cell : Cell) : Type 0 where
  pub own : (linked : Linked) → linked_at a.controller (link.port role) ≡ Some linked → IsDefault link role cell → EndsFrame a linked.reassembly cell
      → CanCome link like role a linked cell
  pub passes : (taker : Taker) → taker_of a.controller cell.header.channel ≡ Some taker → EndsFrame a (reassembly_of a.controller taker) cell
      → PassesByRight a ((reassembly_of a.controller taker).chain ++ cell ∷ [])
  pub holds : (taker : Taker) (payload : List ℕ) → taker_of a.controller cell.header.channel ≡ Some taker → (IsDefault link role cell → ⊥)
      → EndsFrame a (reassembly_of a.controller taker) cell → payload_of a.notes.frames cell.mark ≡ Some payload
      → EndLeads link like role (ended_by a taker) [] (frame_holds (ended_by a taker) taker cell.mark payload) []
