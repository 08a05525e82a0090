-- What the cells of a network mean: which packet a cell of a label or a last cell of a default channel stands for

use Rattle.std.specs.Prelude.{◌≡◌, ◌≢◌, ℕ, ◌<◌, ◌==◌, ◌&&◌, Bool, true, false, List, length, count_by, Option, None, Some, if◌then◌else◌}
use Rattle.std.specs.List.{sum_by}
use Rattle.law_controller_views.specs.world_model.Words.{NodeId, PortNo, Place, Down, Up, Out, Addr, Channel, Mark, number_of_channel, Cell, FlowId, default_payload, Carries, Frame, payload_of, default_channel, same_channel, port_on, on_link, Topology, World, places, queue_at, Reaches, Past, frames_of, last_bound}
use Rattle.law_controller_views.specs.world_model.ifmp_wire.declared.message.Message.{Message}
use Rattle.law_controller_views.specs.Lifted.{payload_by}
use Rattle.law_controller_views.specs.world_model.network_model.declared.link.LinkEnd.{LinkEnd}
use Rattle.law_controller_views.specs.world_model.Topology.{peer_of}
use Rattle.law_world_views.specs.Made.{IsFit}

-- *Headings*: the end of a link that a cell goes to, if any, and its channel on the link
pub record Heading : Type 0 where
  pub end : Option LinkEnd
  pub channel : Channel

-- from a controller the far end, and to a controller its own; VPI 0 to 15 of the control link are GSMP's
abbrev pub own_end : NodeId → PortNo → Option LinkEnd
own_end node port = if port.0 == 0 then None else Some (record { node = node; port = port })

abbrev pub heading_at : Topology → Place → Channel → Heading
heading_at topology (Down node) channel = record { end = peer_of topology node (port_on channel); channel = on_link channel }
heading_at topology (Up node) channel = record { end = own_end node (port_on channel); channel = on_link channel }
heading_at topology (Out node port) channel = record { end = peer_of topology node port; channel = channel }

-- *Packets*: packet number k reached a node as these octets, by now
pub record HasCome (past : Past) (k : ℕ) (node : NodeId) (packet : List ℕ) : Type 0 where
  pub counted : 0 < k
  pub fit : IsFit packet
  pub time : ℕ
  pub so_far : time < length past.events
  pub reached : Reaches past.topology past.history k node packet time

-- no later frame of the packet was made
abbrev pub IsNewest : List Frame → Mark → Type 0
IsNewest frames mark = (k : ℕ) → mark.frame < k → payload_of frames (record { packet = mark.packet; frame = k }) ≡ None

-- *What a cell means*, by its heading, its mark and whether it is a last one
pub data Means (past : Past) (to : Heading) (last : Bool) (mark : Mark) : Type 0 where
  -- on a default channel an early cell of a packet means nothing
  early : same_channel to.channel default_channel ≡ true → last ≡ false → mark.packet ≢ 0 → Means past to last mark
  -- a message of IFMP
  control : same_channel to.channel default_channel ≡ true → mark.packet ≡ 0 → (source : Addr) (message : Message)
      → payload_of (frames_of past) mark ≡ Some (payload_by source message) → Means past to last mark
  -- between a controller and its switch
  local : same_channel to.channel default_channel ≡ true → to.end ≡ None → mark.packet ≡ 0 → Means past to last mark
  -- a packet, that reached the end by now, in its newest frame
  plain : same_channel to.channel default_channel ≡ true → last ≡ true → (far : LinkEnd) → to.end ≡ Some far
      → (packet : List ℕ) → payload_of (frames_of past) mark ≡ Some (default_payload packet) → HasCome past mark.packet far.node packet
      → IsNewest (frames_of past) mark → Means past to last mark
  -- on a label, the packet that its frame carries under the flow that was bound last
  labelled : same_channel to.channel default_channel ≡ false → (far : LinkEnd) → to.end ≡ Some far
      → (flow : FlowId) → last_bound past.records far (number_of_channel to.channel) ≡ Some flow
      → (payload packet : List ℕ) → payload_of (frames_of past) mark ≡ Some payload → Carries flow packet payload
      → HasCome past mark.packet far.node packet → (last ≡ true → IsNewest (frames_of past) mark) → Means past to last mark

-- *Last cells* of a packet's frames, in all queues
abbrev pub ends : (k : ℕ) → Cell → Bool
ends k cell = cell.header.last && (cell.mark.packet == k)

abbrev pub ends_in : (k : ℕ) → List Cell → ℕ
ends_in k cells = count_by (ends k) cells

abbrev pub last_cells : World → (k : ℕ) → ℕ
last_cells w k = sum_by (λ place. ends_in k (queue_at w place)) (places w)
