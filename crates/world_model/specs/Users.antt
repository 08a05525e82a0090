-- Who may still use a label, and for which flow each user stands (RFC 1953: the downstream end hands a label out,
-- and takes it back before it hands it out again)

use Rattle.std.specs.Prelude.{◌≡◌, ℕ, ◌<◌, List, length, Contains, Option, None, Some}
use Rattle.network_model.specs.net_types.declared.node.NodeId.{NodeId}
use Rattle.network_model.specs.net_types.declared.node.Place.TheVariants.{Down, Up, Out}
use Rattle.network_model.specs.net_types.declared.channel.End.{End}
use Rattle.network_model.specs.net_types.declared.number.Instance.{Instance}
use Rattle.network_model.specs.net_types.declared.number.Mark.{Mark}
use Rattle.network_model.specs.net_types.declared.adjacency.Peer.{Peer}
use Rattle.network_model.specs.net_types.Label.{label_channel_of, label_number_of}
use Rattle.network_model.specs.adjacency_table.Side.{Side}
use Rattle.network_model.specs.atm_cells.declared.cell.Cell.{Cell}
use Rattle.network_model.specs.ipv4_packet.declared.flow.FlowId.{FlowId}
use Rattle.network_model.specs.ipv4_packet.Flow.{next_hop_of}
use Rattle.network_model.specs.ipv4_packet.Parts.{flow_destination}
use Rattle.network_model.specs.flow_encaps.Labelled.{Carries}
use Rattle.network_model.specs.gsmp_wire.declared.request.Request.{Request}
use Rattle.network_model.specs.gsmp_wire.declared.request.Request.TheVariants.{AddBranch, MoveBranch}
use Rattle.network_model.specs.ifmp_wire.declared.message.Message.TheVariants.{Redirect}
use Rattle.network_model.specs.ipv4_forward.Best.{best}
use Rattle.network_model.specs.ipv4_forward.declared.table.Next.TheVariants.{Via}
use Rattle.network_model.specs.link_model.Ledger.{payload_of}
use Rattle.network_model.specs.port_model.Desk.{Standing}
use Rattle.network_model.specs.port_model.Setup.{label_end, control_end}
use Rattle.network_model.specs.port_model.Grants.{Grant}
use Rattle.network_model.specs.declared.link.LinkEnd.{LinkEnd}
use Rattle.network_model.specs.Topology.{Topology, peer_of}
use Rattle.network_model.specs.World.{World}
use Rattle.network_model.specs.Places.{queue_at}
use Rattle.world_model.specs.Reached.{Reaches, table_in}
use Rattle.world_model.specs.Ways.{grants_at, side_at, standing_at, output_at, on_the_way, to_switch, ifmp_under, copy_under}
use Rattle.world_model.specs.Past.{Past, frames_of, last_bound}

-- one direction of a link: the port that hands labels out, and its upstream
pub record Way : Type 0 where
  pub down : LinkEnd
  pub up : LinkEnd

pub record IsWay (topology : Topology) (way : Way) : Type 0 where
  pub downstream : peer_of topology way.up.node way.up.port ≡ Some way.down
  pub upstream : peer_of topology way.down.node way.down.port ≡ Some way.up

-- *Users*: a cell, a grant, an input of the upstream's switch that leads to the label or is asked to, a REDIRECT
pub data User : Type 0 where
  ByCell : Cell → User
  ByGrant : Grant → User
  ByBranch : (input : End) → User
  ByRequest : (input : End) → User
  ByRedirect : FlowId → User

-- the own instance of a port
abbrev pub IsOwn : Instance → Option (Side Peer) → Type 0
IsOwn instance None = ⊥
IsOwn instance (Some side) = side.own.instance.0 ≡ instance.0

-- the branch that a request makes: from an input to an output
abbrev pub leads : Request → Option (End × End)
leads (AddBranch input output) = Some (input, output)
leads (MoveBranch input from to) = Some (input, to)
leads request = None

-- a frame is a REDIRECT of a label, with the current instances of both ends
pub record IsRedirect (w : World) (way : Way) (label : ℕ) (mark : Mark) (flow : FlowId) : Type 0 where
  pub sender : Instance
  pub peer : Instance
  pub number : ℕ
  pub lifetime : ℕ
  pub message : ifmp_under w.notes.frames mark ≡ Some (Redirect sender peer number lifetime (label_channel_of label) flow)
  pub from_downstream : IsOwn sender (side_at w way.down)
  pub to_upstream : IsOwn peer (side_at w way.up)

-- a label's channel is `label_channel_of` its number on the link, and shows on the control link of either end
pub data Uses (w : World) (way : Way) (label : ℕ) : User → Type 0 where
  -- cells behind the upstream's switch: on the link, and in front of the downstream's controller
  on_the_link : (cell : Cell) → Contains (queue_at w (Out way.up.node way.up.port)) cell
      → cell.header.channel ≡ label_channel_of label → Uses w way label (ByCell cell)
  off_the_link : (cell : Cell) → Contains (queue_at w (Up way.down.node)) cell
      → cell.header.channel ≡ (control_end way.down.port label).channel → Uses w way label (ByCell cell)
  -- a grant, in any state
  granted : (grant : Grant) → Contains (grants_at w way.up) grant → grant.label ≡ label → Uses w way label (ByGrant grant)
  -- a branch from a port of a link
  connected : (input : End) → 0 < input.port.0
      → output_at w way.up.node input ≡ Some (label_end way.up.port label) → Uses w way label (ByBranch input)
  -- a request for one, which stands or has a cell on the way
  request_stands : (input : End) (s : Standing) → 0 < input.port.0 → Contains (standing_at w way.up.node) s
      → leads s.request ≡ Some (input, label_end way.up.port label) → Uses w way label (ByRequest input)
  copied : (input : End) (s : Standing) (cell : Cell) → 0 < input.port.0 → Contains (to_switch w way.up.node) cell
      → copy_under w.notes.frames cell.mark ≡ Some s → leads s.request ≡ Some (input, label_end way.up.port label)
      → Uses w way label (ByRequest input)
  -- a REDIRECT with a cell on the way
  redirect_comes : (flow : FlowId) (cell : Cell) → Contains (on_the_way w way.down way.up) cell
      → IsRedirect w way label cell.mark flow → Uses w way label (ByRedirect flow)
  -- cells between the upstream's controller and its switch
  from_controller : (cell : Cell) → Contains (queue_at w (Down way.up.node)) cell
      → cell.header.channel ≡ (control_end way.up.port label).channel → Uses w way label (ByCell cell)

-- nobody does
abbrev pub IsUnused : World → Way → (label : ℕ) → Type 0
IsUnused w way label = (user : User) → Uses w way label user → ⊥

-- *What a user stands for*. A branch and a request: the flow one hop further of the one that their input's label was
-- bound to last, by the route that the table held gives it
pub record LeadsOn (past : Past) (way : Way) (input : End) (flow : FlowId) : Type 0 where
  pub label : ℕ
  pub numbered : label_number_of input.channel ≡ Some label
  pub joined : FlowId
  pub bound : last_bound past.records (record { node = way.up.node; port = input.port }) label ≡ Some joined
  pub routed : best (table_in way.up.node past.now) (flow_destination joined) ≡ Some (Via way.up.port)
  pub onward : next_hop_of joined ≡ Some flow

-- a cell: a flow under which its frame carries a packet that its packet's number had reached the node as
pub record CarriesOn (past : Past) (node : NodeId) (mark : Mark) (flow : FlowId) : Type 0 where
  pub payload : List ℕ
  pub made : payload_of (frames_of past) mark ≡ Some payload
  pub packet : List ℕ
  pub carried : Carries flow packet payload
  pub time : ℕ
  pub so_far : time < length past.events
  pub reached : Reaches past.topology past.history mark.packet node packet time

-- a grant and a REDIRECT: their own flow
abbrev pub StandsFor : Past → Way → User → FlowId → Type 0
StandsFor past way (ByCell cell) flow = CarriesOn past way.down.node cell.mark flow
StandsFor past way (ByGrant grant) flow = grant.flow ≡ flow
StandsFor past way (ByBranch input) flow = LeadsOn past way input flow
StandsFor past way (ByRequest input) flow = LeadsOn past way input flow
StandsFor past way (ByRedirect sent) flow = sent ≡ flow
