-- A flow is *cut through*: each link of its way has a label of the flow as it comes in there, and the switch of each node between leads the one label
-- on to the next, so that its packets pass no controller between the first and the last (RFC 1953)

use Rattle.std.specs.Prelude.{◌≡◌, ◌≢◌, ℕ, ◌+◌, true, List, [], ◌∷◌, ◌++◌, flat_map, fold, Contains, None, Some}
use Rattle.world_model.specs.Words.{NodeId, PortNo, End, Up, Delivered, Policy, Mark, Cell, best, Via, table_in, flow_destination, FlowId, packet_flow, inject_refusal, Label, Offered, label_at, label_end, control_end, Grant, grant_for, label_on, inputs_at, Controller, controller_at, Linked, linked_end, grants_at, output_at, queue_at, payload_of, Topology, World, past_of, next, world_after, IsTame}
use Rattle.world_model.specs.Topology.{peer_of}
use Rattle.world_model.specs.network_model.declared.link.LinkEnd.{LinkEnd}
use Rattle.world_model.specs.network_model.declared.event.Event.{Event}
use Rattle.world_model.specs.network_model.declared.event.Event.TheVariants.{Inject, Carry}
use Rattle.live_model.specs.Beats.{Beat, settled, behind}
use Rattle.live_model.specs.Waking.{events_of}
use Rattle.calm_model.specs.Unlabelled.{IsUnlabelled}
use Rattle.calm_model.specs.Calm.{IsCalmSending, AreCalmBeats}
use Rattle.calm_model.specs.Ways.{one_hop, last_node}
use Rattle.calm_model.specs.Served.{IsSent}

-- *A label is offered* for the flow, at the end of a link
pub record IsOffered (w : World) (at : LinkEnd) (number : ℕ) (flow : FlowId) : Type 0 where
  pub linked : Linked
  pub shown : linked_end w at ≡ Some linked
  pub label : Label
  pub held : label_at linked.port number ≡ Some label
  pub offered : label.state ≡ Offered
  pub of_flow : label.flow ≡ flow

-- *A label is led on*: it is offered, and the node's switch leads its channel to that of a label on the next link
pub record IsLedOn (topology : Topology) (w : World) (at : LinkEnd) (number : ℕ) (flow : FlowId) (far : LinkEnd) : Type 0 where
  pub offered : IsOffered w at number flow
  pub port : PortNo
  pub linked : peer_of topology at.node port ≡ Some far
  pub label : ℕ
  pub leads : output_at w at.node (label_end at.port number) ≡ Some (label_end port label)

-- *It is led home* at the last node of a way: its channel, to the controller
pub record IsLedHome (w : World) (at : LinkEnd) (number : ℕ) (flow : FlowId) : Type 0 where
  pub offered : IsOffered w at number flow
  pub leads : output_at w at.node (label_end at.port number) ≡ Some (control_end at.port number)

-- so it goes from an end on, link by link
abbrev pub IsLedAlong : Topology → World → (at : LinkEnd) → (number : ℕ) → FlowId → List LinkEnd → Type 0
IsLedAlong topology w at number flow [] = IsLedHome w at number flow
IsLedAlong topology w at number flow (far ∷ ends) =
    (on : IsLedOn topology w at number flow far) × IsLedAlong topology w far on.label (one_hop flow) ends

-- *Packets are sent under a label*: the first node's route leads to a port at which its controller has a grant to send under, for the flow one hop
-- further, and its switch leads the grant's channel out to the label's
pub record IsSentUnder (topology : Topology) (w : World) (node : NodeId) (flow : FlowId) (far : LinkEnd) : Type 0 where
  pub port : PortNo
  pub linked : peer_of topology node port ≡ Some far
  pub route : best (table_in node w) (flow_destination flow) ≡ Some (Via port)
  pub grant : Grant
  pub sends : grant_for (grants_at w (record { node = node; port = port })) (one_hop flow) ≡ Some grant
  pub leads : output_at w node (control_end port grant.label) ≡ Some (label_end port grant.label)

-- *The flow is cut through* along a way of one link or more
pub record IsCutThrough (topology : Topology) (w : World) (node : NodeId) (flow : FlowId) (far : LinkEnd) (ends : List LinkEnd) : Type 0 where
  pub first : IsSentUnder topology w node flow far
  pub on : IsLedAlong topology w far first.grant.label (one_hop flow) ends

-- *A packet is switched*: among these events the last controller takes the last cell of its first frame, which is the one that the first
-- controller made, and delivers it, with the octets that forwarding hop by hop gives it, as is said of every delivery of a run; and no second
-- frame is made of it
pub record IsSwitched (topology : Topology) (w : World) (events : List Event) (number : ℕ) (last : NodeId) : Type 0 where
  pub front : List Event
  pub rest : List Event
  pub are : events ≡ front ++ Carry (Up last) ∷ rest
  pub cell : Cell
  pub cells : List Cell
  pub queue : queue_at (world_after topology w front) (Up last) ≡ cell ∷ cells
  pub ends_it : cell.header.last ≡ true
  pub of_first : cell.mark ≡ (let m : Mark = record { packet = number; frame = 1 } in m)
  pub packet : List ℕ
  pub delivered : Contains (next topology (world_after topology w front) (Carry (Up last))).notes.records (Delivered last number packet)
  pub no_second : payload_of (world_after topology w events).notes.frames (record { packet = number; frame = 2 }) ≡ None

-- each packet of the flow that is sent among the events of a stretch
abbrev pub AreSwitched : Topology → World → List Event → NodeId → FlowId → (last : NodeId) → Type 0
AreSwitched topology w events node flow last = (front rest : List Event) (packet : List ℕ) → events ≡ front ++ Inject node packet ∷ rest
    → inject_refusal packet ≡ None → packet_flow packet ≡ Some flow
    → IsSwitched topology (world_after topology w (front ++ Inject node packet ∷ [])) rest ((world_after topology w front).sent + 1) last

-- *A beat cuts the flow through*: it is cut through behind the ticks and their carries, and then each packet of it that is sent is switched
pub record CutsThrough (topology : Topology) (w : World) (beat : Beat) (node : NodeId) (flow : FlowId) (far : LinkEnd) (ends : List LinkEnd) : Type 0 where
  pub is : IsCutThrough topology (settled topology w beat) node flow far ends
  pub switched : AreSwitched topology (settled topology w beat) beat.sending node flow (last_node far.node ends)

-- *The flow begins at the node*: no label that it holds is of the flow, so none is or can be joined to what the flow's packets are sent under
abbrev pub BeginsAt : World → NodeId → FlowId → Type 0
BeginsAt w node flow = (c : Controller) (input : End) (label : Label) → controller_at w node ≡ Some c → Contains (flat_map inputs_at c.ports) input
    → label_on c input ≡ Some label → label.flow ≢ flow

-- *Each beat in turn* cuts it through, for as long as the flow begins at the node as a beat begins
abbrev pub CutThrough : Topology → World → List Beat → NodeId → FlowId → (far : LinkEnd) → List LinkEnd → Type 0
CutThrough topology w [] node flow far ends = Unit {0}
CutThrough topology w (beat ∷ beats) node flow far ends = BeginsAt w node flow
    → CutsThrough topology w beat node flow far ends × CutThrough topology (behind topology w beat) beats node flow far ends

-- *Wherever in a run* the network is unlabelled, calm beats come, any number of them, then enough packets of a flow that is new are sent along a free
-- way, in calm, and then calm beats come again: each of these cuts the flow through, whatever else is sent in it, for as long as the flow begins
-- at the node; so it is before the first frame that was forged or passed its test by chance
abbrev pub FlowsAreCutThrough : Policy → Topology → List Event → Type 0
FlowsAreCutThrough policy topology events = (before sending after : List Event) (earlier later : List Beat) (node : NodeId) (flow : FlowId) (far : LinkEnd)
    (ends : List LinkEnd) → (let start : World = (past_of policy topology before).now in let now : World = fold (behind topology) start earlier in
    let then : World = world_after topology now sending in
    events ≡ (((before ++ events_of topology start earlier) ++ sending) ++ events_of topology then later) ++ after
    → IsTame (past_of policy topology (((before ++ events_of topology start earlier) ++ sending) ++ events_of topology then later)).records
    → IsUnlabelled topology start → AreCalmBeats topology start earlier → IsCalmSending topology now sending
    → IsSent policy topology now sending node flow (far ∷ ends) → AreCalmBeats topology then later → CutThrough topology then later node flow far ends)
