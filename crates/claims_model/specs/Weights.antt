-- What cells, ports, controllers and worlds weigh

use Rattle.std.specs.Prelude.{ℕ, suc, ◌+◌, ◌-◌, ◌*◌, ◌==◌, List, [], ◌∷◌, length, Option, None, Some, if◌then◌else◌}
use Rattle.std.specs.Option.{option_map_or}
use Rattle.world_model.specs.Words.{NodeId, Place, Down, Up, Out, Channel, Syn, number_of_channel, FlowId, flow_ttl, Cell, Request, Frame, payload_of, Desk, Label, Grant, GrantState, Idle, ByController, ByInput, Leaving, labels_of, is_spent, Controller, Linked, default_channel, same_channel, port_on, on_link, Topology, Site, Past, frames_of, last_bound}
use Rattle.world_model.specs.gsmp_wire.declared.request.Request.TheVariants.{DeleteAll, AllPorts}
use Rattle.world_model.specs.port_model.Port.{Port}
use Rattle.world_model.specs.network_model.declared.link.LinkEnd.{LinkEnd}
use Rattle.world_model.specs.Topology.{peer_of}
use Rattle.claims_model.specs.Costs.{total_weight, request_weight, words_weight, reset_weight, deleting_weight, listing_weight, label_cost, greeting_weight, forwarding, switch_cost, controller_cost, default_cost}

-- *Cells*: to a switch itself or to a controller on GSMP's channel, on a default channel of a link, or on the channel of a
-- label of the downstream end of a link
pub data Bearing : Type 0 where
  ToSwitch : Bearing
  ToController : Bearing
  Plain : Bearing
  Labelled : Option LinkEnd → (label : ℕ) → Bearing

abbrev pub bearing_on : Channel → Option LinkEnd → Bearing
bearing_on channel end = if same_channel channel default_channel then Plain else Labelled end (number_of_channel channel)

-- no link leads on from a port that isn't linked
abbrev pub bearing_out : Channel → Option LinkEnd → Bearing
bearing_out channel None = Labelled None 0
bearing_out channel (Some end) = bearing_on channel (Some end)

abbrev pub bearing_of : Topology → Place → Channel → Bearing
bearing_of topology (Down node) channel =
    if same_channel channel default_channel then ToSwitch
    else bearing_on (on_link channel) (peer_of topology node (port_on channel))
bearing_of topology (Up node) channel =
    if same_channel channel default_channel then ToController
    else bearing_on (on_link channel) (Some (record { node = node; port = port_on channel }))
bearing_of topology (Out node port) channel = bearing_out channel (peer_of topology node port)

-- the hops that are left to a cell on a label's channel: the Time To Live of the flow that the label was bound to last
abbrev pub Bound : Type 0
Bound = LinkEnd → (label : ℕ) → Option FlowId

abbrev pub hops_at : Bound → Option LinkEnd → (label : ℕ) → ℕ
hops_at bound None label = 0
hops_at bound (Some end) label = option_map_or flow_ttl (bound end label) 0

abbrev pub hops_of : Bound → Bearing → ℕ
hops_of bound ToSwitch = 0
hops_of bound ToController = 0
hops_of bound Plain = 0
hops_of bound (Labelled end label) = hops_at bound end label

-- what the frame that a last cell ends may cause where it comes: by the payload that was made under its mark, or under a label
-- by the hops that are left. A frame of GSMP that wasn't made, as there is none, weighs as the heaviest
abbrev pub cost_of : Bound → Option (List ℕ) → Bearing → ℕ
cost_of bound payload ToSwitch = option_map_or switch_cost payload (greeting_weight Syn)
cost_of bound payload ToController = option_map_or controller_cost payload (greeting_weight Syn)
cost_of bound payload Plain = option_map_or default_cost payload 0
cost_of bound payload (Labelled end label) = forwarding (hops_at bound end label)

-- the carries to the next controller, but for those of a label's further hops
abbrev pub stage : Place → ℕ
stage (Down node) = 3
stage (Out node port) = 2
stage (Up node) = 1

abbrev pub cell_weight : Topology → List Frame → Bound → Place → Cell → ℕ
cell_weight topology frames bound place cell =
    let bearing = bearing_of topology place cell.header.channel in
    (stage place + hops_of bound bearing) + (if cell.header.last then cost_of bound (payload_of frames cell.mark) bearing else 0)

-- *What stands at a desk*
abbrev pub standing_cost : Request → ℕ
standing_cost (DeleteAll port) = deleting_weight
standing_cost AllPorts = listing_weight
standing_cost request = 0

abbrev pub desk_weight : Desk → ℕ
desk_weight desk = total_weight (λ s. standing_cost s.request) desk.standing

-- *A port*, in a node where so many changes of routes wait to be begun: its labels; its grants, of which each that an input
-- is joined to may be taken back once for itself and once for each such change, and may owe an acknowledgement; and its
-- reset, where its numbers are spent
abbrev pub state_cost : (changes : ℕ) → GrantState → ℕ
state_cost changes Idle = 0
state_cost changes ByController = 0
state_cost changes (ByInput input) = request_weight + changes * request_weight
state_cost changes (Leaving input owed) = (if owed then words_weight else 0) + changes * request_weight

abbrev pub port_weight : (changes : ℕ) → Port → ℕ
port_weight changes port =
    total_weight (λ (label : Label). label_cost label.state) (labels_of port)
    + (total_weight (λ (grant : Grant). state_cost changes grant.state) port.grants
    + (if is_spent port.session then reset_weight else 0))

-- *A controller*: the first change that waits may be begun
abbrev pub changes_left : Controller → ℕ
changes_left c = length c.waiting - (if c.is_begun then 1 else 0)

abbrev pub controller_weight : Controller → ℕ
controller_weight c = desk_weight c.desk + total_weight (λ (linked : Linked). port_weight (changes_left c) linked.port) c.ports

-- *A node*: its controller, the cells that wait for its switch, and those that wait at the ports of the switch, of which
-- port 0 leads to the controller
abbrev pub port_place : NodeId → (port : ℕ) → Place
port_place node port = if port == 0 then Up node else Out node (record { 0 = port })

abbrev pub queues_weight : (Place → Cell → ℕ) → NodeId → (port : ℕ) → List (List Cell) → ℕ
queues_weight weigh node port [] = 0
queues_weight weigh node port (cells ∷ queues) = total_weight (weigh (port_place node port)) cells + queues_weight weigh node (suc port) queues

abbrev pub site_weight : (Place → Cell → ℕ) → Site → ℕ
site_weight weigh site =
    controller_weight site.controller
    + (total_weight (weigh (Down site.controller.node)) site.controller.queue
    + queues_weight weigh site.controller.node 0 site.switch.crossbar.queues)

-- *A world* behind a run
abbrev pub weight : Past → ℕ
weight past = total_weight (site_weight (cell_weight past.topology (frames_of past) (last_bound past.records))) past.now.sites
