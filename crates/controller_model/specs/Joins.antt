-- *Joins*: the input of a label is led straight to the output under a grant of the next hop's flow, and is
-- released by the answer of the request that led it back (Newman, Minshall and Lyon; the rules are this
-- project's own)

use Rattle.std.specs.Prelude.{Bool, true, false, not, ◌==◌, ◌&&◌, ◌||◌, nat_lt, is_none, List, length, map, flat_map, filter, find, fold, Option, None, Some, if◌then◌else◌}
use Rattle.std.specs.List.{filter_map}
use Rattle.std.specs.Option.{option_map, option_and_then}
use Rattle.net_types.specs.declared.node.PortNo.{PortNo}
use Rattle.net_types.specs.declared.channel.End.{End}
use Rattle.net_types.specs.Label.{number_of_channel}
use Rattle.ipv4_forward.specs.Best.{best}
use Rattle.ipv4_forward.specs.declared.table.Next.{Next}
use Rattle.ipv4_forward.specs.declared.table.Next.TheVariants.{Local, Via}
use Rattle.port_model.specs.ipv4_packet.declared.flow.FlowId.{FlowId}
use Rattle.port_model.specs.ipv4_packet.Flow.{next_hop_of}
use Rattle.port_model.specs.ipv4_packet.Parts.{flow_destination}
use Rattle.port_model.specs.gsmp_wire.declared.request.Request.{Request}
use Rattle.port_model.specs.gsmp_wire.declared.request.Request.TheVariants.{MoveBranch}
use Rattle.frame_model.specs.link_model.declared.record.Record.TheVariants.{Part}
use Rattle.port_model.specs.keyed_lists.Keyed.{in_order}
use Rattle.port_model.specs.Requests.{leads_home}
use Rattle.port_model.specs.Desk.{on_input, most_asked}
use Rattle.port_model.specs.crossbar_model.Crossbar.{same_end}
use Rattle.port_model.specs.Setup.{home_of, label_end, channel_le}
use Rattle.port_model.specs.Labels.{Label, LabelState, Offered}
use Rattle.port_model.specs.Grants.{Grant, grant_for, lent_input}
use Rattle.port_model.specs.Port.{label_at, labels_of}
use Rattle.port_model.specs.Joins as port_joins
use Rattle.port_model.specs.Saying.{halts_if_spent}
use Rattle.controller_model.specs.Controller.{Controller, Acted, Linked, linked_at, ports_of, note}
use Rattle.controller_model.specs.Asking.{asks}
use Rattle.controller_model.specs.Performing.{at_port}
use Rattle.controller_model.specs.Routes.{route_stays}

-- an input that is joined to a grant's label at a port
pub record Join : Type 0 where
  pub input : End
  pub port : PortNo
  pub grant : Grant

abbrev pub join_to : PortNo → Grant → Option Join
join_to port grant = option_map (λ input. record { input = input; port = port; grant = grant }) (lent_input grant.state)

abbrev pub joins_at : Linked → List Join
joins_at linked = filter_map (join_to linked.setup.port) linked.port.grants

-- by input port, and then by label
abbrev pub end_le : End → End → Bool
end_le a b = nat_lt a.port.0 b.port.0 || (a.port.0 == b.port.0 && channel_le a.channel b.channel)

abbrev pub joins_of : Controller → List Join
joins_of c = in_order (λ a b. end_le a.input b.input) (flat_map joins_at c.ports)

abbrev pub join_of : Controller → (input : End) → Option Join
join_of c input = find (λ join. same_end join.input input) (joins_of c)

-- *Release*: `part` is recorded, the label isn't joined any more, and the grant is given back
abbrev pub parts : Acted → (input : End) → Acted
parts a input =
    at_port (note a (Part a.controller.node input.port (number_of_channel input.channel))) input.port
    (λ setup desk w. port_joins.parted w (number_of_channel input.channel))

abbrev pub gives_back : Acted → Join → Acted
gives_back a join = at_port a join.port (λ setup desk w. port_joins.given_back w join.grant)

abbrev pub releases_join : Acted → Option Join → Acted
releases_join a None = a
releases_join a (Some join) = gives_back (parts a join.input) join

abbrev pub releases_input : Acted → (input : End) → Acted
releases_input a input = releases_join a (join_of a.controller input)

-- those whose input the request that was answered led to the control link
abbrev pub released_inputs : Controller → Request → List End
released_inputs c request =
    filter (λ input. leads_home input (home_of input) request) (map (λ join. join.input) (joins_of c))

-- when all are released, the ports whose numbers are spent are reset
abbrev pub resets_spent : Acted → PortNo → Acted
resets_spent a port = at_port a port (λ setup desk w. halts_if_spent w)

abbrev pub releases : Acted → Request → Acted
releases a request =
    let released = fold releases_input a (released_inputs a.controller request) in
    fold resets_spent released (ports_of released.controller)

-- *Joining*: the input of a label goes on by the route of its flow's destination, to the first grant there for
-- the flow one hop further
abbrev pub port_by : Option Next → Option PortNo
port_by None = None
port_by (Some Local) = None
port_by (Some (Via port)) = Some port

abbrev pub join_through : (input : End) → FlowId → Option Linked → Option Join
join_through input next None = None
join_through input next (Some linked) =
    option_map (λ grant. record { input = input; port = linked.setup.port; grant = grant }) (grant_for linked.port.grants next)

abbrev pub join_by : Controller → (input : End) → Option PortNo → Option FlowId → Option Join
join_by c input None next = None
join_by c input (Some port) None = None
join_by c input (Some port) (Some next) = join_through input next (linked_at c port)

abbrev pub join_for : Controller → (input : End) → FlowId → Option Join
join_for c input flow = join_by c input (port_by (best c.table (flow_destination flow))) (next_hop_of flow)

abbrev pub is_offered : LabelState → Bool
is_offered Offered = true
is_offered state = false

-- a label is joined that is offered and not joined, where nothing stands on its channel, fewer than 1,024
-- requests stand, and no change of routes that is begun leads its flow elsewhere
abbrev pub may_join : Controller → (input : End) → Label → Bool
may_join c input label =
    (is_offered label.state && is_none label.join)
    && (not (on_input c.desk input) && (nat_lt (length c.desk.standing) most_asked && route_stays c (flow_destination label.flow)))

-- the join is entered at the grant and at the label, and then Move Branch is asked
abbrev pub enters_grant : Acted → Join → Acted
enters_grant a join = at_port a join.port (λ setup desk w. port_joins.lent w join.grant join.input)

abbrev pub output_joined : Join → End
output_joined join = label_end join.port join.grant.label

abbrev pub enters_label : Acted → Join → Acted
enters_label a join =
    at_port a join.input.port (λ setup desk w. port_joins.joined w (number_of_channel join.input.channel) (output_joined join))

abbrev pub joins : Acted → Option Join → Acted
joins a None = a
joins a (Some join) =
    asks (enters_label (enters_grant a join) join) (MoveBranch join.input (home_of join.input) (output_joined join))

abbrev pub tries_label : Acted → (input : End) → Option Label → Acted
tries_label a input None = a
tries_label a input (Some label) =
    if may_join a.controller input label then joins a (join_for a.controller input label.flow) else a

abbrev pub label_on : Controller → (input : End) → Option Label
label_on c input = option_and_then (λ linked. label_at linked.port (number_of_channel input.channel)) (linked_at c input.port)

abbrev pub tries_join : Acted → (input : End) → Acted
tries_join a input = tries_label a input (label_on a.controller input)

-- each label of each port in turn
abbrev pub inputs_at : Linked → List End
inputs_at linked = map (λ label. label_end linked.setup.port label.number) (labels_of linked.port)

abbrev pub tries_joins : Acted → Acted
tries_joins a = fold tries_join a (flat_map inputs_at a.controller.ports)
