-- Where the input of a label is led straight on (Newman, Minshall and Lyon). The rule is this project's
-- own.

use Rattle.std.specs.Prelude.{Bool, false, ◌==◌, nat_le, List, Option, None, Some, if◌then◌else◌}
use Rattle.std.specs.Option.{option_map, option_and_then}
use Rattle.net_types.specs.declared.node.PortNo.{PortNo}
use Rattle.net_types.specs.declared.channel.End.{End}
use Rattle.ipv4_forward.specs.Best.{best}
use Rattle.ipv4_forward.specs.declared.table.Route.{Route}
use Rattle.ipv4_packet.specs.declared.flow.FlowId.{FlowId}
use Rattle.ipv4_packet.specs.Flow.{flow_ttl, next_hop_of}
use Rattle.ipv4_packet.specs.Parts.{flow_destination}
use Rattle.gsmp_wire.specs.declared.request.Request.{Request}
use Rattle.gsmp_wire.specs.declared.request.Request.TheVariants.{MoveBranch}
use Rattle.port_model.specs.Setup.{home_of, label_end}
use Rattle.port_model.specs.Grants.{Grant, grant_for}
use Rattle.world_model.specs.Joins.{output_joined, port_by}
use Rattle.world_model.specs.Joins as controller
use Rattle.cut_through.specs.declared.joins.Join.{Join}

-- the port of a flow's route, where its packets live long enough to be sent on
abbrev pub way_of : List Route → FlowId → Option PortNo
way_of table flow = if nat_le 2 (flow_ttl flow) then port_by (best table (flow_destination flow)) else None

abbrev pub leads_to : Option PortNo → PortNo → Bool
leads_to None port = false
leads_to (Some other) port = other.0 == port.0

-- the join of an input to a grant of a port
abbrev pub join_under : (input : End) → PortNo → Grant → Join
join_under input port grant = record { input = input; output = label_end port grant.label }

-- the first grant of a port under which the controller sends a flow one hop further
abbrev pub onward_grant : List Grant → FlowId → Option Grant
onward_grant grants flow = option_and_then (grant_for grants) (next_hop_of flow)

-- to that grant, where the flow's route leads by the port
abbrev pub planned : (input : End) → FlowId → List Route → PortNo → List Grant → Option Join
planned input flow table port grants =
    if leads_to (way_of table flow) port
    then option_map (join_under input port) (onward_grant grants flow)
    else None

-- its input is led back to the control link
abbrev pub undoing : Join → Request
undoing join = MoveBranch join.input join.output (home_of join.input)

-- *A join of the controller*: to a grant of a port, and as it is planned
abbrev pub join_at : (input : End) → PortNo → Grant → controller.Join
join_at input port grant = record { input = input; port = port; grant = grant }

abbrev pub shown : controller.Join → Join
shown join = record { input = join.input; output = output_joined join }
