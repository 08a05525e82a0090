-- What is asked for each port while the switch is met, where the port is up

use Rattle.std.specs.Prelude.{◌≡◌, ◌≤◌, true, false, List, [], ◌∷◌, ◌++◌, map, flat_map, Option, None, Some, if◌then◌else◌}
use Rattle.net_types.specs.declared.node.PortNo.{PortNo}
use Rattle.ipv4_forward.specs.declared.change.RouteChange.{RouteChange}
use Rattle.gsmp_wire.specs.declared.request.Request.{Request}
use Rattle.gsmp_wire.specs.declared.request.Request.TheVariants.{AddBranch, DeleteAll}
use Rattle.gsmp_wire.specs.declared.rows.PortRow.{PortRow}
use Rattle.port_model.specs.Messages.{is_up}
use Rattle.adjacency_table.specs.Side.{is_estab}
use Rattle.port_model.specs.Answers.{done as answer_done}
use Rattle.port_model.specs.Saying.{is_spent}
use Rattle.world_model.specs.Controller.{Acted, Linked, default_end, default_home, linked_at}
use Rattle.world_model.specs.Joins.{resets_spent}
use Rattle.world_model.specs.Meeting.{default_branches, has_emptied, request_port, up_ports}
use Rattle.controller_router.specs.Conditions.{CanAsk, CanResetPort, CanWork, EachCanBeAsked}

abbrev pub emptying : List PortRow → PortNo → List Request
emptying rows port = if is_up rows port then DeleteAll port ∷ [] else []

abbrev pub opening : List PortRow → PortNo → List Request
opening rows port = if is_up rows port then default_branches port else []

-- *The conditions*: each of these requests can be asked
abbrev pub CanEmpty : Acted → Type 0
CanEmpty a = EachCanBeAsked a (map DeleteAll (record { 0 = 0 } ∷ up_ports a.controller))

abbrev pub met : Acted → Acted
met a = record a { controller = record a.controller { has_met = true } }

abbrev pub CanEndMeeting : Acted → Type 0
CanEndMeeting a = EachCanBeAsked (met a) (flat_map default_branches (up_ports a.controller))

-- behind Delete All
pub record CanGoOn (a : Acted) (port : PortNo) : Type 0 where
  pub least : a.controller.has_met ≡ true → 1 ≤ port.0
  pub most : a.controller.has_met ≡ true → port.0 ≤ 8
  pub asks : a.controller.has_met ≡ true → CanAsk a (AddBranch (default_end port) (default_home port))
  pub ends : a.controller.has_met ≡ false → has_emptied a.controller ≡ true → CanEndMeeting a

-- an answer, where it isn't of Delete All
abbrev pub CanBeTold : Acted → Request → Option PortNo → Type 0
CanBeTold a request None = Unit {0}
CanBeTold a request (Some port) = CanWork a port (λ setup desk w. answer_done setup w request)

abbrev pub CanCause : Acted → Request → Type 0
CanCause a (DeleteAll port) = CanGoOn a port
CanCause a request = CanBeTold a request (request_port request)

-- *Spent numbers*: a port whose numbers are spent is reset in Estab
abbrev pub CanResetSpent : Acted → PortNo → Type 0
CanResetSpent a port = (linked : Linked) → linked_at a.controller port ≡ Some linked → is_spent linked.port.session ≡ true
    → is_estab a.controller.adjacency.state ≡ true → CanResetPort a port

abbrev pub EachCanResetSpent : Acted → List PortNo → Type 0
EachCanResetSpent a [] = Unit {0}
EachCanResetSpent a (port ∷ ports) = CanResetSpent a port × EachCanResetSpent (resets_spent a port) ports

-- *Changes of routes*: the first is begun; one comes
abbrev pub with_begun : Acted → Acted
with_begun a = record a { controller = record a.controller { is_begun = true } }

abbrev pub with_change : Acted → RouteChange → Acted
with_change a change = record a { controller = record a.controller { waiting = a.controller.waiting ++ change ∷ [] } }
