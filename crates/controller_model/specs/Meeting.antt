-- *Meeting the switch* and *Answers of the switch* (RFC 1987). What is asked first, and that a port waits for
-- its Delete All, is this project's own.

use Rattle.std.specs.Prelude.{Bool, true, false, not, ◌==◌, ◌&&◌, List, [], ◌∷◌, map, flat_map, filter, fold, length, Option, None, Some, if◌then◌else◌}
use Rattle.std.specs.List.{list_any}
use Rattle.net_types.specs.declared.node.PortNo.{PortNo}
use Rattle.net_types.specs.declared.channel.End.{End}
use Rattle.port_model.specs.adjacency_table.declared.State.{State}
use Rattle.port_model.specs.adjacency_table.declared.State.TheVariants.{Clearing}
use Rattle.port_model.specs.adjacency_table.Side.{is_estab}
use Rattle.port_model.specs.gsmp_wire.declared.request.Request.{Request}
use Rattle.port_model.specs.gsmp_wire.declared.request.Request.TheVariants.{AddBranch, MoveBranch, DeleteTree, VerifyTree, DeleteAll, PortManagement, AllPorts}
use Rattle.port_model.specs.Messages.{is_up}
use Rattle.port_model.specs.Desk.{empty_desk, on_input, all_on}
use Rattle.port_model.specs.DeskAnswers.{Answered, Unknown, Done, Ports, Failed, answered, after_answer}
use Rattle.port_model.specs.gsmp_wire.declared.message.Message.{Message}
use Rattle.port_model.specs.Answers as port_answers
use Rattle.port_model.specs.Resets as port_resets
use Rattle.controller_model.specs.Controller.{Controller, Acted, Linked, linked_at, ports_of, with_linked, with_desk, default_end, default_home}
use Rattle.controller_model.specs.Resets.{node_resets}
use Rattle.controller_model.specs.Asking.{asks}
use Rattle.controller_model.specs.Performing.{at_port}
use Rattle.controller_model.specs.Joins.{releases}
use Rattle.controller_model.specs.Changes.{takes_changes}

-- *Meeting*: on entering Estab all ports are asked for; transaction numbers begin at 1
abbrev pub meets : Acted → Acted
meets a = asks (with_desk a empty_desk) AllPorts

-- then Delete All of port 0 and of each linked port that is up
abbrev pub up_ports : Controller → List PortNo
up_ports c = filter (is_up c.desk.rows) (ports_of c)

abbrev pub empties : Acted → Acted
empties a = fold asks a (map DeleteAll (record { 0 = 0 } ∷ up_ports a.controller))

-- and when all are answered, the switch is met, and the default channels of these ports are asked
abbrev pub default_branches : PortNo → List Request
default_branches port =
    AddBranch (default_end port) (default_home port) ∷ AddBranch (default_home port) (default_end port) ∷ []

abbrev pub ends_meeting : Acted → Acted
ends_meeting a =
    fold asks (record a { controller = record a.controller { has_met = true } })
    (flat_map default_branches (up_ports a.controller))

abbrev pub is_deleting : Request → Bool
is_deleting (DeleteAll port) = true
is_deleting request = false

abbrev pub has_emptied : Controller → Bool
has_emptied c = not (list_any (λ s. is_deleting s.request) c.desk.standing)

-- *What an answer causes*: at the port of the request's input, or of its output where the input is on the
-- control link; and behind Delete All
abbrev pub port_of_input : (input other : End) → PortNo
port_of_input input other = if input.port.0 == 0 then other.port else input.port

abbrev pub request_port : Request → Option PortNo
request_port (AddBranch input output) = Some (port_of_input input output)
request_port (MoveBranch input from to) = Some (port_of_input input to)
request_port (DeleteTree input) = Some input.port
request_port (VerifyTree input) = Some input.port
request_port (DeleteAll port) = Some port
request_port (PortManagement port function) = Some port
request_port AllPorts = None

abbrev pub tells_port : Acted → Request → Option PortNo → Acted
tells_port a request None = a
tells_port a request (Some port) = at_port a port (λ setup desk w. port_answers.done setup w request)

-- a port that was reset is given its default channel again; while the switch is being met, the last Delete All
-- ends the meeting
abbrev pub behind_delete_all : Acted → PortNo → Acted
behind_delete_all a port =
    if a.controller.has_met then asks a (AddBranch (default_end port) (default_home port))
    else (if has_emptied a.controller then ends_meeting a else a)

abbrev pub causes_in_estab : Acted → Request → Acted
causes_in_estab a (DeleteAll port) = behind_delete_all a port
causes_in_estab a request = tells_port a request (request_port request)

-- nothing where a release has reset the node
abbrev pub causes : Acted → Request → Acted
causes a request = if is_estab a.controller.adjacency.state then causes_in_estab a request else a

-- *Clearing*: a port in Clearing is cleared when the switch is met and calls the port up, neither Delete All of
-- the port nor a request on its default channels stands, and it has no grant
abbrev pub is_clearing : State → Bool
is_clearing Clearing = true
is_clearing state = false

abbrev pub awaits_nothing : Controller → PortNo → Bool
awaits_nothing c port =
    not (all_on c.desk port) && (not (on_input c.desk (default_end port)) && not (on_input c.desk (default_home port)))

abbrev pub may_clear : Controller → Linked → Bool
may_clear c linked =
    (is_clearing linked.port.adjacency.state && length linked.port.grants == 0)
    && ((c.has_met && is_up c.desk.rows linked.setup.port) && awaits_nothing c linked.setup.port)

abbrev pub clears_of : Acted → Option Linked → Acted
clears_of a None = a
clears_of a (Some linked) =
    if may_clear a.controller linked then with_linked a (record linked { port = port_resets.cleared linked.port }) else a

abbrev pub clears_port : Acted → PortNo → Acted
clears_port a port = clears_of a (linked_at a.controller port)

abbrev pub clears : Acted → Acted
clears a = fold clears_port a (ports_of a.controller)

-- *A success*: releases come first, then what the answer causes, then changes of routes
abbrev pub takes_success : Acted → Request → Acted
takes_success a request = takes_changes (clears (causes (releases a request) request))

-- *An answer*: one that answers nothing does nothing, and a failure resets the node
abbrev pub answers_desk : Acted → Answered → Acted
answers_desk a Unknown = a
answers_desk a (Done s) = takes_success a s.request
answers_desk a (Ports s rows) = empties a
answers_desk a (Failed s code) = node_resets a

abbrev pub takes_answer : Acted → Answered → Acted
takes_answer a answer = answers_desk (with_desk a (after_answer a.controller.desk answer)) answer

abbrev pub answer_comes : Acted → Message → Acted
answer_comes a message = takes_answer a (answered a.controller.desk message)
