-- What a router's calls ask of the controller that it is: that requests have room, that numbers are left, and that
-- a port asks what can be done. What holds of one controller gives all of it.

use Rattle.std.specs.Prelude.{◌≡◌, ◌<◌, ◌≤◌, ◌+◌, ◌^◌, ◌==◌, true, false, List, [], ◌∷◌, length, map, None, Some}
use Rattle.net_types.specs.declared.channel.End.{End}
use Rattle.net_types.specs.declared.node.PortNo.{PortNo}
use Rattle.net_types.specs.declared.adjacency.Greeting.{Greeting}
use Rattle.net_types.specs.declared.adjacency.Party.{Party}
use Rattle.adjacency_table.specs.declared.message.Answer.{Answer}
use Rattle.adjacency_table.specs.declared.message.Answer.TheVariants as answers
use Rattle.adjacency_table.specs.declared.message.Answer.TheVariants.{Quiet, Send, Open}
use Rattle.adjacency_table.specs.Side.{Step, is_estab}
use Rattle.ifmp_wire.specs.Message.{InRange}
use Rattle.gsmp_wire.specs.declared.request.Request.{Request}
use Rattle.gsmp_wire.specs.declared.request.Request.TheVariants.{MoveBranch, AllPorts}
use Rattle.gsmp_wire.specs.declared.message.Message.TheVariants.{Adjacency}
use Rattle.port_model.specs.Desk.{empty_desk, is_led_home, last_transaction, most_requests}
use Rattle.branch_desk.specs.Requests.{has_function}
use Rattle.controller_link.specs.Cells.{is_channel}
use Rattle.controller_link.specs.declared.taker.Taker.TheVariants.{Label}
use Rattle.port_model.specs.declared.action.Action.{Action}
use Rattle.port_model.specs.declared.action.Action.TheVariants.{Say, Ask, Note, CutChain, TakeBack, Withdraw, Reset}
use Rattle.port_model.specs.Setup.{home_of}
use Rattle.port_model.specs.Resets.{resets, restarts}
use Rattle.port_model.specs.Ticks as port_ticks
use Rattle.world_model.specs.controller_model.declared.range.PortRange.{PortRange}
use Rattle.world_model.specs.Controller.{Acted, Controller, Linked, linked_at, ports_of, with_desk}
use Rattle.world_model.specs.Asking.{asks}
use Rattle.world_model.specs.Sending.{says_gsmp}
use Rattle.world_model.specs.Ticks.{ticks_port}
use Rattle.world_model.specs.Resets.{begins, port_restarts, resets_gsmp, with_work}
use Rattle.controller_router.specs.Node.{linked_range}
use Rattle.world_model.specs.Performing.{Rule, does_in_estab, performs_in_estab}

-- one instance more is left
abbrev pub HasInstance : Acted → Type 0
HasInstance a = a.numbers.instances + 1 < 2 ^ 32

-- *A port restarts*: one instance is left, and it cuts chains of its labels alone
abbrev pub CanClose : List PortRange → PortNo → Action → Type 0
CanClose ranges port (CutChain label) = is_channel ranges (Label port label) ≡ true
CanClose ranges port action = Unit {0}

abbrev pub AllCanClose : List PortRange → PortNo → List Action → Type 0
AllCanClose ranges port [] = Unit {0}
AllCanClose ranges port (action ∷ actions) = CanClose ranges port action × AllCanClose ranges port actions

abbrev pub CutsItsLabels : Acted → PortNo → Type 0
CutsItsLabels a port = (linked : Linked) → linked_at a.controller port ≡ Some linked
    → AllCanClose (map linked_range a.controller.ports) port (restarts linked.setup (begins a linked)).actions

pub record CanRestart (a : Acted) (port : PortNo) : Type 0 where
  pub instance : HasInstance a
  pub cuts : CutsItsLabels a port

-- *A node reset*: one instance more than there are ports is left
abbrev pub EachCanRestart : Acted → List PortNo → Type 0
EachCanRestart a [] = Unit {0}
EachCanRestart a (port ∷ ports) = CanRestart a port × EachCanRestart (port_restarts a port) ports

pub record CanResetNode (a : Acted) : Type 0 where
  pub instance : HasInstance a
  pub ports : EachCanRestart (resets_gsmp a) (ports_of a.controller)

-- *Asking*: a request has room at the desk. A mark is left for it, or the instances for a node reset
pub record HasRoom (c : Controller) : Type 0 where
  pub room : length c.desk.standing < most_requests
  pub next : c.desk.next ≤ last_transaction

pub record CanAsk (a : Acted) (request : Request) : Type 0 where
  pub room : HasRoom a.controller
  pub function : has_function request ≡ true
  pub mark : is_estab a.controller.adjacency.state ≡ true → (a.controller.desk.next == last_transaction) ≡ false → a.numbers.controls + 1 < 2 ^ 64
  pub reset : is_estab a.controller.adjacency.state ≡ true → (a.controller.desk.next == last_transaction) ≡ true → CanResetNode a

-- a channel of a link that the control link has too
pub record HasHome (end : End) : Type 0 where
  pub least : 1 ≤ end.port.0
  pub most : end.port.0 ≤ 8
  pub vpi : end.channel.vpi < 16

pub record CanTakeBack (a : Acted) (input output : End) : Type 0 where
  pub home : HasHome input
  pub asks : is_led_home a.controller.desk input (home_of input) ≡ false → CanAsk a (MoveBranch input output (home_of input))

-- *One action* of a port
pub record CanSay (a : Acted) (port : PortNo) : Type 0 where
  pub least : 1 ≤ port.0
  pub most : port.0 ≤ 8
  pub mark : a.numbers.controls + 1 < 2 ^ 64

abbrev pub CanDo : Acted → PortNo → Action → Type 0
CanDo a port (Say message) = InRange message × CanSay a port
CanDo a port (Ask request needed) = CanAsk a request
CanDo a port (Note item) = Unit {0}
CanDo a port (CutChain label) = is_channel (map linked_range a.controller.ports) (Label port label) ≡ true
CanDo a port (TakeBack input output) = CanTakeBack a input output
CanDo a port (Withdraw input) = Unit {0}
CanDo a port Reset = Unit {0}

-- *Each action* of a port's reset, in Estab
abbrev pub EachCanBeDone : PortNo → Acted → List Action → Type 0
EachCanBeDone port a [] = Unit {0}
EachCanBeDone port a (action ∷ actions) =
    (is_estab a.controller.adjacency.state ≡ true → CanDo a port action) × EachCanBeDone port (does_in_estab port a action) actions

-- *A port's reset*
pub record CanReset (a : Acted) (port : PortNo) (linked : Linked) : Type 0 where
  pub instance : HasInstance a
  pub actions : EachCanBeDone port (with_work a linked (resets linked.setup (begins a linked))) (resets linked.setup (begins a linked)).actions

abbrev pub CanResetPort : Acted → PortNo → Type 0
CanResetPort a port = (linked : Linked) → linked_at a.controller port ≡ Some linked → CanReset a port linked

-- *Each action* of a port at work, in Estab
abbrev pub CanPerform : Acted → PortNo → Action → Type 0
CanPerform a port Reset = CanResetPort a port
CanPerform a port action = CanDo a port action

abbrev pub EachCanBePerformed : PortNo → Acted → List Action → Type 0
EachCanBePerformed port a [] = Unit {0}
EachCanBePerformed port a (action ∷ actions) =
    (is_estab a.controller.adjacency.state ≡ true → CanPerform a port action) × EachCanBePerformed port (performs_in_estab port a action) actions

-- *A rule at a port*
abbrev pub CanWork : Acted → PortNo → Rule → Type 0
CanWork a port rule = (linked : Linked) → linked_at a.controller port ≡ Some linked
    → EachCanBePerformed port (with_work a linked (rule linked.setup a.controller.desk (begins a linked))) (rule linked.setup a.controller.desk (begins a linked)).actions

-- *A tick* of each port in turn
abbrev pub EachCanTick : Acted → List PortNo → Type 0
EachCanTick a [] = Unit {0}
EachCanTick a (port ∷ ports) = CanWork a port port_ticks.ticks × EachCanTick (ticks_port a port) ports

-- *Meeting the switch*: nothing stands, and all ports are asked for
pub record CanMeet (a : Acted) : Type 0 where
  pub idle : a.controller.desk.standing ≡ []
  pub asks : CanAsk (with_desk a empty_desk) AllPorts

abbrev pub HasMark : Acted → Type 0
HasMark a = a.numbers.controls + 1 < 2 ^ 64

-- *The adjacency with the switch*: what its answer asks
abbrev pub CanFollow : Acted → Answer Greeting Party → Type 0
CanFollow a Quiet = Unit {0}
CanFollow a (Send greeting) = HasMark a
CanFollow a (Open None own) = CanMeet a
CanFollow a (Open (Some greeting) own) = HasMark a × CanMeet (says_gsmp a (Adjacency greeting))
CanFollow a answers.Reset = CanResetNode a

abbrev pub turned_to : Acted → Step Party → Acted
turned_to a step = record a { controller = record a.controller { adjacency = step.side } }

-- *Requests* one after the other
abbrev pub EachCanBeAsked : Acted → List Request → Type 0
EachCanBeAsked a [] = Unit {0}
EachCanBeAsked a (request ∷ requests) = CanAsk a request × EachCanBeAsked (asks a request) requests
