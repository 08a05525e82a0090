-- What a frame asks of the controller to which it comes, by the channel on which it came. No claim needs this file.

use Rattle.std.specs.Prelude.{◌≡◌, ℕ, ◌<◌, ◌^◌, List, Option, None, Some, Ok}
use Rattle.std.specs.Option.{option_and_then}
use Rattle.net_types.specs.declared.node.PortNo.{PortNo}
use Rattle.net_types.specs.declared.number.Mark.{Mark}
use Rattle.net_types.specs.Number.{GivenOut}
use Rattle.ipv4_packet.specs.Packet.{first_fault}
use Rattle.ipv4_packet.specs.declared.flow.FlowId.{FlowId}
use Rattle.ipv4_packet.specs.Flow.{IsFlow}
use Rattle.flow_encaps.specs.Unwrapped.{default_unwrapped}
use Rattle.gsmp_wire.specs.declared.message.Message.{Message}
use Rattle.gsmp_wire.specs.Fields.{decoded}
use Rattle.link_model.specs.Notes.{Journal}
use Rattle.controller_gsmp.specs.Client.{PortEnd}
use Rattle.controller_link.specs.declared.taker.Taker as control
use Rattle.controller_link.specs.declared.taker.Taker.TheVariants.{Gsmp, Default, Label}
use Rattle.port_model.specs.Counting.{used}
use Rattle.controller_router.specs.port_state.Engine.{flow_at}
use Rattle.world_model.specs.Controller.{Acted, Controller, linked_at}
use Rattle.world_model.specs.Cells.{Taker, ForGsmp, ForDefault, ForLabel}
use Rattle.world_model.specs.Performing.{at_port}
use Rattle.controller_router.specs.Conditions.{HasMark}
use Rattle.controller_joining.specs.Answers.{CanBeTold}
use Rattle.controller_joining.specs.Joining.{AreJoined, Joining, acted, controller_of}
use Rattle.law_joining_conditions.specs.law_controller_conditions.Routes.{HasLinkRoutes}
use Rattle.law_joining_conditions.specs.Cells.{CanHoldPacket}

-- the flow that a label of a port is bound to
abbrev pub flow_on : Controller → PortNo → (number : ℕ) → Option FlowId
flow_on c port number = option_and_then (λ linked. flow_at linked.port number) (linked_at c port)

-- a label of a port is in use
abbrev pub used_at : Acted → PortNo → (number : ℕ) → Acted
used_at a port number = at_port a port (λ setup desk w. used w number)

-- a frame of this mark may come: the joins are listed, routes lead to links, and numbers are left for the frame behind
-- it and for a control frame
pub record MayCome {E : Type 0} (seen : E → PortEnd) (j : Joining E) (notes : Journal) (numbers : GivenOut) (came : Mark) : Type 0 where
  pub joined : AreJoined seen j
  pub frame : came.frame < 2 ^ 63
  pub routes : HasLinkRoutes (controller_of seen j)
  pub control : HasMark (acted seen j notes numbers)

-- what the frame holds can be done
abbrev pub CanAct : Acted → control.Taker → Mark → (payload : List ℕ) → Type 0
CanAct a Gsmp mark payload = (message : Message) → decoded payload ≡ Ok message → CanBeTold a message
CanAct a (Default port) mark payload = (packet : List ℕ) → default_unwrapped payload ≡ Ok packet → first_fault packet ≡ None → CanHoldPacket a port mark packet
CanAct a (Label port number) mark payload = (flow : FlowId) → flow_on a.controller port number ≡ Some flow → IsFlow flow

-- the label of its channel is still bound
abbrev pub IsActing : Controller → Taker → Type 0
IsActing c ForGsmp = Unit {0}
IsActing c (ForDefault linked) = Unit {0}
IsActing c (ForLabel linked label) = flow_on c linked.setup.port label.number ≡ Some label.flow
