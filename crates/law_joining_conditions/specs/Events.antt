-- What a router's calls ask of the controller that it is, where an event comes to it: between events, with numbers left

use Rattle.std.specs.Prelude.{ℕ, List}
use Rattle.controller_joining.specs.world_model.Words.{PortNo, Addr, HasNumbersLeft, RouteChange, InRange, at_port}
use Rattle.controller_joining.specs.world_model.gsmp_wire.declared.message.Message.{Message}
use Rattle.controller_joining.specs.world_model.ifmp_wire.declared.message.Message.{Message as IfmpMessage}
use Rattle.controller_joining.specs.world_model.Controller.{Acted}
use Rattle.controller_joining.specs.world_model.Gsmp.{message_comes}
use Rattle.law_controller_conditions.specs.controller_router.Conditions.{CanResetNode}
use Rattle.law_controller_conditions.specs.controller_router.Meeting.{with_change}
use Rattle.controller_joining.specs.Conditions.{CanTick, CanTakeChanges, CanWorkOn}
use Rattle.controller_joining.specs.Answers.{CanBeTold}
use Rattle.law_controller_conditions.specs.Kept.{IsHeld, IsKept, AreIn}
use Rattle.law_controller_conditions.specs.Calls.{hearing, counting}

-- *A tick*, *a restart*, *a change of routes*
abbrev pub TicksCanGoBy : Type 0
TicksCanGoBy = (a : Acted) → IsKept a.controller → HasNumbersLeft a.numbers → CanTick a

abbrev pub NodeCanRestart : Type 0
NodeCanRestart = (a : Acted) → IsKept a.controller → HasNumbersLeft a.numbers → CanResetNode a

abbrev pub ChangesCanCome : Type 0
ChangesCanCome = (a : Acted) (change : RouteChange) → IsKept a.controller → HasNumbersLeft a.numbers → CanTakeChanges (with_change a change)

-- *A message* of the switch, where what it leaves has numbers that can be given out
abbrev pub MessagesCanBeTold : Type 0
MessagesCanBeTold = (a : Acted) (message : Message) → IsKept a.controller → AreIn (message_comes a message).numbers → CanBeTold a message

-- *A port* hears a message of IFMP, or counts a packet
abbrev pub PortsCanHear : Type 0
PortsCanHear = (a : Acted) (port : PortNo) (source : Addr) (message : IfmpMessage) → IsHeld a.controller → InRange message → AreIn (at_port a port (hearing source message)).numbers
    → CanWorkOn a port (hearing source message)

abbrev pub PortsCanCount : Type 0
PortsCanCount = (a : Acted) (port : PortNo) (packet : List ℕ) → IsHeld a.controller → AreIn (at_port a port (counting packet)).numbers → CanWorkOn a port (counting packet)
