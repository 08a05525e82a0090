-- What a frame does that is heard: the message in it is told

use Rattle.std.specs.Prelude.{◌≡◌, ◌<◌, ◌^◌}
use Rattle.world_model.specs.Words.{Addr, Mark, ifmp_packet_of, default_payload, InRange, FitsMessage, hears, Linked, ForGsmp, ForDefault, at_port, frame_read}
use Rattle.world_model.specs.ifmp_wire.declared.message.Message.{Message as IfmpMessage}
use Rattle.world_model.specs.ifmp_wire.Message.{octets_of as ifmp_octets}
use Rattle.world_model.specs.gsmp_wire.declared.message.Message.{Message as GsmpMessage}
use Rattle.world_model.specs.gsmp_wire.Layout.{octets_of as gsmp_octets}
use Rattle.world_model.specs.gsmp_wire.Fields.{decoded}
use Rattle.world_model.specs.gsmp_wire.Range.{IsInRange}
use Rattle.world_model.specs.Switch as switches
use Rattle.world_model.specs.Conduct as switch
use Rattle.world_model.specs.Controller as controllers
use Rattle.world_model.specs.Gsmp as controller
use Rattle.world_model.specs.Cells.{frame_holds}

-- *A message of IFMP* on the default channel of a port (RFC 1953): the port hears it, from its source
abbrev pub PortsHear : Type 0
PortsHear = (a : controllers.Acted) (linked : Linked) (mark : Mark) (source : Addr) (message : IfmpMessage)
    → source.0 < 2 ^ 32 → InRange message → FitsMessage message
    → frame_holds a (ForDefault linked) mark (default_payload (ifmp_packet_of source (ifmp_octets message)))
    ≡ at_port a linked.setup.port (λ setup desk w. hears setup desk w source message)

-- *A message of GSMP* on the control link (RFC 1987): the controller is told it, and so is the switch
abbrev pub ControllersAreTold : Type 0
ControllersAreTold = (a : controllers.Acted) (mark : Mark) (message : GsmpMessage) → IsInRange message
    → frame_holds a ForGsmp mark (gsmp_octets message) ≡ controller.message_comes a message

abbrev pub SwitchesAreTold : Type 0
SwitchesAreTold = (a : switches.ActedSwitch) (message : GsmpMessage) → IsInRange message
    → frame_read a (decoded (gsmp_octets message)) ≡ switch.message_heard a message
