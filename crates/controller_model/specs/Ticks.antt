-- *Tick*: the adjacency with the switch first, then the requests that stand, then each port, then joins. The
-- order is this project's own.

use Rattle.std.specs.Prelude.{fold, if◌then◌else◌}
use Rattle.net_types.specs.declared.node.PortNo.{PortNo}
use Rattle.port_model.specs.adjacency_table.declared.message.Answer.{Answer}
use Rattle.port_model.specs.adjacency_table.declared.message.Answer.TheVariants.{Reset}
use Rattle.port_model.specs.adjacency_table.Side.{Step, is_estab, ticked}
use Rattle.net_types.specs.declared.adjacency.Party.{Party}
use Rattle.port_model.specs.adjacency_table.declared.message.Said.{Said}
use Rattle.port_model.specs.Desk.{sent_again}
use Rattle.port_model.specs.Ticks as port_ticks
use Rattle.controller_model.specs.Controller.{Acted, ports_of}
use Rattle.controller_model.specs.Resets.{node_resets}
use Rattle.controller_model.specs.Asking.{sends_request}
use Rattle.controller_model.specs.Performing.{at_port}
use Rattle.controller_model.specs.Joins.{tries_joins}
use Rattle.controller_model.specs.Gsmp.{steps}

abbrev pub sends_again : Acted → Acted
sends_again a =
    if is_estab a.controller.adjacency.state then fold sends_request a (sent_again a.controller.desk) else a

abbrev pub ticks_port : Acted → PortNo → Acted
ticks_port a port = at_port a port port_ticks.ticks

abbrev pub ticks_ports : Acted → Acted
ticks_ports a = fold ticks_port a (ports_of a.controller)

abbrev pub ticks_by : Acted → Step Party → Answer (Said Party) Party → Acted
ticks_by a step Reset = node_resets a
ticks_by a step answer = tries_joins (ticks_ports (sends_again (steps a step)))

-- a reset of that adjacency ends the tick
abbrev pub ticks_with : Acted → Step Party → Acted
ticks_with a step = ticks_by a step step.answer

abbrev pub ticks : Acted → Acted
ticks a = ticks_with a (ticked a.controller.adjacency)
