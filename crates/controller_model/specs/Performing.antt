-- What a port at work has asked is done, one by one. A node reset in the middle, where transaction numbers are
-- spent, leaves the rest out.

use Rattle.std.specs.Prelude.{fold, Option, None, Some, if◌then◌else◌}
use Rattle.net_types.specs.declared.node.PortNo.{PortNo}
use Rattle.port_model.specs.adjacency_table.Side.{is_estab}
use Rattle.port_model.specs.Desk.{Desk}
use Rattle.port_model.specs.declared.action.Action.{Action}
use Rattle.port_model.specs.declared.action.Action.TheVariants.{Say, Ask, Note, CutChain, TakeBack, Withdraw, Reset}
use Rattle.port_model.specs.Setup.{Setup}
use Rattle.port_model.specs.Port.{Work}
use Rattle.port_model.specs.Resets.{resets}
use Rattle.controller_model.specs.Controller.{Acted, Linked, linked_at, note}
use Rattle.controller_model.specs.Sending.{says_ifmp}
use Rattle.controller_model.specs.Resets.{begins, with_work, cuts_label}
use Rattle.controller_model.specs.Asking.{asks, takes_back, withdraws_input}

-- *One action*, but a reset
abbrev pub does : PortNo → Acted → Action → Acted
does port a (Say message) = says_ifmp port a message
does port a (Ask request needed) = asks a request
does port a (Note item) = note a item
does port a (CutChain label) = cuts_label port a label
does port a (TakeBack input output) = takes_back a input output
does port a (Withdraw input) = withdraws_input a input
does port a Reset = a

abbrev pub does_in_estab : PortNo → Acted → Action → Acted
does_in_estab port a action = if is_estab a.controller.adjacency.state then does port a action else a

-- *Port reset*: the port as it stands begins anew under the next instance, and what its reset asks is done
abbrev pub resets_as : Acted → Linked → Work → Acted
resets_as a linked w = fold (does_in_estab linked.setup.port) (with_work a linked w) w.actions

abbrev pub resets_of : Acted → Option Linked → Acted
resets_of a None = a
resets_of a (Some linked) = resets_as a linked (resets linked.setup (begins a linked))

abbrev pub resets_port : Acted → PortNo → Acted
resets_port a port = resets_of a (linked_at a.controller port)

-- *Each action* in Estab
abbrev pub performs : PortNo → Acted → Action → Acted
performs port a Reset = resets_port a port
performs port a action = does port a action

abbrev pub performs_in_estab : PortNo → Acted → Action → Acted
performs_in_estab port a action = if is_estab a.controller.adjacency.state then performs port a action else a

-- *A rule of a port*, with what stays the same of it and the desk
abbrev pub Rule : Type 0
Rule = Setup → Desk → Work → Work

abbrev pub works_as : Acted → Linked → Work → Acted
works_as a linked w = fold (performs_in_estab linked.setup.port) (with_work a linked w) w.actions

abbrev pub works : Acted → Rule → Option Linked → Acted
works a rule None = a
works a rule (Some linked) = works_as a linked (rule linked.setup a.controller.desk (begins a linked))

abbrev pub at_port : Acted → PortNo → Rule → Acted
at_port a port rule = works a rule (linked_at a.controller port)
