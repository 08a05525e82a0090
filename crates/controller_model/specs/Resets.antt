-- *Node reset and restart*: every port begins anew, the desk is emptied, and nothing is sent. The cells that
-- wait for the switch stay. The resets are this project's own; a new instance is RFC 1987's.

use Rattle.std.specs.Prelude.{ℕ, false, [], fold, Option, None, Some}
use Rattle.net_types.specs.declared.node.PortNo.{PortNo}
use Rattle.net_types.specs.Number.{next_instance, with_instance}
use Rattle.port_model.specs.adjacency_table.declared.State.TheVariants.{SynSent}
use Rattle.port_model.specs.adjacency_table.Side.{fresh}
use Rattle.frame_model.specs.Reassembly.{cut, nothing_taken}
use Rattle.port_model.specs.Desk.{emptied}
use Rattle.port_model.specs.declared.action.Action.{Action}
use Rattle.port_model.specs.declared.action.Action.TheVariants.{Note, CutChain}
use Rattle.port_model.specs.Port.{Work}
use Rattle.port_model.specs.Resets.{restarts}
use Rattle.controller_model.specs.Controller.{Acted, Linked, linked_at, ports_of, with_linked, note, chain_of, chains_with}

-- *A chain is cut*: that of a label's channel, of a default channel, of the GSMP channel
abbrev pub cuts_of : Acted → (label : ℕ) → Option Linked → Acted
cuts_of a label None = a
cuts_of a label (Some linked) =
    with_linked (record a { notes = cut a.notes (chain_of linked.chains label) })
    (record linked { chains = chains_with linked.chains label nothing_taken })

abbrev pub cuts_label : PortNo → Acted → (label : ℕ) → Acted
cuts_label port a label = cuts_of a label (linked_at a.controller port)

abbrev pub cuts_default_of : Acted → Option Linked → Acted
cuts_default_of a None = a
cuts_default_of a (Some linked) =
    with_linked (record a { notes = cut a.notes linked.reassembly }) (record linked { reassembly = nothing_taken })

abbrev pub cuts_default : Acted → PortNo → Acted
cuts_default a port = cuts_default_of a (linked_at a.controller port)

abbrev pub cuts_gsmp : Acted → Acted
cuts_gsmp a = record a {
  controller = record a.controller { reassembly = nothing_taken };
  notes = cut a.notes a.controller.reassembly;
}

-- *A port at work*, and the port put back as it left it
abbrev pub begins : Acted → Linked → Work
begins a linked = record { port = linked.port; actions = []; halted = false; instances = a.numbers.instances }

abbrev pub with_work : Acted → Linked → Work → Acted
with_work a linked w =
    with_linked (record a { numbers = record a.numbers { instances = w.instances } }) (record linked { port = w.port })

-- *A port restarts*: its session is closed, and the chains of its labels are cut
abbrev pub closes_by : PortNo → Acted → Action → Acted
closes_by port a (Note item) = note a item
closes_by port a (CutChain label) = cuts_label port a label
closes_by port a action = a

abbrev pub port_restarts_as : Acted → Linked → Work → Acted
port_restarts_as a linked w = fold (closes_by linked.setup.port) (with_work a linked w) w.actions

abbrev pub port_restarts_of : Acted → Option Linked → Acted
port_restarts_of a None = a
port_restarts_of a (Some linked) = port_restarts_as a linked (restarts linked.setup (begins a linked))

abbrev pub port_restarts : Acted → PortNo → Acted
port_restarts a port = port_restarts_of a (linked_at a.controller port)

-- *Node reset*: the adjacency with the switch has the first of the new instances, and a change of routes that
-- was begun is to be begun anew
abbrev pub resets_gsmp : Acted → Acted
resets_gsmp a = record a {
  controller = record a.controller {
    adjacency = fresh SynSent (record a.controller.adjacency.own { instance = next_instance a.numbers });
    desk = emptied a.controller.desk;
    has_met = false;
    is_begun = false;
  };
  numbers = with_instance a.numbers;
}

abbrev pub node_resets : Acted → Acted
node_resets a = fold port_restarts (resets_gsmp a) (ports_of a.controller)

-- *Restart*: then all other chains are cut too
abbrev pub node_restarts : Acted → Acted
node_restarts a = fold cuts_default (cuts_gsmp (node_resets a)) (ports_of a.controller)
