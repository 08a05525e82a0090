-- A controller as plain data: a router, and a client of GSMP that controls a switch

use Rattle.std.specs.Prelude.{ℕ, Bool, ◌+◌, ◌-◌, ◌||◌, nat_lt, List, length, map, min, Option, if◌then◌else◌}
use Rattle.std.specs.List.{sum_by}
use Rattle.std.specs.Option.{option_map_or}
use Rattle.net_types.specs.declared.prefix.Addr.{Addr}
use Rattle.net_types.specs.declared.node.NodeId.{NodeId}
use Rattle.net_types.specs.declared.node.PortNo.{PortNo}
use Rattle.net_types.specs.declared.channel.Channel.{Channel}
use Rattle.net_types.specs.declared.channel.End.{End}
use Rattle.net_types.specs.declared.adjacency.Party.{Party}
use Rattle.net_types.specs.Number.{GivenOut}
use Rattle.ipv4_forward.specs.declared.table.Route.{Route}
use Rattle.ipv4_forward.specs.declared.change.RouteChange.{RouteChange}
use Rattle.frame_model.specs.atm_cells.declared.cell.Cell.{Cell}
use Rattle.port_model.specs.adjacency_table.Side.{Side}
use Rattle.frame_model.specs.link_model.declared.record.Record.{Record}
use Rattle.frame_model.specs.link_model.Notes.{Journal, noted}
use Rattle.frame_model.specs.Reassembly.{Reassembly, nothing_taken}
use Rattle.port_model.specs.keyed_lists.Keyed.{at, put, without, entered, key_le}
use Rattle.port_model.specs.Desk.{Desk}
use Rattle.port_model.specs.Setup.{Setup, home_of}
use Rattle.port_model.specs.Port.{Port}
use Rattle.port_model.specs.Redirection.{greatest_tally}

-- what the channel of a label makes of its cells
pub record LabelChain : Type 0 where
  pub label : ℕ
  pub reassembly : Reassembly

-- a linked port: what stays the same of it, the port, what its default channel makes of its cells, and the
-- channels of its labels that have cells or skip, in the order of the labels
pub record Linked : Type 0 where
  pub setup : Setup
  pub port : Port
  pub reassembly : Reassembly
  pub chains : List LabelChain

-- The node, its address and the slots of its region; the table held, the changes of routes that wait in
-- order, whether the first of them is begun, and how many were taken; its side of the adjacency with its
-- switch, its desk, whether the Delete All requests of meeting the switch have all been answered since the
-- opening or the last node reset, what the GSMP channel makes of its cells; its linked ports, ascending; the cells that
-- wait for the switch.
pub record Controller : Type 0 where
  pub node : NodeId
  pub address : Addr
  pub cells : ℕ
  pub table : List Route
  pub waiting : List RouteChange
  pub is_begun : Bool
  pub changes : ℕ
  pub adjacency : Side Party
  pub desk : Desk
  pub has_met : Bool
  pub reassembly : Reassembly
  pub ports : List Linked
  pub queue : List Cell

-- a controller in a run: with the notes of the run, and the numbers that the run has given out
pub record Acted : Type 0 where
  pub controller : Controller
  pub notes : Journal
  pub numbers : GivenOut

-- *Slots*: one holds one cell of a chain or of the queue
abbrev pub chain_slots : Reassembly → ℕ
chain_slots reassembly = length reassembly.chain

abbrev pub port_slots : Linked → ℕ
port_slots linked = chain_slots linked.reassembly + sum_by (λ c. chain_slots c.reassembly) linked.chains

abbrev pub used_slots : Controller → ℕ
used_slots c = length c.queue + (chain_slots c.reassembly + sum_by port_slots c.ports)

abbrev pub free_slots : Controller → ℕ
free_slots c = c.cells - used_slots c

-- *REDIRECTs accepted* by its ports since the opening
abbrev pub redirects_of : Controller → ℕ
redirects_of c = min greatest_tally (sum_by (λ linked. linked.port.redirects) c.ports)

-- *Look-ups*
abbrev pub port_key : Linked → ℕ
port_key linked = linked.setup.port.0

abbrev pub linked_at : Controller → PortNo → Option Linked
linked_at c port = at port_key port.0 c.ports

abbrev pub ports_of : Controller → List PortNo
ports_of c = map (λ linked. linked.setup.port) c.ports

abbrev pub chain_key : LabelChain → ℕ
chain_key chain = chain.label

abbrev pub chain_of : List LabelChain → (label : ℕ) → Reassembly
chain_of chains label = option_map_or (λ chain. chain.reassembly) (at chain_key label chains) nothing_taken

-- *Changes*
abbrev pub with_linked : Acted → Linked → Acted
with_linked a linked = record a { controller = record a.controller { ports = put port_key linked a.controller.ports } }

abbrev pub with_desk : Acted → Desk → Acted
with_desk a desk = record a { controller = record a.controller { desk = desk } }

abbrev pub note : Acted → Record → Acted
note a item = record a { notes = noted a.notes item }

-- the chain of a label's channel is kept while it has cells or skips
abbrev pub chains_with : List LabelChain → (label : ℕ) → Reassembly → List LabelChain
chains_with chains label reassembly =
    if reassembly.is_skipping || nat_lt 0 (chain_slots reassembly)
    then entered (key_le chain_key) (record { label = label; reassembly = reassembly }) (without chain_key label chains)
    else without chain_key label chains

-- *Channels*: VPI 0, VCI 15 is GSMP's on the control link, and the default channel on each link
abbrev pub default_channel : Channel
default_channel = record { vpi = 0; vci = 15 }

abbrev pub default_end : PortNo → End
default_end port = record { port = port; channel = default_channel }

abbrev pub default_home : PortNo → End
default_home port = home_of (default_end port)
