-- What is asked of each event at an end of a link holds in a run

use Rattle.std.specs.Prelude.{List}
use Rattle.world_model.specs.Words.{Policy, Up, Peer, Said, Linked, Topology, next}
use Rattle.world_model.specs.network_model.declared.link.LinkEnd.{LinkEnd}
use Rattle.world_model.specs.network_model.declared.event.Event.{Event}
use Rattle.world_model.specs.network_model.declared.event.Event.TheVariants.{Carry, Tick}
use Rattle.law_link_nodes.specs.law_run_facts.ordered_lists.Ordered.{Every}
use Rattle.law_link_nodes.specs.law_live_hearing.Law.{world_at}
use Rattle.law_link_nodes.specs.law_live_worlds.Law.{Shows}
use Rattle.law_link_nodes.specs.law_live_orders.Law.{heard_at}
use Rattle.law_link_nodes.specs.law_live_waking_links.Hellos.{Greet, IsWritten}
use Rattle.law_link_nodes.specs.law_live_tables.Law.{IsNodeUp, KeepsItsParty, tick_answer}
use Rattle.law_link_numbers.specs.Law.{TicksKeepParties, EntriesKeepParties}
pub use Rattle.law_link_nodes.specs.law_link_names.Law.{ComesAtEnd, GreetingsAreNamed}
use Rattle.law_link_orders.specs.Law.{UnlostFramesComeInOrder, RunsMayLead}
use Rattle.law_link_nodes.specs.law_link_tables.Law.{EntriesLeavePorts}
use Rattle.law_link_nodes.specs.law_link_tables.Events.{ComesInPeace, heard_answer, CarriesGoByTable}
use Rattle.law_link_nodes.specs.Law.{WokenNodesStayMet}
use Rattle.law_link_nodes.specs.Runs.{PortsGoByAddress, NodesSendByLabels, LabelsHoldPackets}
use Rattle.live_model.specs.Links.{HasNumbers}

-- *Where numbers are left* nothing but its table resets a port at a tick, while its node is up
abbrev pub TicksKeepTheirs : Type 0
TicksKeepTheirs = (policy : Policy) (topology : Topology) (before : List Event) (end peer : LinkEnd) → ComesAtEnd policy topology before (Tick end.node) end peer
    → HasNumbers (world_at policy topology before) end → IsNodeUp (next topology (world_at policy topology before) (Tick end.node)) end
    → KeepsItsParty (world_at policy topology before) (next topology (world_at policy topology before) (Tick end.node)) end tick_answer

-- and so as a cell is carried to it
abbrev pub CarriesKeepTheirs : Type 0
CarriesKeepTheirs = (policy : Policy) (topology : Topology) (before : List Event) (end peer : LinkEnd) → ComesAtEnd policy topology before (Carry (Up end.node)) end peer
    → HasNumbers (world_at policy topology before) end → ComesInPeace topology (world_at policy topology before) end
    → (linked peer_linked : Linked) (shows : Shows (world_at policy topology before) end linked) (peer_shows : Shows (world_at policy topology before) peer peer_linked)
    (hears : List (Said Peer))
    → Greet peer_shows.site.controller.address (world_at policy topology before).notes.frames (heard_at (world_at policy topology before) (Carry (Up end.node)) end) hears
    → Every IsWritten hears → KeepsItsParty (world_at policy topology before) (next topology (world_at policy topology before) (Carry (Up end.node))) end (heard_answer hears)

-- *All of it*
pub record Given : Type 0 where
  pub order : UnlostFramesComeInOrder
  pub lead : RunsMayLead
  pub nodes : WokenNodesStayMet
  pub addresses : PortsGoByAddress
  pub labels : NodesSendByLabels
  pub carries : CarriesGoByTable
  pub entries : EntriesLeavePorts
  pub entries_keep : EntriesKeepParties
  pub parties : TicksKeepParties
  pub carries_keep : CarriesKeepTheirs
  pub packets : LabelsHoldPackets
  pub named : GreetingsAreNamed
