-- What holds at each event of a run besides: ports go by their nodes' addresses, grants are of labels, and a frame of a label holds a packet
-- that may be sent on

use Rattle.std.specs.Prelude.{◌≡◌, ℕ, List, Contains, Some}
use Rattle.world_model.specs.Words.{NodeId, Up, Cell, Policy, Topology, IsTopology, IsNode, IsRun, past_of, payload_of, Label, Linked, linked_at, taker_of, ForLabel, Site, site_at, queue_at}
use Rattle.world_model.specs.Topology.{peer_of}
use Rattle.world_model.specs.network_model.declared.link.LinkEnd.{LinkEnd}
use Rattle.world_model.specs.network_model.declared.event.Event.{Event}
use Rattle.law_link_names.specs.law_run_facts.law_world_views.Between.{IsWorld}
use Rattle.law_link_names.specs.law_run_facts.law_world_views.Fronts.{HasAddresses}
use Rattle.law_link_names.specs.law_live_hearing.Law.{world_at}
use Rattle.law_link_names.specs.law_live_unsaid.Law.{SendsByLabels, HoldsPacket}

-- *The port at an end of a link* goes by the address of its node
abbrev pub PortsGoByAddress : Type 0
PortsGoByAddress = (policy : Policy) (topology : Topology) (events : List Event) (one far : LinkEnd) → IsTopology topology → IsWorld (past_of policy topology events)
    → peer_of topology one.node one.port ≡ Some far → (site : Site) (linked : Linked) → site_at (world_at policy topology events) one.node ≡ Some site
    → linked_at site.controller one.port ≡ Some linked → linked.port.adjacency.own.address ≡ site.controller.address

-- *Grants* of each node are of labels
abbrev pub NodesSendByLabels : Type 0
NodesSendByLabels = (policy : Policy) (topology : Topology) (events : List Event) → HasAddresses topology → IsRun policy topology events → (node : NodeId) (site : Site)
    → site_at (world_at policy topology events) node ≡ Some site → SendsByLabels site.controller

-- *What waits for a controller* in a frame of a label holds a packet that may be sent on
abbrev pub LabelsHoldPackets : Type 0
LabelsHoldPackets = (policy : Policy) (topology : Topology) (events : List Event) → HasAddresses topology → IsRun policy topology events
    → IsWorld (past_of policy topology events) → (node : NodeId) → IsNode topology node → (site : Site) (cell : Cell) (q : Linked) (label : Label) (payload : List ℕ)
    → site_at (world_at policy topology events) node ≡ Some site → Contains (queue_at (world_at policy topology events) (Up node)) cell
    → taker_of site.controller cell.header.channel ≡ Some (ForLabel q label) → payload_of (world_at policy topology events).notes.frames cell.mark ≡ Some payload
    → HoldsPacket label payload
