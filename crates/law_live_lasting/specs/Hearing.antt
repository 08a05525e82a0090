-- A switch hears its controller in each beat, as the controller hears it

use Rattle.std.specs.Prelude.{◌≡◌, List, Some}
use Rattle.world_model.specs.Words.{NodeId, Policy, Topology, Site, site_at}
use Rattle.world_model.specs.network_model.declared.event.Event.{Event}
use Rattle.live_model.specs.Beats.{Beat, settled}
use Rattle.law_live_calm_nodes.specs.law_live_worlds.Law.{IsCalm}
use Rattle.law_live_calm_nodes.specs.law_live_hearing.Law.{world_at}
use Rattle.law_live_calm_nodes.specs.Nodes.{IsNodeInBeat}

-- *The ACK* that the controller of a node at peace says in its tick
abbrev pub SwitchesHearTheirNodes : Type 0
SwitchesHearTheirNodes = (policy : Policy) (topology : Topology) (before : List Event) (node : NodeId) (beat : Beat) (site : Site)
    → IsNodeInBeat policy topology before node beat → IsCalm (world_at policy topology before) node
    → site_at (settled topology (world_at policy topology before) beat) node ≡ Some site → site.switch.adjacency.silence ≡ 0
