-- A network is *unlabelled*: all have met, and no label is held

use Rattle.std.specs.Prelude.{◌≡◌, ◌<◌, ◌*◌, ◌==◌, ◌&&◌, true, not, Bool, ℕ, [], None, Some}
use Rattle.std.specs.Option.{option_map_or}
use Rattle.ordered_lists.specs.Ordered.{Every}
use Rattle.world_model.specs.Words.{NodeId, End, session_of, default_end, default_home, is_in_range, is_label_channel, labels_of, Session, Linked, linked_end, Switch, Topology, World, Site, site_at, is_empty}
use Rattle.world_model.specs.adjacency_table.Table.{silence_limit}
use Rattle.world_model.specs.crossbar_model.Crossbar.{output_of}
use Rattle.world_model.specs.port_model.Port.{Port}
use Rattle.world_model.specs.switch_model.declared.port.PortState.{PortState}
use Rattle.world_model.specs.Topology.{peer_of}
use Rattle.world_model.specs.network_model.declared.link.LinkEnd.{LinkEnd}
use Rattle.live_model.specs.Met.{HaveMet}
use Rattle.live_model.specs.Links.{number_of}

-- *The number* that a port expects of its peer's next redirection message; 0 without a session
abbrev pub expected_of : Port → ℕ
expected_of port = option_map_or (λ (s : Session). s.expected) port.session 0

-- *The channel of a label*, where it comes in at a port of a link
abbrev pub is_labels : End → Bool
is_labels input = not (input.port.0 == 0) && is_label_channel input.channel

-- *A port is unlabelled*: it holds no label and has no grant; its node's switch leads its default channel home to the controller, and the one
-- from there out to the port; and the switch connects the paths of all labels in the port's range
pub record IsUnlabelledPort (s : Switch) (linked : Linked) : Type 0 where
  pub no_label : labels_of linked.port ≡ []
  pub no_grant : linked.port.grants ≡ []
  pub home : output_of s.crossbar.branches (default_end linked.setup.port) ≡ Some (default_home linked.setup.port)
  pub out : output_of s.crossbar.branches (default_home linked.setup.port) ≡ Some (default_end linked.setup.port)
  pub paths : linked.setup.greatest < 1024 * s.vpis

-- *A node is unlabelled*: its controller and its switch have met, and were silent to each other for fewer ticks than the limit; no request stands, and no change of routes waits;
-- the controller has the sessions of the switch's ports in its records; its ports are unlabelled; and its switch leads no channel of a label
pub record IsUnlabelledNode (site : Site) : Type 0 where
  pub met : HaveMet site.controller.adjacency site.switch.adjacency
  pub heard : site.controller.adjacency.silence < silence_limit
  pub switch_heard : site.switch.adjacency.silence < silence_limit
  pub nothing_stands : site.controller.desk.standing ≡ []
  pub none_waits : site.controller.waiting ≡ []
  pub sessions : Every (λ (state : PortState). session_of site.controller.desk.rows state.number ≡ state.session) site.switch.ports
  pub ports : Every (IsUnlabelledPort site.switch) site.controller.ports
  pub leads_no_label : (input : End) → is_labels input ≡ true → output_of site.switch.crossbar.branches input ≡ None

-- *The two ends of a link are unlabelled*: they have met, and heard each other since they ticked; each expects the number that the other
-- says next; and each label in the range of the one is in the range of the other
pub record AreUnlabelledEnds (linked far_linked : Linked) : Type 0 where
  pub met : HaveMet linked.port.adjacency far_linked.port.adjacency
  pub heard : linked.port.adjacency.silence ≡ 0
  pub far_heard : far_linked.port.adjacency.silence ≡ 0
  pub there : expected_of far_linked.port ≡ number_of linked.port
  pub back : expected_of linked.port ≡ number_of far_linked.port
  pub ranges : (number : ℕ) → is_in_range linked.setup number ≡ true → is_in_range far_linked.setup number ≡ true

-- *A network is unlabelled*: no queue has a cell; its nodes are unlabelled, and so are the two ends of each of its links; and labels are to be refreshed
-- before their lifetime is over
pub record IsUnlabelled (topology : Topology) (w : World) : Type 0 where
  pub empty : is_empty w ≡ true
  pub nodes : (node : NodeId) (site : Site) → site_at w node ≡ Some site → IsUnlabelledNode site
  pub links : (one far : LinkEnd) (linked far_linked : Linked) → peer_of topology one.node one.port ≡ Some far → linked_end w one ≡ Some linked
      → linked_end w far ≡ Some far_linked → AreUnlabelledEnds linked far_linked
  pub in_time : topology.times.refresh < topology.times.lifetime
