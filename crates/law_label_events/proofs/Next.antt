-- the network behind an event: the line of each label of each link follows

use Rattle.std.proofs.Common.{◌≡◌, ℕ, ◌<◌, ◌+◌, List, ◌∷◌, None, Some}
use Rattle.world_model.specs.Words.{End, NodeId, Place, Down, Up, Out, Cell, payload_of, queue_of, control_port, tick_comes, restarted, RouteChange, label_end, change_comes, node_restarts, Topology, World, Site, site_at, place_node, queue_at, next, put_away, injects, carries_head, loses_head, output_at}
use Rattle.law_controller_lifts.specs.law_label_line.Cells.{Upstream}
use Rattle.law_controller_lifts.specs.law_label_line.Line.{Line}
use Rattle.world_model.specs.Ticks.{ticks}
use Rattle.world_model.specs.network_model.declared.event.Event.TheVariants.{Inject, Carry, Lose, Tick, TickSwitch, Restart, RestartSwitch, Route}
use Rattle.world_model.specs.network_model.declared.link.LinkEnd.{LinkEnd}
use Rattle.world_model.specs.Topology.{peer_of}
use Rattle.world_model.specs.World.{at_controller, at_switch}
use Rattle.law_controller_lifts.specs.law_port_views.Link.{LinkLabel}
use Rattle.law_controller_lifts.specs.law_controller_views.Lifted.{IsProper}
use Rattle.law_controller_lifts.specs.law_arrival_views.Packets.{HasLabelGrants}
use Rattle.law_controller_lifts.specs.law_controller_views.Ready.{FitsLink}
use Rattle.law_world_views.specs.Shown.{WorldShows, WorldGoes, AreApart}
use Rattle.law_label_events.specs.Queues.{HasQueues, HasLowPorts, IsLinkPlace, LeadsOut, LeadsFromLinks, IsAcross}
use Rattle.law_label_events.specs.Acts.{CanTick, Arrives}
use Rattle.law_label_events.proofs.Acts.{tick_goes, change_goes, away_shows, tallied_goes}
use Rattle.law_label_events.proofs.Losses.{loses_goes}
use Rattle.law_label_events.proofs.SwitchActs.{switch_ticks, switch_restarts}
use Rattle.law_label_events.proofs.Carries.{carry_down_goes}
use Rattle.law_label_events.proofs.Restarts.{restart_goes}
use Rattle.law_label_events.proofs.Enters.{enters_goes}
use Rattle.law_label_events.proofs.Arrivals.{carry_up_goes}
use Rattle.law_label_events.proofs.Across.{carry_out_goes}

module _ (like : Type 0) (topology : Topology) (link : LinkLabel) (w : World) (line : Line) (proper : IsProper link) (apart : AreApart link) (s : WorldShows link like w line) where
  -- the records of earlier events are put away
  abbrev kept : World
  kept = put_away w

  shown : WorldShows link like kept line
  shown = away_shows link like w line s

  pub loses : (place : Place) → HasLowPorts link → ((site : Site) → site_at w (place_node place) ≡ Some site → HasQueues site) → IsLinkPlace place
      → WorldGoes link like (next topology w (Lose place)) line
  loses place low nine placed = tallied_goes link like kept (loses_head kept place (queue_at kept place)) line (loses_goes link proper like apart kept line shown place low nine placed)

  pub comes_up : (node : NodeId) → ((site : Site) → site_at w node ≡ Some site → HasQueues site)
      → ((site : Site) (cell : Cell) (cells : List Cell) → site_at w node ≡ Some site → queue_of site.switch.crossbar control_port ≡ cell ∷ cells → Arrives link like kept node site cell)
      → WorldGoes link like (next topology w (Carry (Up node))) line
  comes_up node nine arrives = tallied_goes link like kept (carries_head topology kept (Up node) (queue_at kept (Up node))) line (carry_up_goes link proper like apart kept line shown topology node nine arrives)

  pub goes_down : (node : NodeId) → HasLowPorts link → ((site : Site) → site_at w node ≡ Some site → HasQueues site)
      → ((site : Site) (cell : Cell) (cells : List Cell) → site_at w node ≡ Some site → site.controller.queue ≡ cell ∷ cells → LeadsOut site cell)
      → WorldGoes link like (next topology w (Carry (Down node))) line
  goes_down node low nine leads = tallied_goes link like kept (carries_head topology kept (Down node) (queue_at kept (Down node))) line (carry_down_goes link proper like apart low kept line shown topology node nine leads)

  pub goes_over : (from : LinkEnd) → HasLowPorts link → 0 < from.port.0 → ((far : LinkEnd) → peer_of topology from.node from.port ≡ Some far → IsAcross link from far)
      → ((node : NodeId) (site : Site) → site_at w node ≡ Some site → HasQueues site) → ((node : NodeId) (site : Site) → site_at w node ≡ Some site → LeadsFromLinks site)
      → ((input : End) → 0 < input.port.0 → output_at w (link.node Upstream) input ≡ Some (label_end (link.port Upstream) link.label) → like)
      → WorldGoes link like (next topology w (Carry (Out from.node from.port))) line
  goes_over from low above across nine leads may = tallied_goes link like kept (carries_head topology kept (Out from.node from.port) (queue_at kept (Out from.node from.port))) line
      (carry_out_goes link proper like apart low kept line shown topology from above across nine leads may)

  pub packet_enters : (node : NodeId) (octets : List ℕ) → payload_of w.notes.frames (record { packet = w.sent + 1; frame = 1 }) ≡ None
      → ((site : Site) → site_at w node ≡ Some site → HasLabelGrants site.controller) → WorldGoes link like (next topology w (Inject node octets)) line
  packet_enters node octets free grants = tallied_goes link like kept (injects kept node octets) line (enters_goes link proper like apart kept line shown node octets free grants)

  pub restarts : (node : NodeId) → WorldGoes link like (next topology w (Restart node)) line
  restarts node = tallied_goes link like kept (at_controller kept node node_restarts) line (restart_goes link proper like apart kept line shown node)

  pub controller_ticks : (node : NodeId) → FitsLink link → ((site : Site) → site_at w node ≡ Some site → CanTick kept site) → WorldGoes link like (next topology w (Tick node)) line
  controller_ticks node fit can = tallied_goes link like kept (at_controller kept node ticks) line (tick_goes link proper like apart kept line shown node fit can)

  pub route_comes : (node : NodeId) (change : RouteChange) → WorldGoes link like (next topology w (Route node change)) line
  route_comes node change = tallied_goes link like kept (at_controller kept node (λ a. change_comes a change)) line (change_goes link proper like apart kept line shown node change)

  pub ticks_switch : (node : NodeId) → ((site : Site) → site_at w node ≡ Some site → HasQueues site) → WorldGoes link like (next topology w (TickSwitch node)) line
  ticks_switch node nine = tallied_goes link like kept (at_switch kept node tick_comes) line (switch_ticks link proper like apart kept line shown node nine)

  pub restarts_switch : (node : NodeId) → ((site : Site) → site_at w node ≡ Some site → HasQueues site) → WorldGoes link like (next topology w (RestartSwitch node)) line
  restarts_switch node nine = tallied_goes link like kept (at_switch kept node restarted) line (switch_restarts link proper like apart kept line shown node nine)
