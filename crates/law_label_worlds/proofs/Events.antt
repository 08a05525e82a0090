-- each event but a cell that comes to a controller and a tick: the line of each label of each link follows, with what may be
-- joined before it

use Rattle.std.proofs.Common.{◌≡◌, ℕ, ◌+◌, ◌<◌, true, List, Option, None, Some, refl, arith}
use Rattle.std.specs.Prelude.{is_some}
use Rattle.world_model.specs.Words.{NodeId, PortNo, Place, Down, Up, Out, is_label_number, RouteChange, IsLinkPort, Setup, Grant, port_key, Topology, IsTopology, IsPlace, Site, site_at, next, Past}
use Rattle.law_label_events.specs.ordered_lists.Ordered.{Every}
use Rattle.law_label_events.proofs.ordered_lists.Every.{every_map}
use Rattle.law_label_events.proofs.law_port_facts.Keyed.{at_every}
use Rattle.law_label_events.specs.law_port_facts.Port.{IsGrant}
use Rattle.law_label_events.specs.law_controller_facts.Sound.{IsSound, IsLinkedPort}
use Rattle.law_label_events.specs.law_label_line.Line.{Line}
use Rattle.world_model.specs.network_model.declared.event.Event.{Event}
use Rattle.world_model.specs.network_model.declared.event.Event.TheVariants.{Inject, Carry, Lose, TickSwitch, Restart, RestartSwitch, Route}
use Rattle.world_model.specs.network_model.declared.link.LinkEnd.{LinkEnd}
use Rattle.world_model.specs.Topology.{peer_of}
use Rattle.law_label_events.specs.law_port_views.Link.{LinkLabel}
use Rattle.law_label_events.specs.law_arrival_views.Packets.{HasLabelGrants}
use Rattle.law_label_events.specs.law_world_views.Ready.{setups_of}
use Rattle.law_label_events.specs.law_world_views.Pairs.{IsLike, by_branch}
use Rattle.law_label_events.specs.law_world_views.Shown.{WorldShows, WorldGoes}
use Rattle.law_label_events.specs.law_world_views.Between.{EachSite, IsWorld, IsLinkLabel}
use Rattle.law_running_worlds.proofs.law_causes.Shown.{IsPeer, peer_back}
use Rattle.law_label_events.specs.Queues.{HasQueues, IsLinkPlace, LeadsFromLinks}
use Rattle.law_label_events.proofs.Next.{loses, goes_down, goes_over, packet_enters, restarts, route_comes, ticks_switch, restarts_switch}
use Rattle.law_label_events.proofs.law_world_views.Labels.{in_range_label}
use Rattle.law_label_worlds.proofs.Ends.{proper, low, apart, across, leads_out, leads_from}

-- a port that cells of the topology leave by is a link's
module _ (topology : Topology) (is : IsTopology topology) where
  above_by : (node : NodeId) (port : PortNo) (o : Option LinkEnd) → peer_of topology node port ≡ o → is_some o ≡ true → 0 < port.0
  above_by node port None e there = absurd (cc there)
  above_by node port (Some far) e there = (let p : IsPeer topology (record { node = node; port = port }) far = peer_back topology is (record { node = node; port = port }) far e in omega (arith, p.own.0))

  link_place : (place : Place) → IsPlace topology place → IsLinkPlace place
  link_place (Down node) at = tt
  link_place (Up node) at = tt
  link_place (Out node port) at = above_by node port (peer_of topology node port) refl at.1

-- the grants of a sound controller are of labels
label_grants : (site : Site) → IsSound (setups_of site.controller) site.controller → HasLabelGrants site.controller
label_grants site sound port linked found =
    let h : IsLinkedPort (setups_of site.controller) linked = at_every port_key (IsLinkedPort (setups_of site.controller)) port.0 site.controller.ports linked sound.ports.each found in
    every_map (IsGrant (setups_of site.controller) linked.setup) (λ (g : Grant). is_label_number g.label ≡ true) linked.port.grants
    (λ g is. in_range_label linked.setup g.label is.in_range) h.grants

-- a switch has its queues, and its controller's ports are of links
pub record IsPlain (site : Site) : Type 0 where
  pub nine : HasQueues site
  pub links : Every (λ (setup : Setup). IsLinkPort setup.port) (setups_of site.controller)

module _ (past : Past) (is : IsTopology past.topology) (world : IsWorld past) (plain : EachSite past.now (λ node site. IsPlain site))
    (link : LinkLabel) (of : IsLinkLabel past.topology link) (line : Line) (s : WorldShows link (IsLike past.now link) past.now line) where
  abbrev Follows : Event → Type 0
  Follows event = WorldGoes link (IsLike past.now link) (next past.topology past.now event) line

  nine : (node : NodeId) (site : Site) → site_at past.now node ≡ Some site → HasQueues site
  nine node site found = (plain node site found).nine

  from_links : (node : NodeId) (site : Site) → site_at past.now node ≡ Some site → LeadsFromLinks site
  from_links node site found = leads_from site (plain node site found).links (world.shapes node site found).branches

  pub follows_lose : (place : Place) → IsPlace past.topology place → Follows (Lose place)
  follows_lose place at = loses (IsLike past.now link) past.topology link past.now line (proper past.topology is link of) (apart past.topology is link of) s place
      (low past.topology is link of) (λ site found. nine _ site found) (link_place past.topology is place at)

  pub follows_down : (node : NodeId) → Follows (Carry (Down node))
  follows_down node = goes_down (IsLike past.now link) past.topology link past.now line (proper past.topology is link of) (apart past.topology is link of) s node
      (low past.topology is link of) (nine node)
      (λ site cell cells found front. leads_out site (plain node site found).links (world.shapes node site found).branches cell)

  pub follows_over : (node : NodeId) (port : PortNo) → IsPlace past.topology (Out node port) → Follows (Carry (Out node port))
  follows_over node port at = goes_over (IsLike past.now link) past.topology link past.now line (proper past.topology is link of) (apart past.topology is link of) s (record { node = node; port = port })
      (low past.topology is link of) (link_place past.topology is (Out node port) at) (across past.topology is link of (record { node = node; port = port })) nine from_links
      (λ input above output. record { input = input; above = above; pair = by_branch output })

  pub follows_inject : (node : NodeId) (octets : List ℕ) → Follows (Inject node octets)
  follows_inject node octets = packet_enters (IsLike past.now link) past.topology link past.now line (proper past.topology is link of) (apart past.topology is link of) s node octets
      (world.packets.unsent (past.now.sent + 1) 1 (omega arith)) (λ site found. label_grants site (world.ready node site found).controller.sound)

  pub follows_restart : (node : NodeId) → Follows (Restart node)
  follows_restart node = restarts (IsLike past.now link) past.topology link past.now line (proper past.topology is link of) (apart past.topology is link of) s node

  pub follows_route : (node : NodeId) (change : RouteChange) → Follows (Route node change)
  follows_route node change = route_comes (IsLike past.now link) past.topology link past.now line (proper past.topology is link of) (apart past.topology is link of) s node change

  pub follows_switch : (node : NodeId) → Follows (TickSwitch node)
  follows_switch node = ticks_switch (IsLike past.now link) past.topology link past.now line (proper past.topology is link of) (apart past.topology is link of) s node (nine node)

  pub follows_switch_restart : (node : NodeId) → Follows (RestartSwitch node)
  follows_switch_restart node = restarts_switch (IsLike past.now link) past.topology link past.now line (proper past.topology is link of) (apart past.topology is link of) s node (nine node)
