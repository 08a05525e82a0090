-- what a network in a run of a topology has for the parts of an event

use Rattle.std.proofs.Common.{◌≡◌, ℕ, zero, suc, ◌+◌, ◌-◌, ◌^◌, ◌≤◌, ◌<◌, ◌==◌, ◌||◌, Bool, true, false, List, [], ◌∷◌, length, map, slice_get, slice_index_or, Option, None, Some, refl, sym, ◌∙◌, ap, subst, arith}
use Rattle.std.specs.List.{list_any}
use Rattle.std.specs.Option.{option_map}
use Rattle.std.proofs.lemmas.Option.{slice_get-get_or}
use Rattle.net_types.specs.declared.node.NodeId.{NodeId}
use Rattle.net_types.specs.declared.node.PortNo.{PortNo}
use Rattle.net_types.specs.declared.node.Place.{Place}
use Rattle.net_types.specs.declared.node.Place.TheVariants.{Down, Up, Out}
use Rattle.net_types.specs.Number.{HasNumbersLeft}
use Rattle.atm_cells.specs.declared.cell.Cell.{Cell}
use Rattle.ipv4_forward.specs.declared.change.RouteChange.{RouteChange}
use Rattle.ipv4_forward.specs.declared.table.Next.{Next}
use Rattle.ipv4_forward.specs.declared.table.Next.TheVariants.{Local, Via}
use Rattle.link_model.specs.Notes.{Journal}
use Rattle.world_model.specs.Switch.{control_port}
use Rattle.world_model.specs.Controller.{Controller, ports_of}
use Rattle.world_model.specs.network_model.declared.link.LinkEnd.{LinkEnd}
use Rattle.world_model.specs.Conditions.{IsAccepted, IsChange, IsLinkedChange, IsNode, IsPlace}
use Rattle.world_model.specs.Places.{place_node, queue_at, queue_number}
use Rattle.world_model.specs.Topology as topologies
use Rattle.world_model.specs.Topology.{Topology, peer_of}
use Rattle.world_model.specs.World.{Site, site_at}
use Rattle.world.specs.declared.site.Site.{Site as Node}
use Rattle.world.specs.declared.world.World.{World as Network}
use Rattle.world.specs.Coming.{HasQueue, HasWay, IsPeerIn, IsSteady}
use Rattle.world.specs.Inputs.{CanChange}
use Rattle.world.specs.Network.{IsNodeIn, no_notes, peers_in, site_of, sites_of, world_of}
use Rattle.node_controller.specs.Nodes.{NamesLinkedNext}
use Rattle.world.specs.Running.{Runs}
use Rattle.law_world_pace.specs.Running.{ArePeersOf, HavePeers, IsRunningSite, most_frame}
use Rattle.world.proofs.Acting.{a_head, found, map_length}
use Rattle.law_world_pace.proofs.Running.{are_numbered, queue_up, site_runs}
use Rattle.law_world_pace.proofs.Ports.{far_node, is_port_of, linked_port, switch_has}

-- *The other ends that are kept*
peers_at : (t : Topology) (number k key : ℕ) (ps : List (List (Option LinkEnd))) → key ≡ number + k → HavePeers t number ps → k < length ps → ArePeersOf t key (slice_index_or ps k [])
peers_at t number k key [] is h low = absurd (omega (arith, low))
peers_at t number zero key (p ∷ ps) is h low = subst (λ n. ArePeersOf t n p) (omega (arith, is)) h.0
peers_at t number (suc k) key (p ∷ ps) is h low = peers_at t (suc number) k key ps (omega (arith, is)) h.1 (omega (arith, low))

module _ {C : Type 0} where
  peer_kept : (items : List (Node C)) (k : ℕ) (port : ℕ) (far : Option LinkEnd) → k < length items → ((d : Node C) → slice_index_or (slice_index_or items k d).peers port None ≡ far)
      → slice_index_or (slice_index_or (map peers_in items) k []) port None ≡ far
  peer_kept [] k port far low h = absurd (omega (arith, low))
  peer_kept (x ∷ items) zero port far low h = h x
  peer_kept (x ∷ items) (suc k) port far low h = peer_kept items k port far (omega (arith, low)) h

  pub peer_is : (t : Topology) (n : Network C) (node : NodeId) (port : PortNo) (far : Option LinkEnd) → HasWay t n (Out node port) → IsPeerIn n node port far → peer_of t node port ≡ far
  peer_is t n node port far way kept =
      let low = linked_port t node port way.topology_is way.place_is.1 in
      let within : node.0 - 1 < length n.sites.items = omega (arith, way.place_is.0.0, way.place_is.0.1, way.nodes) in
      sym (peers_at t 1 (node.0 - 1) node.0 (map peers_in n.sites.items) (omega (arith, way.place_is.0.0)) way.peers (omega (arith, within, map_length peers_in n.sites.items)) port low.0 low.1)
      ∙ peer_kept n.sites.items (node.0 - 1) port.0 far within kept

  pub far_in : (t : Topology) (n : Network C) (node : NodeId) (port : PortNo) (far : LinkEnd) → HasWay t n (Out node port) → IsPeerIn n node port (Some far) → IsNodeIn n far.node
  far_in t n node port far way kept = (let is = far_node t node port far way.topology_is (peer_is t n node port (Some far) way kept) in (is.0, omega (arith, is.1, way.nodes)))

module _ {C : Type 0} (seen : C → Controller) (t : Topology) (n : Network C) (r : Runs seen t n) where
  nodes : length n.sites.items ≡ length t.nodes
  nodes = sym (map_length (site_of seen) n.sites.items) ∙ r.world.nodes

  pub few_sites : length n.sites.items ≤ 64
  few_sites = omega (arith, nodes, r.world.topology_is.few_nodes)

  pub steady : n.events ≤ 100000000 → IsSteady seen n
  steady few = record {
    few = few_sites;
    marked = r.marked;
    nodes = are_numbered t n.events 1 (sites_of seen n.sites.items) r.world.sites;
    redirects = r.redirects;
    switched = r.switched;
    few_redirects = omega (arith, r.few_redirects, few);
    few_switched = omega (arith, r.few_switched, few);
  }

  pub left : n.events < 100000000 → HasNumbersLeft n.numbers
  left few = record { instances = omega (arith, r.world.instances, few); controls = omega (arith, r.world.controls, few) }

  pub node_in : (node : NodeId) → IsNode t node → IsNodeIn n node
  node_in node is = (is.0, omega (arith, is.1, nodes))

  pub place_in : (place : Place) → IsPlace t place → IsNodeIn n (place_node place)
  place_in (Down node) is = node_in node is
  place_in (Up node) is = node_in node is
  place_in (Out node port) is = node_in node is.0

  pub queue_low : (place : Place) → IsPlace t place → queue_number place ≤ 9
  queue_low (Down node) is = omega arith
  queue_low (Up node) is = omega arith
  queue_low (Out node port) is = omega (arith, (linked_port t node port r.world.topology_is is.1).1)

  pub way : (place : Place) → IsPlace t place → HasWay t n place
  way place is = record { topology_is = r.world.topology_is; nodes = nodes; peers = r.peers; place_is = is }

  pub way_behind : (behind : Network C) (place : Place) → length behind.sites.items ≡ length n.sites.items → map peers_in behind.sites.items ≡ map peers_in n.sites.items → IsPlace t place → HasWay t behind place
  way_behind behind place size peers is = record { topology_is = r.world.topology_is; nodes = size ∙ nodes; peers = subst (HavePeers t 1) (sym peers) r.peers; place_is = is }

  -- the node that the code reads
  found_here : (notes : Journal) (node : NodeId) (d : Node C) → IsNode t node → site_at (world_of seen n notes) node ≡ Some (site_of seen (slice_index_or n.sites.items (node.0 - 1) d))
  found_here notes node d is = found seen n notes node (slice_index_or n.sites.items (node.0 - 1) d) (are_numbered t n.events 1 (sites_of seen n.sites.items) r.world.sites) (node_in node is)
      (slice_get-get_or n.sites.items (node.0 - 1) d (omega (arith, is.0, is.1, nodes)))

  running_here : (node : NodeId) (d : Node C) → IsNode t node → IsRunningSite t n.events node.0 (site_of seen (slice_index_or n.sites.items (node.0 - 1) d))
  running_here node d is = site_runs t n.events 1 node.0 (sites_of seen n.sites.items) (site_of seen (slice_index_or n.sites.items (node.0 - 1) d)) r.world.sites (found_here no_notes node d is)

  pub has_queue : (place : Place) → IsPlace t place → HasQueue n place
  has_queue (Down node) is = tt
  has_queue (Up node) is = λ d. switch_has control_port (slice_index_or n.sites.items (node.0 - 1) d).switch.ports
      (ap (list_any (λ (p : PortNo). p.0 == 0)) (running_here node d is).switch_ports)
  has_queue (Out node port) is = λ d. switch_has port (slice_index_or n.sites.items (node.0 - 1) d).switch.ports
      (ap (list_any (λ (p : PortNo). p.0 == port.0)) (running_here node d is.0).switch_ports ∙ either (0 == port.0) (is_port_of t node port r.world.topology_is is.1))
    where
      either : (b : Bool) → list_any (λ (p : PortNo). p.0 == port.0) (topologies.linked_ports t node) ≡ true → (b || list_any (λ (p : PortNo). p.0 == port.0) (topologies.linked_ports t node)) ≡ true
      either true h = refl
      either false h = h

  names_linked : (node : NodeId) (c : Controller) (next : Option Next) → ports_of c ≡ topologies.linked_ports t node → IsLinkedChange t node next → NamesLinkedNext c next
  names_linked node c None same h = tt
  names_linked node c (Some Local) same h = tt
  names_linked node c (Some (Via port)) same h = ap (list_any (λ (p : PortNo). p.0 == port.0)) same ∙ is_port_of t node port r.world.topology_is h

  pub can_change : (notes : Journal) (node : NodeId) (change : RouteChange) → n.events < 100000000 → IsChange t (world_of seen n notes) node change → (d : Node C)
      → CanChange (seen (slice_index_or n.sites.items (node.0 - 1) d).controller) change
  can_change notes node change few is d = record {
    accepted = subst (IsAccepted change) (ap (option_map (λ (s : Site). s.controller)) (found_here notes node d is.there)) is.accepted;
    port = names_linked node (seen (slice_index_or n.sites.items (node.0 - 1) d).controller) change.next (running_here node d is.there).ports is.linked;
    count = omega (arith, (running_here node d is.there).changes, few);
  }

  -- the head of a queue
  pub head_low : (place : Place) (cell : Cell) → n.events < 100000000 → slice_get (queue_at (world_of seen n no_notes) place) 0 ≡ Some cell → cell.mark.frame < 2 ^ 63
  head_low place cell few first =
      let up = subst (Rattle.law_world_pace.specs.law_actor_pace.Pace.AreUpTo (most_frame n.events)) (a_head seen (queue_at (world_of seen n no_notes) place) cell first) (queue_up t n.events (world_of seen n no_notes) place r.world.sites) in
      omega (arith, up.0, few)
