-- A network while its nodes are opened. No claim needs this file.

use Rattle.std.specs.Prelude.{◌≡◌, ◌+◌, ◌*◌, ◌≤◌, ◌<◌, List, [], ◌∷◌, ◌++◌, length, map, slice_index_or, slice_set, Some}
use Rattle.net_types.specs.declared.node.NodeId.{NodeId}
use Rattle.net_types.specs.declared.node.Place.{Place}
use Rattle.net_types.specs.declared.node.Place.TheVariants.{Down, Up, Out}
use Rattle.port_model.specs.Setup.{Policy}
use Rattle.world_model.specs.controller_model.declared.range.PortRange.{PortRange}
use Rattle.world_model.specs.Controller.{Controller}
use Rattle.world_model.specs.Conditions.{IsTopology}
use Rattle.world_model.specs.Topology.{Topology, Node, node_at, ranges_of}
use Rattle.world_model.specs.World.{no_tally, numbers_after, opened_site}
use Rattle.world.specs.declared.world.World.{World as Network}
use Rattle.world.specs.Network.{peers_in, sites_of}
use Rattle.world.specs.NodeSet.{IsInserted}
use Rattle.law_world_pace.specs.Running.{HavePeers, numbered}

-- no node, and nothing counted
pub record IsNew {C : Type 0} (n : Network C) : Type 0 where
  pub sites : n.sites.items ≡ []
  pub round : n.round.items ≡ []
  pub starts : length n.starts ≡ 65
  pub first : slice_index_or n.starts 0 0 ≡ 0
  pub instances : n.numbers.instances ≡ 0
  pub controls : n.numbers.controls ≡ 0
  pub events : n.events ≡ 0
  pub sent : n.sent ≡ 0
  pub tally : n.tally ≡ no_tally
  pub redirects : n.redirects ≡ 0
  pub switched : n.switched ≡ 0

-- nodes draw few instances, and no mark
pub record IsOpening {C : Type 0} (topology : Topology) (n : Network C) : Type 0 where
  pub topology_is : IsTopology topology
  pub instances : n.numbers.instances ≤ 10 * length n.sites.items
  pub controls : n.numbers.controls ≡ 0

-- the queues of a node whose ports have these ranges
abbrev pub places_of : NodeId → List PortRange → List Place
places_of node ranges = Down node ∷ Up node ∷ map (λ (range : PortRange). Out node range.port) ranges

-- one node more
pub record IsNext {C : Type 0} (seen : C → Controller) (policy : Policy) (topology : Topology) (old new : Network C) (node : NodeId) (d : Node) : Type 0 where
  pub sites : sites_of seen new.sites.items ≡ sites_of seen old.sites.items ++ opened_site policy topology node d old.numbers ∷ []
  pub numbers : new.numbers ≡ numbers_after topology node d old.numbers
  pub round : new.round.items ≡ old.round.items ++ places_of node (ranges_of topology node d)
  pub starts : new.starts ≡ slice_set old.starts (length old.sites.items + 1) (length new.round.items)
  pub waiting : IsInserted old.waiting new.waiting (length old.sites.items)

pub record HasOpened {C : Type 0} (seen : C → Controller) (policy : Policy) (topology : Topology) (old new : Network C) : Type 0 where
  pub node : Node
  pub few : length old.sites.items < 64
  pub is : node_at topology (numbered (length old.sites.items + 1)) ≡ Some node
  pub next : IsNext seen policy topology old new (numbered (length old.sites.items + 1)) node
  pub peers : HavePeers topology 1 (map peers_in old.sites.items) → HavePeers topology 1 (map peers_in new.sites.items)
  pub events : new.events ≡ old.events
  pub sent : new.sent ≡ old.sent
  pub tally : new.tally ≡ old.tally
  pub redirects : new.redirects ≡ old.redirects
  pub switched : new.switched ≡ old.switched
  pub opening : IsOpening topology new
