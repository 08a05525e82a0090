-- What is so of a world in a run of a topology: its nodes, ports and links are the topology's; the numbers that it
-- gave out, and those of its frames and changes of routes, are no more than its events can have needed

use Rattle.std.specs.Prelude.{◌≡◌, ℕ, suc, ◌+◌, ◌*◌, ◌≤◌, List, [], ◌∷◌, length, slice_index_or, Option, None}
use Rattle.law_actor_pace.specs.world_model.Words.{NodeId, PortNo, control_port, numbers_of, IsTopology, Topology, World, Site, site_key}
use Rattle.law_actor_pace.specs.world_model.Controller.{ports_of}
use Rattle.law_actor_pace.specs.world_model.network_model.declared.link.LinkEnd.{LinkEnd}
use Rattle.law_actor_pace.specs.world_model.Topology as topologies
use Rattle.law_actor_pace.specs.world_model.Topology.{peer_of}
use Rattle.law_actor_pace.specs.Pace.{AreUpTo, AreAllUpTo, changes_of}

abbrev pub numbered : ℕ → NodeId
numbered number = record { 0 = number }

-- the greatest number of a frame after so many events
abbrev pub most_frame : (events : ℕ) → ℕ
most_frame events = 1000000 * events

-- *A node*
pub record IsRunningSite (topology : Topology) (events number : ℕ) (site : Site) : Type 0 where
  pub node : site.controller.node.0 ≡ number
  pub ports : ports_of site.controller ≡ topologies.linked_ports topology (numbered number)
  pub switch_ports : numbers_of site.switch.ports ≡ control_port ∷ topologies.linked_ports topology (numbered number)
  pub size : length site.switch.crossbar.queues ≡ 9
  pub queue : AreUpTo (most_frame events) site.controller.queue
  pub queues : AreAllUpTo (most_frame events) site.switch.crossbar.queues
  pub changes : changes_of site.controller ≤ events

abbrev pub AreRunning : Topology → (events number : ℕ) → List Site → Type 0
AreRunning topology events number [] = Unit {0}
AreRunning topology events number (site ∷ sites) =
    IsRunningSite topology events number site × AreRunning topology events (suc number) sites

-- *A world*
pub record IsRunning (topology : Topology) (w : World) : Type 0 where
  pub topology_is : IsTopology topology
  pub nodes : length w.sites ≡ length topology.nodes
  pub sites : AreRunning topology w.events 1 w.sites
  pub instances : w.numbers.instances ≤ 20 * w.events + 1000
  pub controls : w.numbers.controls ≤ 1000000 * w.events
  pub sent : w.sent ≤ w.events

-- *The other ends* of a node's links, by the numbers of its ports
abbrev pub ArePeersOf : Topology → (number : ℕ) → List (Option LinkEnd) → Type 0
ArePeersOf topology number peers =
    (port : PortNo) → 1 ≤ port.0 → port.0 ≤ 8 → slice_index_or peers port.0 None ≡ peer_of topology (numbered number) port

abbrev pub HavePeers : Topology → (number : ℕ) → List (List (Option LinkEnd)) → Type 0
HavePeers topology number [] = Unit {0}
HavePeers topology number (peers ∷ others) = ArePeersOf topology number peers × HavePeers topology (suc number) others

-- the nodes are numbered in order
abbrev pub AreNumbered : ℕ → List Site → Type 0
AreNumbered number [] = Unit {0}
AreNumbered number (site ∷ sites) = (site_key site ≡ number) × AreNumbered (suc number) sites
