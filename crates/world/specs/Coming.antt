-- What the parts of an event need and leave. No claim needs this file.

use Rattle.std.specs.Prelude.{◌≡◌, ℕ, ◌+◌, ◌-◌, ◌^◌, ◌≤◌, true, List, drop, length, map, slice_get, slice_index_or, Option, None, Some}
use Rattle.std.specs.List.{sum_by}
use Rattle.net_types.specs.declared.node.NodeId.{NodeId}
use Rattle.net_types.specs.declared.node.PortNo.{PortNo}
use Rattle.net_types.specs.declared.node.Place.{Place}
use Rattle.net_types.specs.declared.node.Place.TheVariants.{Down, Up, Out}
use Rattle.net_types.specs.Number.{AreDrawn}
use Rattle.atm_cells.specs.declared.cell.Cell.{Cell}
use Rattle.link_model.specs.Notes.{Journal}
use Rattle.world_model.specs.Switch.{control_port, has_port}
use Rattle.world_model.specs.Controller.{Controller}
use Rattle.world_model.specs.Conditions.{IsPlace, IsTopology}
use Rattle.world_model.specs.Topology.{Topology}
use Rattle.law_world_pace.specs.Running.{AreNumbered, HavePeers}
use Rattle.world_model.specs.Places.{queue_at, with_queue}
use Rattle.link_model.specs.declared.record.Refusal.{Refusal}
use Rattle.world_model.specs.Packets.{injected}
use Rattle.world_model.specs.network_model.declared.link.LinkEnd.{LinkEnd}
use Rattle.world_model.specs.World.{World, at_controller, redirects_at, switched_count}
use Rattle.world.specs.declared.site.Site.{Site as Node}
use Rattle.world.specs.declared.world.World.{World as Network}
use Rattle.world.specs.Network.{no_notes, peers_in, sites_of, world_of}
use Rattle.world.specs.Waiting.{AreMarked}

-- the nodes are few and numbered in order, those at which cells wait are marked, and the sums over them are kept
pub record IsSteady {C : Type 0} (seen : C → Controller) (n : Network C) : Type 0 where
  pub few : length n.sites.items ≤ 64
  pub marked : AreMarked seen n
  pub nodes : AreNumbered 1 (sites_of seen n.sites.items)
  pub redirects : n.redirects ≡ sum_by redirects_at (sites_of seen n.sites.items)
  pub switched : n.switched ≡ sum_by switched_count (sites_of seen n.sites.items)
  pub few_redirects : n.redirects ≤ 2 ^ 126
  pub few_switched : n.switched ≤ 2 ^ 126

-- an actor of a node acted, and the network is this world now
pub record HasCome {C : Type 0} (seen : C → Controller) (old new : Network C) (notes : Journal) (w : World) : Type 0 where
  pub world : world_of seen new notes ≡ w
  pub drawn : AreDrawn old.numbers new.numbers
  pub peers : map peers_in new.sites.items ≡ map peers_in old.sites.items
  pub round : new.round.items ≡ old.round.items
  pub starts : new.starts ≡ old.starts
  pub marked : AreMarked seen new
  pub redirects : new.redirects ≡ sum_by redirects_at (sites_of seen new.sites.items)
  pub switched : new.switched ≡ sum_by switched_count (sites_of seen new.sites.items)
  pub few_redirects : new.redirects ≤ old.redirects + 2 ^ 64
  pub few_switched : new.switched ≤ old.switched + 2 ^ 64

-- the head of a queue is taken
pub record HasTaken {C : Type 0} (seen : C → Controller) (old new : Network C) (place : Place) (head : Option Cell) : Type 0 where
  pub first : head ≡ slice_get (queue_at (world_of seen old no_notes) place) 0
  pub world : (notes : Journal) → world_of seen new notes
      ≡ with_queue (world_of seen old notes) place (drop 1 (queue_at (world_of seen old notes) place))
  pub peers : map peers_in new.sites.items ≡ map peers_in old.sites.items
  pub size : length new.sites.items ≡ length old.sites.items
  pub numbers : new.numbers ≡ old.numbers
  pub round : new.round.items ≡ old.round.items
  pub starts : new.starts ≡ old.starts
  pub redirects : new.redirects ≡ old.redirects
  pub switched : new.switched ≡ old.switched
  pub steady : IsSteady seen new

-- a port of a node's switch
abbrev pub HasPort : {C : Type 0} → Network C → NodeId → PortNo → Type 0
HasPort n node port = (d : Node _) → has_port (slice_index_or n.sites.items (node.0 - 1) d).switch.ports port ≡ true

-- a packet enters, or is refused: then nothing changes
abbrev pub entered_by : World → NodeId → (number : ℕ) → (octets : List ℕ) → Option Refusal → World
entered_by w node number octets None = at_controller w node (λ a. injected a number octets)
entered_by w node number octets (Some name) = w

-- the other end of a port's link, as the network keeps it
abbrev pub IsPeerIn : {C : Type 0} → Network C → NodeId → PortNo → Option LinkEnd → Type 0
IsPeerIn n node port far = (d : Node _) → slice_index_or (slice_index_or n.sites.items (node.0 - 1) d).peers port.0 None ≡ far

-- a queue of a switch is that of a port which it has
abbrev pub HasQueue : {C : Type 0} → Network C → Place → Type 0
HasQueue n (Down node) = Unit {0}
HasQueue n (Up node) = HasPort n node control_port
HasQueue n (Out node port) = HasPort n node port

-- a place of the topology, whose other ends the network has
pub record HasWay {C : Type 0} (topology : Topology) (n : Network C) (place : Place) : Type 0 where
  pub topology_is : IsTopology topology
  pub nodes : length n.sites.items ≡ length topology.nodes
  pub peers : HavePeers topology 1 (map peers_in n.sites.items)
  pub place_is : IsPlace topology place
