-- A network as plain data: the world that it is

use Rattle.std.specs.Prelude.{◌≤◌, List, [], length, map, Option}
use Rattle.net_types.specs.declared.node.NodeId.{NodeId}
use Rattle.link_model.specs.Notes.{Journal}
use Rattle.world_model.specs.Controller.{Controller}
use Rattle.world_model.specs.network_model.declared.link.LinkEnd.{LinkEnd}
use Rattle.world_model.specs.World.{World, Site}
use Rattle.world.specs.declared.site.Site.{Site as Node}
use Rattle.world.specs.declared.world.World.{World as Network}

abbrev pub site_of : {C : Type 0} → (C → Controller) → Node C → Site
site_of seen node = record { controller = seen node.controller; switch = node.switch }

abbrev pub sites_of : {C : Type 0} → (C → Controller) → List (Node C) → List Site
sites_of seen nodes = map (site_of seen) nodes

-- the other ends of its links
abbrev pub peers_in : {C : Type 0} → Node C → List (Option LinkEnd)
peers_in node = node.peers

-- with the notes of the run
abbrev pub world_of : {C : Type 0} → (C → Controller) → Network C → Journal → World
world_of seen n notes = record {
  sites = sites_of seen n.sites.items;
  notes = notes;
  numbers = n.numbers;
  sent = n.sent;
  events = n.events;
  tally = n.tally;
}

abbrev pub no_notes : Journal
no_notes = record { records = []; entries = []; frames = [] }

-- a node of the network, by its number
abbrev pub IsNodeIn : {C : Type 0} → Network C → NodeId → Type 0
IsNodeIn n node = (1 ≤ node.0) × (node.0 ≤ length n.sites.items)
