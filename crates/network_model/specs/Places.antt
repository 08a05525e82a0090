-- The queues of a network: from each controller to its switch, back, and from each port of a link

use Rattle.std.specs.Prelude.{◌≡◌, ℕ, suc, ◌==◌, Bool, true, ◌&&◌, List, [], ◌∷◌, length, map, flat_map, slice_set, Option, None, Some}
use Rattle.std.specs.List.{sum_by, list_any}
use Rattle.std.specs.Option.{option_map_or}
use Rattle.net_types.specs.declared.node.NodeId.{NodeId}
use Rattle.net_types.specs.declared.node.PortNo.{PortNo}
use Rattle.net_types.specs.declared.node.Place.{Place}
use Rattle.net_types.specs.declared.node.Place.TheVariants.{Down, Up, Out}
use Rattle.switch_model.specs.atm_cells.declared.cell.Cell.{Cell}
use Rattle.switch_model.specs.crossbar_model.Channels.{ArePorts}
use Rattle.switch_model.specs.crossbar_model.Crossbar.{Crossbar, queue_of}
use Rattle.switch_model.specs.Switch.{control_port}
use Rattle.controller_model.specs.Controller.{ports_of}
use Rattle.network_model.specs.World.{World, Site, site_at, with_site}

abbrev pub place_node : Place → NodeId
place_node (Down node) = node
place_node (Up node) = node
place_node (Out node port) = node

-- the cells of a queue, the first to arrive first
abbrev pub queue_in : Site → Place → List Cell
queue_in site (Down node) = site.controller.queue
queue_in site (Up node) = queue_of site.switch.crossbar control_port
queue_in site (Out node port) = queue_of site.switch.crossbar port

abbrev pub queue_at : World → Place → List Cell
queue_at w place = option_map_or (λ site. queue_in site place) (site_at w (place_node place)) []

-- two places are one queue: of one node, and both from its controller or both of one port of its switch, of which
-- port 0 leads to the controller
abbrev pub queue_number : Place → ℕ
queue_number (Down node) = 0
queue_number (Up node) = 1
queue_number (Out node port) = suc port.0

abbrev pub same_queue : Place → Place → Bool
same_queue one other = ((place_node one).0 == (place_node other).0) && (queue_number one == queue_number other)

-- a queue holds these cells now
abbrev pub with_port_queue : Crossbar → PortNo → List Cell → Crossbar
with_port_queue x port cells = record x { queues = slice_set x.queues port.0 cells }

abbrev pub with_queue_in : Site → Place → List Cell → Site
with_queue_in site (Down node) cells = record site { controller = record site.controller { queue = cells } }
with_queue_in site (Up node) cells =
    record site { switch = record site.switch { crossbar = with_port_queue site.switch.crossbar control_port cells } }
with_queue_in site (Out node port) cells =
    record site { switch = record site.switch { crossbar = with_port_queue site.switch.crossbar port cells } }

abbrev pub with_queue_of : World → Place → List Cell → Option Site → World
with_queue_of w place cells None = w
with_queue_of w place cells (Some site) = with_site w (with_queue_in site place cells)

abbrev pub with_queue : World → Place → List Cell → World
with_queue w place cells = with_queue_of w place cells (site_at w (place_node place))

-- *A round* is of each queue in this order: node by node, from the controller, to the controller, and from the
-- ports of links, ascending
abbrev pub places_of : Site → List Place
places_of site =
    Down site.controller.node ∷ Up site.controller.node
    ∷ map (λ port. Out site.controller.node port) (ports_of site.controller)

abbrev pub places : World → List Place
places w = flat_map places_of w.sites

-- how many cells wait in queues
abbrev pub cells_in : World → ℕ
cells_in w = sum_by (λ place. length (queue_at w place)) (places w)

-- *The shape of a world*: its nodes are numbered in order, a switch has a queue at each of the ports 0 to 8, and the
-- ports of links ascend
pub record IsShapedSite (number : ℕ) (site : Site) : Type 0 where
  pub node : site.controller.node.0 ≡ number
  pub queues : length site.switch.crossbar.queues ≡ 9
  pub ports : ArePorts (ports_of site.controller)

abbrev pub AreShaped : (number : ℕ) → List Site → Type 0
AreShaped number [] = Unit {0}
AreShaped number (site ∷ sites) = IsShapedSite number site × AreShaped (suc number) sites

abbrev pub IsShaped : World → Type 0
IsShaped w = AreShaped 1 w.sites

-- a place of the world: a node's, and where it is a port's, of a link
abbrev pub IsPlaceOf : Place → Option Site → Type 0
IsPlaceOf place None = ⊥
IsPlaceOf place (Some site) = list_any (same_queue place) (places_of site) ≡ true

abbrev pub IsPlaceIn : World → Place → Type 0
IsPlaceIn w place = IsPlaceOf place (site_at w (place_node place))
