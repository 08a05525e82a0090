-- What a network holds: node by node what its controller holds, its ports, its switch and its queues; and how much of each

use Rattle.std.specs.Prelude.{ℕ, zero, suc, min, List, [], ◌∷◌, ◌++◌, length, codes, decimal}
use Rattle.std.specs.List.{flat_map, sum_by}
use Rattle.std.specs.FinMap.{entries}
use Rattle.net_types.specs.declared.node.NodeId.{NodeId}
use Rattle.net_types.specs.declared.node.Place.{Place}
use Rattle.lab_text.specs.Text.{line_of}
use Rattle.port_model.specs.Port.{labels_of}
use Rattle.port_model.specs.Redirection.{greatest_tally}
use Rattle.world_model.specs.Controller.{Controller, Linked, free_slots}
use Rattle.world_model.specs.Places.{cells_in, places_of, queue_in}
use Rattle.world_model.specs.Topology.{Topology}
use Rattle.world_model.specs.World.{Site, World}
use Rattle.script_model.specs.Texts.{place_text}
use Rattle.show_text.specs.declared.totals.Totals.{Totals}
use Rattle.show_text.specs.Node.{node_line, request_lines, route_lines, waiting_lines}
use Rattle.show_text.specs.Port.{port_lines}
use Rattle.show_text.specs.Switch.{switch_lines}

-- *A queue*, where it holds cells
abbrev pub queue_line : Topology → Place → (cells : ℕ) → List ℕ
queue_line topology place zero = []
queue_line topology place (suc n) = line_of (codes "queue" ∷ place_text topology place ∷ decimal (suc n) ∷ [])

abbrev pub queue_lines : Topology → Site → List ℕ
queue_lines topology site = flat_map (λ place. queue_line topology place (length (queue_in site place))) (places_of site)

-- *A controller*, its ports ascending
abbrev pub linked_lines : Topology → NodeId → Linked → List ℕ
linked_lines topology node linked = port_lines topology node linked.setup.port linked.port

abbrev pub controller_lines : Topology → Controller → List ℕ
controller_lines topology c =
    node_line topology c.node c.adjacency.state (free_slots c) c.cells
    ++ (route_lines topology c.node c.table
    ++ (waiting_lines topology c.node c.is_begun c.waiting
    ++ (request_lines topology c.node c.desk ++ flat_map (linked_lines topology c.node) c.ports)))

-- *A node*: its controller, its switch, its queues
abbrev pub site_lines : Topology → Site → List ℕ
site_lines topology site =
    controller_lines topology site.controller
    ++ (switch_lines topology site.controller.node site.switch ++ queue_lines topology site)

-- *A network*, in the order of its nodes
abbrev pub world_lines : Topology → World → List ℕ
world_lines topology w = flat_map (site_lines topology) w.sites

-- *How much of each*: the labels, grants and branches that have lines, and the cells of all queues; each stays at the
-- greatest number of its type
abbrev pub labels_in : Site → ℕ
labels_in site = sum_by (λ linked. length (labels_of linked.port)) site.controller.ports

abbrev pub grants_in : Site → ℕ
grants_in site = sum_by (λ linked. length linked.port.grants) site.controller.ports

abbrev pub branches_in : Site → ℕ
branches_in site = length (entries site.switch.crossbar.branches)

abbrev pub totals_of : World → Totals
totals_of w = record {
  nodes = length w.sites;
  labels = min greatest_tally (sum_by labels_in w.sites);
  grants = min greatest_tally (sum_by grants_in w.sites);
  branches = min greatest_tally (sum_by branches_in w.sites);
  cells = min greatest_tally (cells_in w);
}

abbrev pub end_line : Totals → List ℕ
end_line t =
    line_of (codes "end" ∷ codes "nodes" ∷ decimal t.nodes ∷ codes "labels" ∷ decimal t.labels ∷ codes "grants" ∷ decimal t.grants
    ∷ codes "branches" ∷ decimal t.branches ∷ codes "cells" ∷ decimal t.cells ∷ [])
