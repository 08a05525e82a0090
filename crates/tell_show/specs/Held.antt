-- Parts of what is shown, as the code takes them. No claim needs this file

use Rattle.std.specs.Prelude.{ℕ, List, [], length, Option}
use Rattle.std.specs.Option.{option_map_or}
use Rattle.net_types.specs.declared.node.NodeId.{NodeId}
use Rattle.net_types.specs.declared.node.PortNo.{PortNo}
use Rattle.net_types.specs.declared.node.Place.TheVariants.{Out}
use Rattle.port_model.specs.Labels.{Label}
use Rattle.port_model.specs.Port.{Session}
use Rattle.world_model.specs.Places.{queue_in}
use Rattle.world_model.specs.Topology.{Topology}
use Rattle.world_model.specs.World.{Site}
use Rattle.show_text.specs.Shown.{queue_line}

abbrev pub labels_by : Option Session → List Label
labels_by session = option_map_or (λ s. s.labels) session []

-- the queue at a port of a link
abbrev pub port_queue_line : Topology → Site → NodeId → PortNo → List ℕ
port_queue_line topology site node port = queue_line topology (Out node port) (length (queue_in site (Out node port)))
