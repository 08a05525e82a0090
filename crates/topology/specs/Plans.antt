-- a route's line, by where it leads

use Rattle.std.specs.Prelude.{ℕ, List, Option}
use Rattle.net_types.specs.declared.node.NodeId.{NodeId}
use Rattle.net_types.specs.Prefix.{Network}
use Rattle.ipv4_forward.specs.declared.table.Next.{Next}
use Rattle.ipv4_forward.specs.declared.table.Next.TheVariants.{Local, Via}
use Rattle.world_model.specs.network_model.declared.line.TopologyLine.{TopologyLine}
use Rattle.world_model.specs.network_model.declared.line.TopologyLine.TheVariants as lines
use Rattle.world_model.specs.network_model.declared.refusal.TopologyRefusal.{TopologyRefusal}
use Rattle.world_model.specs.Lines.{local_refusal, via_refusal}
use Rattle.world_model.specs.Topology.{Topology}

abbrev pub route_line : (name : List ℕ) → Network → Next → TopologyLine
route_line name prefix Local = lines.RouteLocal name prefix
route_line name prefix (Via port) = lines.RouteVia name prefix port

abbrev pub next_refusal : Topology → Network → Next → NodeId → Option TopologyRefusal
next_refusal topology prefix Local node = local_refusal topology prefix node
next_refusal topology prefix (Via port) node = via_refusal topology prefix port node
