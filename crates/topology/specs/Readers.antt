-- how the readers tell ends of links and numbers of the policy

use Rattle.std.specs.Prelude.{ℕ, Option, None, Some}
use Rattle.net_types.specs.declared.node.NodeId.{NodeId}
use Rattle.net_types.specs.declared.node.PortNo.{PortNo}
use Rattle.world_model.specs.network_model.declared.link.LinkEnd.{LinkEnd}
use Rattle.world_model.specs.Topology.{Link, PolicyLine, Xy, Never}

abbrev pub end_pair : LinkEnd → NodeId × PortNo
end_pair end = (end.node, end.port)

abbrev pub link_pair : Link → (NodeId × PortNo) × (NodeId × PortNo)
link_pair link = (end_pair link.first, end_pair link.second)

abbrev pub policy_pair : PolicyLine → Option (ℕ × ℕ)
policy_pair (Xy x y) = Some (x, y)
policy_pair Never = None
