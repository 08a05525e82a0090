-- what the look-up by port keeps in step with the links, and one node of several; no claim rests on these words

use Rattle.std.specs.Prelude.{◌≡◌, ◌-◌, List, slice_get}
use Rattle.std.specs.Map.{lookup}
use Rattle.net_types.specs.declared.node.NodeId.{NodeId}
use Rattle.world_model.specs.network_model.declared.link.LinkEnd.{LinkEnd}
use Rattle.world_model.specs.Lines.{changed_at}
use Rattle.world_model.specs.Topology.{Node, Link, peer_among, same_link_end}

-- each end of a link leads to the other, and nothing else does
abbrev pub LeadAcross : (peers : List (LinkEnd × LinkEnd)) → List Link → Type 0
LeadAcross peers links = (end : LinkEnd) → lookup (same_link_end end) peers ≡ peer_among end links

-- one node of several is changed
abbrev pub changed_in : (Node → Node) → List Node → NodeId → List Node
changed_in change nodes node = changed_at change nodes (node.0 - 1) (slice_get nodes (node.0 - 1))
