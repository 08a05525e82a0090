-- the nodes and the linked ports of a topology that lines make

use Rattle.std.proofs.Common.{◌≡◌, ℕ, zero, suc, ◌==◌, Bool, true, false, List, [], ◌∷◌, slice_get, is_some, Option, None, Some, refl, arith, add-one, if◌then◌else◌}
use Rattle.std.specs.List.{All}
use Rattle.std.specs.Option.{option_map_or, option_or}
use Rattle.std.proofs.lemmas.Bool.Decides.{nat_tests}
use Rattle.net_types.specs.declared.node.NodeId.{NodeId}
use Rattle.net_types.specs.declared.node.PortNo.{PortNo}
use Rattle.topology.specs.world_model.network_model.declared.link.LinkEnd.{LinkEnd}
use Rattle.topology.specs.world_model.Topology.{Topology, Node, Link, node_in, same_link_end, peer_among}
use Rattle.topology.specs.world_model.Lines.{node_named, is_linked}
use Rattle.topology.specs.world_model.Conditions.{IsPort, IsLink, IsTopology}
use Rattle.script_model.specs.Records.{has_node}
use Rattle.script_model.specs.Texts.{name_of}
use Rattle.script_model.proofs.ReadForms.{both}

-- a node is found by its name

abbrev found_name : Option Node → List ℕ
found_name node = option_map_or (λ (found : Node). found.name) node []

found_in : (t : Topology) → IsTopology t → (n : ℕ) → is_some (node_in t.nodes n) ≡ true
    → node_named t (found_name (node_in t.nodes n)) ≡ Some (record { 0 = n })
found_in t is zero e = absurd (cc)
found_in t is (suc place) e = by (slice_get t.nodes place) refl e
  where
    by : (node : Option Node) → slice_get t.nodes place ≡ node → is_some node ≡ true
        → node_named t (found_name node) ≡ Some (record { 0 = suc place })
    by None told some = absurd (cc)
    by (Some node) told some = rw add-one at (is.nodes place node told).named

pub node_found : (t : Topology) (node : NodeId) → IsTopology t → has_node t node ≡ true
    → node_named t (name_of t node) ≡ Some node
node_found t node is has = found_in t is node.0 has

-- the ports of links
abbrev EndsArePorts : List Link → Type 0
EndsArePorts [] = Unit {0}
EndsArePorts (link ∷ links) = (IsPort link.first.port × IsPort link.second.port) × EndsArePorts links

ends_are : (t : Topology) (links : List Link) → All (IsLink t) links → EndsArePorts links
ends_are t [] all = tt
ends_are t (link ∷ links) all =
    let first : IsLink t link = all 0 link (omega arith) in
    ((first.first.1, first.second.1), ends_are t links (λ k d low. all (suc k) d (omega (arith, low))))

same_port : (a b : LinkEnd) → same_link_end a b ≡ true → IsPort a.port → IsPort b.port
same_port a b e is =
    let ports : a.port.0 ≡ b.port.0 = grind (arith, nat_tests, (both (a.node.0 == b.node.0) (a.port.0 == b.port.0) e).1) in
    (omega (arith, is.0), omega (arith, is.1))

linked_among : (end : LinkEnd) (links : List Link) → EndsArePorts links → is_some (peer_among end links) ≡ true
    → IsPort end.port
linked_among end [] are e = absurd (cc)
linked_among end (link ∷ links) are e =
    by (same_link_end link.first end) refl (same_link_end link.second end) refl e (linked_among end links are.1)
  where
    by : (first : Bool) → same_link_end link.first end ≡ first → (second : Bool) → same_link_end link.second end ≡ second
        → is_some (option_or (if first then Some link.second else (if second then Some link.first else None)) (peer_among end links)) ≡ true
        → (is_some (peer_among end links) ≡ true → IsPort end.port) → IsPort end.port
    by true one second other e rest = same_port link.first end one are.0.0
    by false one true other e rest = same_port link.second end other are.0.1
    by false one false other e rest = rest e

pub linked_port : (t : Topology) (node : NodeId) (port : PortNo) → IsTopology t → is_linked t node port ≡ true → IsPort port
linked_port t node port is linked =
    linked_among (record { node = node; port = port }) t.links (ends_are t t.links is.links) linked
