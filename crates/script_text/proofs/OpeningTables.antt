-- the routes that the lines of a topology give to its nodes, one node after another

use Rattle.std.proofs.Common.{◌≡◌, ℕ, zero, suc, ◌+◌, ◌-◌, ◌<◌, ◌≤◌, List, [], ◌∷◌, ◌++◌, length, map, take, get_or, Option, None, Some, refl, sym, ap, ◌∙◌, arith}
use Rattle.std.specs.Prelude.{slice_get}
use Rattle.std.specs.Option.{option_map, option_map_or}
use Rattle.std.proofs.lemmas.List.{take_more, length-map}
use Rattle.std.proofs.lemmas.Option.{slice_get-map, slice_get-get_or}
use Rattle.net_types.specs.declared.node.NodeId.{NodeId}
use Rattle.ipv4_forward.specs.declared.table.Route.{Route}
use Rattle.world_model.specs.Topology.{Topology, Node, node_in}
use Rattle.world_model.specs.Lines.{routes_of}
use Rattle.script_model.specs.State.{table_among, opening_tables}

of_one : (found : Option Node) → option_map_or (λ (table : List Route). table) (option_map (λ (node : Node). node.routes) found) [] ≡ option_map_or (λ (node : Node). node.routes) found []
of_one None = refl
of_one (Some node) = refl

of_number : (nodes : List Node) (n : ℕ) → 1 ≤ n
    → option_map_or (λ (table : List Route). table) (slice_get (map (λ (node : Node). node.routes) nodes) (n - 1)) []
    ≡ option_map_or (λ (node : Node). node.routes) (node_in nodes n) []
of_number nodes zero h = absurd (omega arith)
of_number nodes (suc place) h =
    let e : suc place - 1 ≡ place = omega arith in
    rw (e, slice_get-map (λ (node : Node). node.routes) nodes place) (of_one (slice_get nodes place))

-- until a route line is taken, a node has the routes of the topology
pub opening_table : (topology : Topology) (node : NodeId) → 1 ≤ node.0 → table_among (opening_tables topology) node ≡ routes_of topology node
opening_table topology node h = of_number topology.nodes node.0 h

-- one node more
pub one_more : (topology : Topology) (place : ℕ) (tables pushed : List (List Route)) (table : List Route) (node : NodeId) → node.0 ≡ place + 1
    → place < length topology.nodes → tables ≡ take place (opening_tables topology) → table ≡ routes_of topology node → pushed ≡ tables ++ table ∷ []
    → pushed ≡ take (place + 1) (opening_tables topology)
one_more topology place tables pushed table node number within same is pushes =
    let some : 1 ≤ node.0 = omega arith in
    let at : node.0 - 1 ≡ place = omega arith in
    let there : place < length (opening_tables topology) = omega (arith, length-map topology.nodes (λ (n : Node). n.routes)) in
    let found : table_among (opening_tables topology) node ≡ get_or (opening_tables topology) place [] =
    rw (at, slice_get-get_or (opening_tables topology) place [] there) refl in
    let last : get_or (opening_tables topology) place [] ≡ table = sym found ∙ opening_table topology node some ∙ sym is in
    rw (take_more (opening_tables topology) place [] there, last) (pushes ∙ ap (λ (ts : List (List Route)). ts ++ table ∷ []) same)
