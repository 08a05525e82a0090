-- What a controller holds beside its ports: its adjacency, its slots, its routes, the changes that wait, and the
-- requests that stand

use Rattle.std.specs.Prelude.{ℕ, Bool, true, false, List, [], ◌∷◌, ◌++◌, codes}
use Rattle.std.specs.List.{flat_map}
use Rattle.std.specs.Option.{option_map_or}
use Rattle.net_types.specs.declared.node.NodeId.{NodeId}
use Rattle.ipv4_forward.specs.declared.table.Next.{Next}
use Rattle.ipv4_forward.specs.declared.table.Next.TheVariants.{Local, Via}
use Rattle.ipv4_forward.specs.declared.table.Route.{Route}
use Rattle.ipv4_forward.specs.declared.change.RouteChange.{RouteChange}
use Rattle.adjacency_table.specs.declared.State.{State}
use Rattle.gsmp_wire.specs.declared.message.Message.{Message}
use Rattle.message_text.specs.Gsmp.{gsmp_text}
use Rattle.port_model.specs.Desk.{Desk, message_at}
use Rattle.world_model.specs.Topology.{Topology, Node, node_at}
use Rattle.script_model.specs.Texts.{address_text, name_of, port_text, prefix_text}
use Rattle.script_model.specs.Writing.{change_words}
use Rattle.show_text.specs.Words.{slots_text, spaced, state_text}

-- *The node*: its name and its address, and the state of its controller's side of the adjacency with its switch
abbrev pub address_of : Topology → NodeId → List ℕ
address_of topology node = option_map_or (λ (found : Node). address_text found.address) (node_at topology node) []

abbrev pub node_line : Topology → NodeId → State → (free cells : ℕ) → List ℕ
node_line topology node state free cells =
    codes "node " ++ (name_of topology node ++ (codes " " ++ (address_of topology node
    ++ (codes " " ++ (state_text state ++ (slots_text free cells ++ codes "\n"))))))

-- *A route*, and all of a table, in its order
abbrev pub next_text : Next → List ℕ
next_text (Via port) = codes "via " ++ port_text port
next_text Local = codes "local"

abbrev pub route_line : Topology → NodeId → Route → List ℕ
route_line topology node route =
    codes "route " ++ (name_of topology node ++ (codes " " ++ (prefix_text route.prefix
    ++ (codes " " ++ (next_text route.next ++ codes "\n")))))

abbrev pub route_lines : Topology → NodeId → List Route → List ℕ
route_lines topology node table = flat_map (route_line topology node) table

-- *A change of routes that waits*, as the line of a script that it came of; only the first can be begun
abbrev pub begun_text : (is_begun : Bool) → List ℕ
begun_text true = codes " begun"
begun_text false = []

abbrev pub waiting_line : Topology → NodeId → (is_begun : Bool) → RouteChange → List ℕ
waiting_line topology node is_begun change =
    codes "waiting " ++ (spaced (change_words (name_of topology node) change.prefix change.next)
    ++ (begun_text is_begun ++ codes "\n"))

abbrev pub waiting_lines : Topology → NodeId → (is_begun : Bool) → List RouteChange → List ℕ
waiting_lines topology node is_begun [] = []
waiting_lines topology node is_begun (change ∷ changes) =
    waiting_line topology node is_begun change ++ waiting_lines topology node false changes

-- *A request that stands*, as its message would be sent again; in the order of asking, which is that of their numbers
abbrev pub request_line : Topology → NodeId → Message → List ℕ
request_line topology node message =
    codes "request " ++ (name_of topology node ++ (codes " " ++ (gsmp_text message ++ codes "\n")))

abbrev pub request_lines : Topology → NodeId → Desk → List ℕ
request_lines topology node desk = flat_map (λ s. request_line topology node (message_at desk s)) desk.standing
