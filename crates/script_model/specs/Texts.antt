-- The texts of values in lines and reports: the forms of words the other way round

use Rattle.std.specs.Prelude.{ℕ, ◌==◌, List, [], ◌∷◌, ◌++◌, codes, decimal, if◌then◌else◌}
use Rattle.std.specs.Int.{w32, to_be_bytes}
use Rattle.std.specs.Option.{option_map_or}
use Rattle.net_types.specs.declared.prefix.Addr.{Addr}
use Rattle.net_types.specs.declared.channel.Channel.{Channel}
use Rattle.net_types.specs.declared.node.NodeId.{NodeId}
use Rattle.net_types.specs.declared.node.PortNo.{PortNo}
use Rattle.net_types.specs.declared.node.Place.{Place}
use Rattle.net_types.specs.declared.node.Place.TheVariants.{Down, Up, Out}
use Rattle.net_types.specs.declared.number.Mark.{Mark}
use Rattle.net_types.specs.Prefix.{Network}
use Rattle.net_types.specs.Label.{label_channel_of}
use Rattle.world_model.specs.Topology.{Topology, Node, node_at}

-- numbers with dots between them
abbrev pub dotted_text : List ℕ → List ℕ
dotted_text [] = []
dotted_text (number ∷ []) = decimal number
dotted_text (number ∷ next ∷ numbers) = decimal number ++ (codes "." ++ dotted_text (next ∷ numbers))

abbrev pub address_text : Addr → List ℕ
address_text addr = dotted_text (to_be_bytes w32 addr.0)

abbrev pub prefix_text : Network → List ℕ
prefix_text prefix = address_text prefix.addr ++ (codes "/" ++ decimal prefix.len)

abbrev pub channel_text : Channel → List ℕ
channel_text channel = decimal channel.vpi ++ (codes "/" ++ decimal channel.vci)

-- a label by its number: its VCI, or in version 2 its VPI/VCI
abbrev pub label_text : Topology → ℕ → List ℕ
label_text topology number =
    if topology.version == 2 then channel_text (label_channel_of number) else decimal number

abbrev pub name_of : Topology → NodeId → List ℕ
name_of topology node = option_map_or (λ (found : Node). found.name) (node_at topology node) []

abbrev pub port_text : PortNo → List ℕ
port_text port = decimal port.0

abbrev pub end_text : (name : List ℕ) → PortNo → List ℕ
end_text name port = name ++ (codes ":" ++ port_text port)

abbrev pub place_text : Topology → Place → List ℕ
place_text topology (Down node) = name_of topology node ++ codes ":c"
place_text topology (Up node) = name_of topology node ++ codes ":0"
place_text topology (Out node port) = end_text (name_of topology node) port

abbrev pub mark_text : Mark → List ℕ
mark_text mark = decimal mark.packet ++ (codes "." ++ decimal mark.frame)
