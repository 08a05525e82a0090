-- The line of each record, both ways

use Rattle.std.specs.Prelude.{◌≡◌, ℕ, ◌/◌, ◌<◌, IsTrue, ◌&&◌, nat_lt, List, [], ◌∷◌, length, codes, decimal, is_some, Bool}
use Rattle.net_types.specs.declared.node.NodeId.{NodeId}
use Rattle.net_types.specs.declared.node.PortNo.{PortNo}
use Rattle.net_types.specs.declared.node.Place.{Place}
use Rattle.net_types.specs.declared.node.Place.TheVariants.{Down, Up, Out}
use Rattle.net_types.specs.Label.{is_label_number, label_channel_of}
use Rattle.world_model.specs.ipv4_packet.Flow.{IsFlow}
use Rattle.world_model.specs.ipv4_packet.Identifier.{identifier}
use Rattle.world_model.specs.link_model.declared.record.Record.{Record}
use Rattle.world_model.specs.link_model.declared.record.Record.TheVariants.{Delivered, Dropped, Refused, Loss, Chance, Bad, Opened, Closed, Bind, Free, Join, Part, Forged, Routes}
use Rattle.rule_model.specs.lab_text.Names.{cause_text, drop_text, layer_text, refusal_text}
use Rattle.rule_model.specs.lab_text.Text.{hex_digits, line_of}
use Rattle.world_model.specs.Topology.{Topology, node_at, vpis_of}
use Rattle.world_model.specs.Lines.{is_linked}
use Rattle.script_model.specs.Texts.{name_of, port_text, label_text, mark_text, place_text}

abbrev pub record_words : Topology → Record → List (List ℕ)
record_words topology (Delivered node packet octets) =
    codes "deliver" ∷ name_of topology node ∷ decimal packet ∷ hex_digits octets ∷ []
record_words topology (Dropped node packet cause) =
    codes "drop" ∷ name_of topology node ∷ decimal packet ∷ drop_text cause ∷ []
record_words topology (Refused node packet name) =
    codes "refuse" ∷ name_of topology node ∷ decimal packet ∷ refusal_text name ∷ []
record_words topology (Loss mark cause) = codes "loss" ∷ mark_text mark ∷ cause_text cause ∷ []
record_words topology (Chance mark) = codes "chance" ∷ mark_text mark ∷ []
record_words topology (Bad node layer name) =
    codes "bad" ∷ name_of topology node ∷ layer_text layer ∷ refusal_text name ∷ []
record_words topology (Opened node port) = codes "open" ∷ name_of topology node ∷ port_text port ∷ []
record_words topology (Closed node port) = codes "close" ∷ name_of topology node ∷ port_text port ∷ []
record_words topology (Bind node port vci flow) =
    codes "bind" ∷ name_of topology node ∷ port_text port ∷ label_text topology vci ∷ hex_digits (identifier flow) ∷ []
record_words topology (Free node port vci) =
    codes "free" ∷ name_of topology node ∷ port_text port ∷ label_text topology vci ∷ []
record_words topology (Join node port vci to_port to_vci) =
    codes "join" ∷ name_of topology node ∷ port_text port ∷ label_text topology vci ∷ port_text to_port
    ∷ label_text topology to_vci ∷ []
record_words topology (Part node port vci) =
    codes "part" ∷ name_of topology node ∷ port_text port ∷ label_text topology vci ∷ []
record_words topology (Forged place) = codes "forged" ∷ place_text topology place ∷ []
record_words topology (Routes node number) = codes "routes" ∷ name_of topology node ∷ decimal number ∷ []

-- with its end
abbrev pub record_line : Topology → Record → List ℕ
record_line topology item = line_of (record_words topology item)

-- *Which records have a line*: their nodes and queues are the topology's, their ports are 1 to 8, and their labels
-- are its version's
abbrev pub has_node : Topology → NodeId → Bool
has_node topology node = is_some (node_at topology node)

abbrev pub has_port : Topology → NodeId → PortNo → Bool
has_port topology node port = has_node topology node && (nat_lt 0 port.0 && nat_lt port.0 9)

abbrev pub is_label : Topology → ℕ → Bool
is_label topology number = is_label_number number && nat_lt (label_channel_of number).vpi (vpis_of topology)

abbrev pub has_label : Topology → NodeId → PortNo → ℕ → Bool
has_label topology node port number = has_port topology node port && is_label topology number

abbrev pub has_place : Topology → Place → Bool
has_place topology (Down node) = has_node topology node
has_place topology (Up node) = has_node topology node
has_place topology (Out node port) = has_node topology node && is_linked topology node port

abbrev pub HasLine : Topology → Record → Type 0
HasLine topology (Delivered node packet octets) = IsTrue (has_node topology node) × (0 < length octets)
HasLine topology (Dropped node packet cause) = IsTrue (has_node topology node)
HasLine topology (Refused node packet name) = IsTrue (has_node topology node)
HasLine topology (Loss mark cause) = Unit {0}
HasLine topology (Chance mark) = Unit {0}
HasLine topology (Bad node layer name) = IsTrue (has_node topology node)
HasLine topology (Opened node port) = IsTrue (has_port topology node port)
HasLine topology (Closed node port) = IsTrue (has_port topology node port)
HasLine topology (Bind node port vci flow) = IsTrue (has_label topology node port vci) × IsFlow flow
HasLine topology (Free node port vci) = IsTrue (has_label topology node port vci)
HasLine topology (Join node port vci to_port to_vci) =
    IsTrue (has_label topology node port vci) × IsTrue (has_label topology node to_port to_vci)
HasLine topology (Part node port vci) = IsTrue (has_label topology node port vci)
HasLine topology (Forged place) = IsTrue (has_place topology place)
HasLine topology (Routes node number) = IsTrue (has_node topology node)

-- these octets are the line of this record; octets of which no record has this are no record's line
pub record IsLineOf (topology : Topology) (octets : List ℕ) (item : Record) : Type 0 where
  pub has_line : HasLine topology item
  pub written : octets ≡ record_line topology item
