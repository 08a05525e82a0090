-- Which records are read from their lines

use Rattle.std.specs.Prelude.{◌≡◌, ℕ, ◌^◌, ◌<◌, List, Option, Some}
use Rattle.net_types.specs.declared.node.NodeId.{NodeId}
use Rattle.net_types.specs.declared.number.Mark.{Mark}
use Rattle.ipv4_packet.specs.Identifier.{FitsFields}
use Rattle.link_model.specs.declared.record.Record.{Record}
use Rattle.link_model.specs.declared.record.Record.TheVariants.{Delivered, Dropped, Refused, Loss, Chance, Bad, Opened, Closed, Bind, Free, Join, Part, Forged, Routes}
use Rattle.topology.specs.world_model.Topology.{Topology}
use Rattle.topology.specs.world_model.Conditions.{AreOctets}
use Rattle.topology.specs.world_model.Places.{place_node}
use Rattle.script_model.specs.Sayable.{IsName}
use Rattle.script_model.specs.Records.{IsLineOf}
use Rattle.script_model.specs.Texts.{name_of}

-- each number fits its field
abbrev pub FitsMark : Mark → Type 0
FitsMark mark = (mark.packet < 2 ^ 32) × (mark.frame < 2 ^ 64)

-- and its node's name is one that a script can give
abbrev pub HasName : Topology → NodeId → Type 0
HasName topology node = IsName (name_of topology node)

abbrev pub IsReadable : Topology → Record → Type 0
IsReadable topology (Delivered node packet octets) = HasName topology node × (packet < 2 ^ 32) × AreOctets octets
IsReadable topology (Dropped node packet cause) = HasName topology node × (packet < 2 ^ 32)
IsReadable topology (Refused node packet name) = HasName topology node × (packet < 2 ^ 32)
IsReadable topology (Loss mark cause) = FitsMark mark
IsReadable topology (Chance mark) = FitsMark mark
IsReadable topology (Bad node layer name) = HasName topology node
IsReadable topology (Opened node port) = HasName topology node
IsReadable topology (Closed node port) = HasName topology node
IsReadable topology (Bind node port vci flow) = HasName topology node × FitsFields flow
IsReadable topology (Free node port vci) = HasName topology node
IsReadable topology (Join node port vci to_port to_vci) = HasName topology node
IsReadable topology (Part node port vci) = HasName topology node
IsReadable topology (Forged place) = HasName topology (place_node place)
IsReadable topology (Routes node number) = HasName topology node × (number < 2 ^ 32)

-- what is read of octets: a record whose line they are; and every such record that is readable
pub record IsRead (topology : Topology) (octets : List ℕ) (found : Option Record) : Type 0 where
  pub line : (item : Record) → found ≡ Some item → IsLineOf topology octets item
  pub all : (item : Record) → IsReadable topology item → IsLineOf topology octets item → found ≡ Some item
