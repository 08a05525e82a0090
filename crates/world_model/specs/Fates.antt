-- Where a packet ends, and the records and losses that tell of it

use Rattle.std.specs.Prelude.{ℕ, ◌==◌, Bool, false, List, Option, None, Some}
use Rattle.std.specs.List.{list_any}
use Rattle.network_model.specs.net_types.declared.node.NodeId.{NodeId}
use Rattle.network_model.specs.net_types.declared.node.PortNo.{PortNo}
use Rattle.network_model.specs.ipv4_forward.declared.table.Next.{Next}
use Rattle.network_model.specs.ipv4_forward.declared.table.Next.TheVariants.{Local, Via}
use Rattle.network_model.specs.link_model.declared.entries.Entry.{Entry}
use Rattle.network_model.specs.link_model.declared.record.DropCause.{DropCause}
use Rattle.network_model.specs.link_model.declared.record.DropCause.TheVariants.{NoRoute}
use Rattle.network_model.specs.link_model.declared.record.Record.{Record}
use Rattle.network_model.specs.link_model.declared.record.Record.TheVariants.{Delivered, Dropped}

-- where a packet ends, and as which octets
pub data Fate : Type 0 where
  IsDelivered : NodeId → (packet : List ℕ) → Fate
  IsDropped : NodeId → DropCause → Fate

-- what becomes of a packet at a node, by the node's best route for it; `passed` is what becomes of it behind the port
-- that the route names
abbrev pub by_route : NodeId → (packet : List ℕ) → (passed : PortNo → Fate) → Option Next → Fate
by_route node packet passed None = IsDropped node NoRoute
by_route node packet passed (Some Local) = IsDelivered node packet
by_route node packet passed (Some (Via port)) = passed port

-- the record of a packet's fate
abbrev pub fate_record : (number : ℕ) → Fate → Record
fate_record number (IsDelivered node packet) = Delivered node number packet
fate_record number (IsDropped node cause) = Dropped node number cause

-- a record is a fate of the packet of this number
abbrev pub is_fate_of : (number : ℕ) → Record → Bool
is_fate_of number (Delivered node packet octets) = packet == number
is_fate_of number (Dropped node packet cause) = packet == number
is_fate_of number item = false

-- an entry of any frame of the packet stands in the ledger
abbrev pub has_loss_of : (number : ℕ) → List Entry → Bool
has_loss_of number entries = list_any (λ entry. entry.mark.packet == number) entries
