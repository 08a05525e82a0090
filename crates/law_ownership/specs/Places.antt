-- On which channels control frames go between a controller and its switch

use Rattle.std.specs.Prelude.{◌≡◌, true, List, Contains, Some, ◌⊎◌}
use Rattle.law_frame_readings.specs.world_model.Words.{NodeId, Down, Up, Cell, Policy, default_channel, same_channel, port_on, Topology, is_linked, IsNode, queue_at, gsmp_under, Past, past_of, frames_of}
use Rattle.law_frame_readings.specs.world_model.gsmp_wire.declared.message.Message.{Message}
use Rattle.law_frame_readings.specs.world_model.network_model.declared.event.Event.{Event}
use Rattle.law_ownership.specs.Owning.{IsKept, HasOwnWays}

-- *A control frame* is GSMP's, on GSMP's channel, or it goes by a port of a link
pub data IsPlaced (past : Past) (node : NodeId) (cell : Cell) : Type 0 where
  of_gsmp : same_channel cell.header.channel default_channel ≡ true → (message : Message) → gsmp_under (frames_of past) cell.mark ≡ Some message → IsPlaced past node cell
  of_link : is_linked past.topology node (port_on cell.header.channel) ≡ true → IsPlaced past node cell

abbrev pub HasPlaces : Past → Type 0
HasPlaces past = (node : NodeId) → IsNode past.topology node → (cell : Cell)
    → Contains (queue_at past.now (Down node)) cell ⊎ Contains (queue_at past.now (Up node)) cell → cell.mark.packet ≡ 0 → IsPlaced past node cell

-- so what goes between the ends of a link, and between a controller and its switch, is on its own channel
abbrev pub WaysAreOwn : Type 0
WaysAreOwn = (policy : Policy) (topology : Topology) (events : List Event) → IsKept (past_of policy topology events)
    → HasPlaces (past_of policy topology events) → HasOwnWays (past_of policy topology events)
