-- How many cells stand in the queues of an actor, and the cells behind so many

use Rattle.std.specs.Prelude.{◌≡◌, ℕ, ◌≤◌, ◌++◌, List, [], drop, flat_map, length, map, slice_index_or, if◌then◌else◌}
use Rattle.std.specs.List.{range_with_len}
use Rattle.net_types.specs.declared.node.NodeId.{NodeId}
use Rattle.net_types.specs.declared.node.PortNo.{PortNo}
use Rattle.net_types.specs.declared.node.Place.{Place}
use Rattle.net_types.specs.declared.node.Place.TheVariants.{Down, Up, Out}
use Rattle.atm_cells.specs.declared.cell.Cell.{Cell}
use Rattle.world_model.specs.Lines.{is_linked}
use Rattle.world_model.specs.Places.{queue_at}
use Rattle.world_model.specs.Topology.{Topology}
use Rattle.world_model.specs.World.{World}
use Rattle.telling_model.specs.Passing.{standing}
use Rattle.telling_model.specs.declared.standing.Standing.{Standing}
use Rattle.law_passing.specs.telling_model.declared.reached.Reached.{Reached}
use Rattle.law_passing.specs.telling_model.declared.reached.Reached.TheVariants as actors
use Rattle.tell_passing.specs.declared.lengths.Lengths.{Lengths}
use Rattle.tell_passing.specs.declared.lengths.Lengths.TheVariants.{Nobody, Controller, Switch}

-- *How many cells* are in the queues of an actor; the queue at port 0 of a switch is that to its controller
abbrev pub AreLengths : (cells : Place → List Cell) → (who : Reached) → Lengths → Type 0
AreLengths cells who Nobody = who ≡ actors.Nobody
AreLengths cells who (Controller node left) = (who ≡ actors.Controller node) × (left ≡ length (cells (Down node)))
AreLengths cells who (Switch node lefts) =
    (who ≡ actors.Switch node) × ((port : PortNo) → port.0 ≤ 8 → slice_index_or lefts port.0 0 ≡ length (cells (Out node port)))

-- *The cells behind so many*
abbrev pub behind : World → (left : ℕ) → Place → List Standing
behind w left place = map (standing place) (drop left (queue_at w place))

abbrev pub behind_at : Topology → World → NodeId → (lefts : List ℕ) → PortNo → List Standing
behind_at topology w node lefts port =
    if is_linked topology node port then behind w (slice_index_or lefts port.0 0) (Out node port) else []

-- the ports of links, whether or not a link is there
abbrev pub link_ports : List PortNo
link_ports = map (λ n. record { 0 = n }) (range_with_len 1 8)

-- queue by queue in the order of a round
abbrev pub all_behind : Topology → World → Lengths → List Standing
all_behind topology w Nobody = []
all_behind topology w (Controller node left) = behind w left (Down node)
all_behind topology w (Switch node lefts) =
    behind w (slice_index_or lefts 0 0) (Up node) ++ flat_map (behind_at topology w node lefts) link_ports
