-- Where the channels of a control link stand in one list: first GSMP's, and then those of each linked port,
-- its default channel and those of its labels, ascending. No claim needs this file.

use Rattle.std.specs.Prelude.{◌≡◌, ℕ, ◌+◌, ◌-◌, ◌≤◌, ◌==◌, List, [], ◌∷◌, All, length, map, slice_index_or, Some, if◌then◌else◌}
use Rattle.std.specs.Option.{option_map_or}
use Rattle.net_types.specs.declared.node.PortNo.{PortNo}
use Rattle.crossbar_model.specs.Channels.{ArePorts}
use Rattle.world_model.specs.controller_model.declared.range.PortRange.{PortRange}
use Rattle.controller_link.specs.declared.taker.Taker.{Taker}
use Rattle.controller_link.specs.declared.taker.Taker.TheVariants.{Gsmp, Default, Label}
use Rattle.controller_link.specs.declared.layout.Block.{Block}
use Rattle.controller_link.specs.Cells.{IsRange, range_at}

-- how many channels a port has, and all ports before one
abbrev pub width : PortRange → ℕ
width range = range.hi - range.lo + 2

abbrev pub behind : List PortRange → PortNo → ℕ
behind [] port = 0
behind (range ∷ ranges) port = if range.port.0 == port.0 then 0 else width range + behind ranges port

abbrev pub count_of : List PortRange → ℕ
count_of [] = 1
count_of (range ∷ ranges) = width range + count_of ranges

-- the place of a port's default channel
abbrev pub first_of : List PortRange → PortNo → ℕ
first_of ranges port = 1 + behind ranges port

abbrev pub place_of : List PortRange → Taker → ℕ
place_of ranges Gsmp = 0
place_of ranges (Default port) = first_of ranges port
place_of ranges (Label port number) =
    option_map_or (λ range. first_of ranges port + 1 + (number - range.lo)) (range_at ranges port) 0

-- the block of each linked port, by its number; 8 ports have 65,537 channels each at most
pub record AreBlocks (ranges : List PortRange) (blocks : List Block) (count : ℕ) : Type 0 where
  pub ports : ArePorts (map (λ r. r.port) ranges)
  pub ordered : All IsRange ranges
  pub nine : length blocks ≡ 9
  pub counted : count ≡ count_of ranges
  pub small : count ≤ 524297
  pub each : (port : PortNo) (range : PortRange) (d : Block) → range_at ranges port ≡ Some range → slice_index_or blocks port.0 d ≡ record { range = range; first = first_of ranges port }
