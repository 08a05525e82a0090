-- What a fabric is seen as: its plain data, over a region that others share.

use Rattle.std.specs.Prelude.{◌≡◌, ℕ, List, length, map}
use Rattle.net_types.specs.declared.node.PortNo.{PortNo}
use Rattle.cell_pool.specs.Region.{Region, Line, cells_of}
use Rattle.cell_pool.specs.Shares.{ShareRegion, IsApartFromEach, LineChanges, LinesChange}
use Rattle.crossbar_model.specs.Crossbar.{Branches, Crossbar}

-- the ports besides port 0, how many paths are connected on each, the branches, the region, and the
-- queue of each port in that region, by the port's number from 0 to 8
pub record FabricView : Type 0 where
  pub ports : List PortNo
  pub vpis : ℕ
  pub branches : Branches
  pub lines : List Line
  pub region : Region

-- the plain data
abbrev pub crossbar : FabricView → Crossbar
crossbar f = record { branches = f.branches; queues = map (cells_of f.region) f.lines }

-- how many slots are free
abbrev pub free_slots : FabricView → ℕ
free_slots f = length f.region.free

-- the queues changed: they took what they gained from the free slots and gave back what they lost;
-- every chain of the region that shares no slot with them is as it was
pub record QueuesChange (old new : FabricView) : Type 0 where
  pub same_ports : new.ports ≡ old.ports
  pub same_vpis : new.vpis ≡ old.vpis
  pub lines : LinesChange old.region new.region old.lines new.lines

-- the queues are as they were
pub record QueuesStay (old new : FabricView) : Type 0 where
  pub same_ports : new.ports ≡ old.ports
  pub same_vpis : new.vpis ≡ old.vpis
  pub same_lines : new.lines ≡ old.lines
  pub same_crossbar : crossbar new ≡ crossbar old
  pub share : ShareRegion new.region new.lines

-- the chain q became r; the fabric is as it was, and r shares no slot with its queues
pub record ChainChanges (old new : FabricView) (q r : Line) : Type 0 where
  pub queues : QueuesStay old new
  pub chain : LineChanges old.region new.region q r
  pub apart : IsApartFromEach new.region new.lines r

-- what a fabric is seen as besides its region and the lines there
pub record Besides : Type 0 where
  pub ports : List PortNo
  pub vpis : ℕ
  pub crossbar : Crossbar

abbrev pub besides : FabricView → Besides
besides f = record { ports = f.ports; vpis = f.vpis; crossbar = crossbar f }
