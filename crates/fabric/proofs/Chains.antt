-- What a call on a chain leaves of a fabric.

use Rattle.std.proofs.Common.{List, refl, ap}
use Rattle.atm_cells.specs.declared.cell.Cell.{Cell}
use Rattle.cell_pool.specs.Region.{Region, Line}
use Rattle.cell_pool.specs.Steps.{IsDrained}
use Rattle.cell_pool.specs.Shares.{IsApartFromEach, ShareRegion, LineChanges}
use Rattle.cell_pool.proofs.Lines.{share_beside, apart_beside, map-cells_of-beside, share_drained, map-cells_of-drained}
use Rattle.crossbar_model.specs.Crossbar.{Crossbar}
use Rattle.fabric.specs.Table.{Table}
use Rattle.fabric.specs.Fabric.{FabricView, QueuesStay, ChainChanges}

-- a fabric by its parts
abbrev pub fabric_of : Table → List Line → Region → FabricView
fabric_of table lines region = record { ports = table.ports; vpis = table.vpis; branches = table.branches; lines = lines; region = region }

-- a chain beside the queues changes
pub chain_changes : (table : Table) (lines : List Line) (old new : Region) (q r : Line) → ShareRegion old lines → IsApartFromEach old lines q → LineChanges old new q r
    → ChainChanges (fabric_of table lines old) (fabric_of table lines new) q r
chain_changes table lines old new q r share apart changed = record {
  queues = record {
    same_ports = refl;
    same_vpis = refl;
    same_lines = refl;
    same_crossbar = ap (λ (qs : List (List Cell)). let x : Crossbar = record { branches = table.branches; queues = qs } in x) (map-cells_of-beside old new lines q r share apart changed);
    share = share_beside old new lines q r share apart changed;
  };
  chain = changed;
  apart = apart_beside old new lines q r share apart changed;
}

-- a chain beside the queues is drained
pub chain_drained : (table : Table) (lines : List Line) (old new : Region) (q : Line) → ShareRegion old lines → IsApartFromEach old lines q → IsDrained old new q
    → QueuesStay (fabric_of table lines old) (fabric_of table lines new)
chain_drained table lines old new q share apart drained = record {
  same_ports = refl;
  same_vpis = refl;
  same_lines = refl;
  same_crossbar = ap (λ (qs : List (List Cell)). let x : Crossbar = record { branches = table.branches; queues = qs } in x) (map-cells_of-drained old new lines q share apart drained);
  share = share_drained old new lines q share apart drained;
}
