-- A fabric and the reassembly that shares its region of slots, as plain data

use Rattle.std.specs.Prelude.{◌≡◌, ℕ, ◌+◌, ◌-◌, List, length}
use Rattle.std.specs.List.{sum_by}
use Rattle.net_types.specs.declared.node.PortNo.{PortNo}
use Rattle.frame_model.specs.Reassembly.{Reassembly}
use Rattle.reassembly.specs.Receipt.{Gathering, reassembly_in}
use Rattle.cell_pool.specs.Region.{Line, size, len_of, IsLine}
use Rattle.cell_pool.specs.Shares.{IsApartFromEach, len_of_all}
use Rattle.crossbar_model.specs.Crossbar.{Crossbar}
use Rattle.fabric.specs.Fabric.{FabricView, crossbar, free_slots}
use Rattle.link_model.specs.Notes.{Journal}
use Rattle.world_model.specs.Requests.{Changed}

-- the ports besides port 0, how many VPIs labels may have, the crossbar, what is made of the cells of the
-- GSMP channel, and how many slots there are
pub record Store : Type 0 where
  pub ports : List PortNo
  pub vpis : ℕ
  pub crossbar : Crossbar
  pub reassembly : Reassembly
  pub cells : ℕ

-- each slot that isn't free holds a cell of a queue or of the chain
abbrev pub free_in : Store → ℕ
free_in x = x.cells - (sum_by length x.crossbar.queues + length x.reassembly.chain)

abbrev pub store_of : FabricView → Gathering → Store
store_of f g = record {
  ports = f.ports;
  vpis = f.vpis;
  crossbar = crossbar f;
  reassembly = reassembly_in f.region g;
  cells = size f.region;
}

-- the chain is one of the fabric's region, beside its queues, and they hold all slots that aren't free
pub record AreOneRegion (f : FabricView) (chain : Line) : Type 0 where
  pub threaded : IsLine f.region chain
  pub apart : IsApartFromEach f.region f.lines chain
  pub counted : free_slots f + len_of_all f.lines + len_of chain ≡ size f.region

-- its branches with the notes, and after both changed
abbrev pub changed_in : Store → Journal → Changed
changed_in x notes = record { branches = x.crossbar.branches; notes = notes }

abbrev pub with_changed : Store → Changed → Store
with_changed x c = record x { crossbar = record x.crossbar { branches = c.branches } }
