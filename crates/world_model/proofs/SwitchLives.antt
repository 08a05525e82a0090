-- a cell is carried to a switch: it goes where the branch of its channel leads, and on over the link, or it is lost

use Rattle.std.proofs.Common.{◌≡◌, ℕ, false, List, [], ◌∷◌, replicate, None, Some, refl, ap}
use Rattle.std.specs.FinMap.{get}
use Rattle.network_model.specs.net_types.declared.channel.End.{End}
use Rattle.network_model.specs.net_types.declared.node.Place.TheVariants.{Down, Out}
use Rattle.network_model.specs.atm_cells.declared.cell.Cell.{Cell}
use Rattle.network_model.specs.link_model.declared.record.Cause.TheVariants.{Unconnected}
use Rattle.network_model.specs.link_model.declared.record.Record.{Record}
use Rattle.network_model.specs.link_model.declared.record.Record.TheVariants.{Loss}
use Rattle.network_model.specs.crossbar_model.declared.branch.Branch.{Branch}
use Rattle.network_model.specs.crossbar_model.Crossbar.{Branches, Crossbar, queue_of, switched_on}
use Rattle.world_model.specs.network_model.declared.event.Event.TheVariants.{Carry}
use Rattle.world_model.specs.Topology.{policy_of}
use Rattle.world_model.specs.World.{World, Site, opened}
use Rattle.world_model.specs.Places.{queue_at}
use Rattle.world_model.specs.Run.{next}
use Rattle.world_model.proofs.Lives.{two, node}

-- a cell of a packet on the default channel, as it stands on the control link and as it stands on the link
abbrev cell_on : (vpi : ℕ) → Cell
cell_on vpi = record {
  header = record { channel = record { vpi = vpi; vci = 15 }; last = false };
  payload = replicate 48 0;
  mark = record { packet = 1; frame = 1 };
}

abbrev end : (port vpi : ℕ) → End
end port vpi = record { port = record { 0 = port }; channel = record { vpi = vpi; vci = 15 } }

abbrev branch : Branch
branch = record { output = end 1 0; unfinished = None }

-- the first node has a cell for its switch, whose branches are these
abbrev with_cell : Branches → List Site → List Site
with_cell branches [] = []
with_cell branches (site ∷ sites) =
    record {
      controller = record site.controller { queue = cell_on 16 ∷ [] };
      switch = record site.switch { crossbar = record site.switch.crossbar { branches = branches } };
    } ∷ sites

abbrev before : Branches → World
before branches = let w = opened (policy_of two) two in record w { sites = with_cell branches w.sites }

abbrev carried : Branches → World
carried branches = next two (before branches) (Carry (Down (node 1)))

-- what waits for the first node's switch, what waits at the port of its link, the records, the cells counted
pub record Seen : Type 0 where
  pub down : List Cell
  pub out : List Cell
  pub records : List Record
  pub events : ℕ

abbrev seen : World → Seen
seen w = record {
  down = queue_at w (Down (node 1));
  out = queue_at w (Out (node 1) (record { 0 = 1 }));
  records = w.notes.records;
  events = w.events;
}

abbrev empty_crossbar : Branches → Crossbar
empty_crossbar branches = record { branches = branches; queues = replicate 9 [] }

-- *With a branch* it goes out on the branch's channel
passes : (branches : Branches) → get branches (end 0 16) ≡ Some branch
    → seen (carried branches) ≡ record { down = []; out = cell_on 0 ∷ []; records = []; events = 1 }
passes branches leads =
    rw leads (ap (λ (x : Crossbar). record { down = []; out = queue_of x (record { 0 = 1 }); records = []; events = 1 })
    (ap (λ o. switched_on (empty_crossbar branches) (end 0 16) o 1024 (cell_on 16)) leads))

-- *Without one* it gets its entry
is_lost : (branches : Branches) → get branches (end 0 16) ≡ None
    → seen (carried branches) ≡ record { down = []; out = []; records = Loss (record { packet = 1; frame = 1 }) Unconnected ∷ []; events = 1 }
is_lost branches leads = rw leads refl
