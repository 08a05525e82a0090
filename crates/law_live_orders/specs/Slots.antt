-- A carry of which the ledger has no entry finds a slot

use Rattle.std.specs.Prelude.{◌≡◌, false, List, ◌∷◌}
use Rattle.world_model.specs.Words.{Place, Cell, has_entry, Topology, World, IsTopology, IsPlace, queue_at, next}
use Rattle.world_model.specs.network_model.declared.link.LinkEnd.{LinkEnd}
use Rattle.world_model.specs.network_model.declared.event.Event.TheVariants.{Carry}
use Rattle.law_live_orders.specs.Law.{IsOpenWay, LosesNone}

-- *Its cell has no entry* behind it: so the carry loses none of what is on an open way
abbrev pub IsUnlost : Topology → World → Place → Type 0
IsUnlost topology w place = (cell : Cell) (cells : List Cell) → queue_at w place ≡ cell ∷ cells
    → has_entry (next topology w (Carry place)).notes.entries cell.mark ≡ false

abbrev pub UnlostFindSlots : Type 0
UnlostFindSlots = (topology : Topology) (w : World) (one far : LinkEnd) (place : Place) → IsTopology topology → IsOpenWay topology w one far
    → IsPlace topology place → IsUnlost topology w place → LosesNone topology w one far (Carry place)
