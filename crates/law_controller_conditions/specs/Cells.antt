-- What comes in a cell: whoever takes it has a channel of the control link; the channel takes the cell, and then a frame
-- that it ended acts; all of it still holds in between, and once a packet is sent on, which changes no port

use Rattle.std.specs.Prelude.{◌≡◌, ℕ, true, List, map, Some}
use Rattle.law_controller.specs.world_model.Words.{Channel, Mark, Cell, Journal, Reassembly, with_reassembly, taker_of, forwards_packet}
use Rattle.reassembly.specs.Receipt.{Received}
use Rattle.controller_router.specs.controller_link.Cells.{is_channel}
use Rattle.law_controller.specs.world_model.Controller.{Acted}
use Rattle.law_controller.specs.world_model.Cells.{Taker, opened_frame, cell_comes}
use Rattle.controller_router.specs.Node.{linked_range}
use Rattle.controller_router.specs.Cells.{IsFound, channel_of, gathered, receipt}
use Rattle.law_controller_conditions.specs.Kept.{IsKept}

-- what is left once a frame that the cell ended has acted
abbrev pub after_receipt : Acted → Taker → Mark → Received → Acted
after_receipt a taker mark r = opened_frame (gathered a taker r) taker mark r.payload

pub record CellsCanCome : Type 0 where
  pub found : (a : Acted) (channel : Channel) (taker : Taker) → IsKept a.controller → taker_of a.controller channel ≡ Some taker → IsFound a.controller taker
  pub channels : (a : Acted) (channel : Channel) (taker : Taker) → IsKept a.controller → taker_of a.controller channel ≡ Some taker
      → is_channel (map linked_range a.controller.ports) (channel_of taker) ≡ true
  pub gathers : (a : Acted) (channel : Channel) (taker : Taker) (notes : Journal) (r : Reassembly) → IsKept a.controller → taker_of a.controller channel ≡ Some taker
      → IsKept (with_reassembly (record a { notes = notes }) taker r).controller
  pub acts : (a : Acted) (cell : Cell) (taker : Taker) → taker_of a.controller cell.header.channel ≡ Some taker → cell_comes a cell ≡ after_receipt a taker cell.mark (receipt a taker cell)
  pub sent_on : (a : Acted) (came : Mark) (packet : List ℕ) → IsKept a.controller → IsKept (forwards_packet a came packet).controller
  pub same_ports : (a : Acted) (came : Mark) (packet : List ℕ) → (forwards_packet a came packet).controller.ports ≡ a.controller.ports
