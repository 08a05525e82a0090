-- What comes in a cell: the channel of whoever takes it, what that channel makes of it, and the controller then

use Rattle.std.specs.Prelude.{◌≡◌, true, nat_lt, Some}
use Rattle.atm_cells.specs.declared.cell.Cell.{Cell}
use Rattle.controller_link.specs.reassembly.Receipt.{Received, received}
use Rattle.controller_link.specs.declared.taker.Taker as control
use Rattle.controller_link.specs.declared.taker.Taker.TheVariants.{Gsmp, Default, Label}
use Rattle.port_model.specs.Labels as labels
use Rattle.port_model.specs.Port.{label_at}
use Rattle.world_model.specs.Controller.{Acted, Controller, Linked, free_slots, linked_at}
use Rattle.world_model.specs.Cells.{Taker, ForGsmp, ForDefault, ForLabel, reassembly_of, with_reassembly}

-- its channel
abbrev pub channel_of : Taker → control.Taker
channel_of ForGsmp = Gsmp
channel_of (ForDefault linked) = Default linked.setup.port
channel_of (ForLabel linked label) = Label linked.setup.port label.number

-- its port is linked, and its label is held there and bound
pub record IsLabelFound (c : Controller) (linked : Linked) (label : labels.Label) : Type 0 where
  pub found : linked_at c linked.setup.port ≡ Some linked
  pub held : label_at linked.port label.number ≡ Some label
  pub bound : labels.is_bound label.state ≡ true

abbrev pub IsFound : Controller → Taker → Type 0
IsFound c ForGsmp = Unit {0}
IsFound c (ForDefault linked) = linked_at c linked.setup.port ≡ Some linked
IsFound c (ForLabel linked label) = IsLabelFound c linked label

-- what its channel makes of the cell, and the controller with that
abbrev pub receipt : Acted → Taker → Cell → Received
receipt a taker cell = received a.notes (nat_lt 0 (free_slots a.controller)) (reassembly_of a.controller taker) cell

abbrev pub gathered : Acted → Taker → Received → Acted
gathered a taker r = with_reassembly (record a { notes = r.notes }) taker r.reassembly
