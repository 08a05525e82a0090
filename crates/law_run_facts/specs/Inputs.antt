-- What may come to a switch, and which marks are given out

use Rattle.std.specs.Prelude.{◌≡◌, ℕ, ◌<◌, ◌≤◌}
use Rattle.law_world_pace.specs.world_model.Words.{PortNo, Mark, Cell, tick_comes, restarted}
use Rattle.law_world_pace.specs.world_model.Switch.{ActedSwitch}
use Rattle.law_world_pace.specs.world_model.Conduct.{cell_comes}

-- a cell comes on a port, a tick, a restart
pub data SwitchInput : Type 0 where
  CellComes : PortNo → Cell → SwitchInput
  Ticks : SwitchInput
  Restarts : SwitchInput

abbrev pub switch_takes : ActedSwitch → SwitchInput → ActedSwitch
switch_takes a (CellComes port cell) = cell_comes a port cell
switch_takes a Ticks = tick_comes a
switch_takes a Restarts = restarted a

-- *A control mark* is one of those that were given out, from 1; a packet's mark may be any
abbrev pub IsMark : (controls : ℕ) → Mark → Type 0
IsMark controls mark = mark.packet ≡ 0 → (0 < mark.frame) × (mark.frame ≤ controls)

abbrev pub IsMarked : (controls : ℕ) → Cell → Type 0
IsMarked controls cell = IsMark controls cell.mark
