-- How the branches of a switch lead, where its controller alone asks for them

use Rattle.std.specs.Prelude.{◌≡◌, ℕ, true, nat_lt, List, ◌∷◌, map, Some}
use Rattle.law_causes.specs.world_model.Words.{End, PortNo, Cell, payload_of, payload_in, Branches, Standing, Switch, control_port, numbers_of, is_gsmp, tick_comes, restarted, Setup, copy_under}
use Rattle.law_causes.specs.world_model.frame_model.Frame.{octets_of}
use Rattle.law_causes.specs.world_model.frame_model.Reassembly.{taken}
use Rattle.law_causes.specs.world_model.crossbar_model.Crossbar.{output_of}
use Rattle.law_causes.specs.world_model.Switch.{ActedSwitch, free_slots}
use Rattle.law_causes.specs.world_model.Conduct.{cell_comes}
use Rattle.law_world_views.specs.law_port_facts.Port.{IsShaped}
use Rattle.law_world_views.specs.Between.{IsShapedBranch}

-- *Shapes*: each branch has the shape of one that a controller with these ports asks for, and the switch has port 0 and
-- these ports
abbrev pub AreShaped : List Setup → Branches → Type 0
AreShaped setups m = (input output : End) → output_of m input ≡ Some output → IsShapedBranch setups input output

pub record HasShapes (setups : List Setup) (s : Switch) : Type 0 where
  pub branches : AreShaped setups s.crossbar.branches
  pub ports : numbers_of s.ports ≡ control_port ∷ map (λ (setup : Setup). setup.port) setups

-- *A cell* that comes keeps them, where a chain that it ends passes as the frame of its mark alone, and that frame asks
-- what has a shape
abbrev pub ended_by : ActedSwitch → Cell → List Cell
ended_by a cell = (taken a.notes (nat_lt 0 (free_slots a.switch)) a.switch.reassembly cell).ended

pub record Brings (setups : List Setup) (a : ActedSwitch) (cell : Cell) : Type 0 where
  pub passes : (first : Cell) (cells : List Cell) (payload : List ℕ) → ended_by a cell ≡ first ∷ cells → payload_in (octets_of (first ∷ cells)) ≡ Some payload
      → payload_of a.notes.frames cell.mark ≡ Some payload
  pub asks : (s : Standing) → copy_under a.notes.frames cell.mark ≡ Some s → IsShaped setups s.request

abbrev pub CellsKeepShapes : Type 0
CellsKeepShapes = (setups : List Setup) (a : ActedSwitch) (port : PortNo) (cell : Cell)
    → (is_gsmp port cell.header.channel ≡ true → Brings setups a cell)
    → HasShapes setups a.switch → HasShapes setups (cell_comes a port cell).switch

-- *A tick* and *a restart* do
abbrev pub TicksKeepShapes : Type 0
TicksKeepShapes = (setups : List Setup) (a : ActedSwitch) → HasShapes setups a.switch → HasShapes setups (tick_comes a).switch

abbrev pub RestartsKeepShapes : Type 0
RestartsKeepShapes = (setups : List Setup) (a : ActedSwitch) → HasShapes setups a.switch → HasShapes setups (restarted a).switch
