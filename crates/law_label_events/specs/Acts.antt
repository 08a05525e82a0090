-- What has to be so of the controllers of a network where an event takes place, so that the line of each label of each
-- link follows it

use Rattle.std.specs.Prelude.{◌≡◌, List}
use Rattle.world_model.specs.Words.{NodeId, Cell, Setup, World, Site}
use Rattle.law_controller_lifts.specs.law_label_line.Cells.{Role}
use Rattle.world_model.specs.Cells.{cell_comes}
use Rattle.law_controller_lifts.specs.law_port_views.Link.{LinkLabel}
use Rattle.law_controller_lifts.specs.law_controller_views.Lifted.{Growing}
use Rattle.law_controller_lifts.specs.law_arrival_views.Cells.{CanArrive}
use Rattle.law_controller_lifts.specs.law_controller_views.Ready.{IsReady, FitsTick}
use Rattle.law_world_views.specs.Shown.{acting}

-- *A tick*: the controller is ready, and the instances that the tick draws fit
pub record CanTick (w : World) (site : Site) : Type 0 where
  pub setups : List Setup
  pub ready : IsReady setups site.controller
  pub fits : FitsTick (acting w site)

-- *A cell that comes from the switch*: at an end of the link it can arrive there, and elsewhere frames are made and
-- numbers given out
pub record Arrives (link : LinkLabel) (like : Type 0) (w : World) (at : NodeId) (site : Site) (cell : Cell) : Type 0 where
  pub grows : Growing (acting w site) (cell_comes (acting w site) cell)
  pub can : (role : Role) → at.0 ≡ (link.node role).0 → CanArrive link like role (acting w site) cell
