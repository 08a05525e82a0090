-- What the numbers of controllers and switches have to be so that what they say can be read

use Rattle.std.specs.Prelude.{List, map, Option, None, Some}
use Rattle.law_controller_views.specs.world_model.Words.{Party, Side, FitsParty, FitsRows, Controller, Linked, Setup, Site}
use Rattle.law_controller_views.specs.world_model.Answers.{port_row}
use Rattle.law_controller_views.specs.Ready.{IsReady}

abbrev pub setups_of : Controller → List Setup
setups_of c = map (λ (linked : Linked). linked.setup) c.ports

-- the two parties of an adjacency with a switch
abbrev pub FitsStored : Option Party → Type 0
FitsStored None = Unit {0}
FitsStored (Some party) = FitsParty party

pub record FitsSide (side : Side Party) : Type 0 where
  pub own : FitsParty side.own
  pub stored : FitsStored side.stored

-- *Numbers*: each that a controller or a switch keeps, and may say, has its field's width; no port's numbers are spent
pub record IsReadySite (site : Site) : Type 0 where
  pub controller : IsReady (setups_of site.controller) site.controller
  pub rows : FitsRows site.controller.desk.rows
  pub side : FitsSide site.controller.adjacency
  pub switch_side : FitsSide site.switch.adjacency
  pub ports : FitsRows (map port_row site.switch.ports)
