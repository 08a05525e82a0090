-- A controller reads no mark and no note

use Rattle.std.specs.Prelude.{◌≡◌, ℕ, List}
use Rattle.world_model.specs.Words.{Channel, Mark, RouteChange, Cell, injected, node_restarts, change_comes}
use Rattle.world_model.specs.Controller.{Acted}
use Rattle.world_model.specs.Sending.{sends}
use Rattle.world_model.specs.Cells.{cell_comes}
use Rattle.world_model.specs.Ticks.{ticks}
use Rattle.law_unmarked_controllers.specs.Unmarked.{unmarked_cell, bare}

-- *Alike*: two that differ in marks and in what is the ledger's alone
abbrev pub AreAlike : Acted → Acted → Type 0
AreAlike a b = bare a ≡ bare b

-- *Whatever comes to two such*, under whichever marks, leaves two such
pub record ControllersReadNoMark : Type 0 where
  pub cells : (a b : Acted) → AreAlike a b → (cell other : Cell) → unmarked_cell cell ≡ unmarked_cell other → AreAlike (cell_comes a cell) (cell_comes b other)
  pub packets : (a b : Acted) → AreAlike a b → (number other : ℕ) (packet : List ℕ) → AreAlike (injected a number packet) (injected b other packet)
  pub frames : (a b : Acted) → AreAlike a b → (channel : Channel) (mark other : Mark) (payload : List ℕ) → AreAlike (sends a channel mark payload) (sends b channel other payload)
  pub ticks : (a b : Acted) → AreAlike a b → AreAlike (ticks a) (ticks b)
  pub restarts : (a b : Acted) → AreAlike a b → AreAlike (node_restarts a) (node_restarts b)
  pub changes : (a b : Acted) → AreAlike a b → (change : RouteChange) → AreAlike (change_comes a change) (change_comes b change)
