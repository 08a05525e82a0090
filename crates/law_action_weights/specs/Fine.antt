-- A controller as the measure needs it

use Rattle.std.specs.Prelude.{◌≢◌, ◌≤◌, length}
use Rattle.law_controller_facts.specs.ordered_lists.Ordered.{Every, InOrder}
use Rattle.law_shown_cells.specs.Seen.{IsUnmade}
use Rattle.world_model.specs.Words.{Linked, port_key}
use Rattle.world_model.specs.Controller.{Acted}

-- *A controller that is fine*: no control mark beyond those given out was used, and its ports are of links, at most 8, no two
-- with one number
abbrev pub HaveOwnNumbers : Linked → Linked → Type 0
HaveOwnNumbers x y = port_key x ≢ port_key y

abbrev pub IsOfLink : Linked → Type 0
IsOfLink linked = 1 ≤ linked.setup.port.0

pub record IsFine (a : Acted) : Type 0 where
  pub unmade : IsUnmade a.numbers.controls a.notes.frames
  pub apart : InOrder HaveOwnNumbers a.controller.ports
  pub links : Every IsOfLink a.controller.ports
  pub few : length a.controller.ports ≤ 8
