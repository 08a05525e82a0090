-- What holds between events: from the opening on, after every input, and what an input draws

use Rattle.std.specs.Prelude.{◌≡◌, ◌≤◌, true, map, All}
use Rattle.law_controller.specs.world_model.Words.{HasNumbersLeft, AreDrawn, is_label_number, ArePorts, Controller}
use Rattle.law_controller.specs.world_model.controller_model.declared.range.PortRange.{PortRange}
use Rattle.law_controller.specs.world_model.Controller.{Acted}
use Rattle.law_controller.specs.law_controller_facts.Inputs.{Input, takes_input}
use Rattle.law_controller.specs.law_controller_facts.Sound.{Opening, IsOwn, opened_by}
use Rattle.law_controller_conditions.specs.Kept.{IsHeld, IsKept, AreIn}

-- *An opening*: the linked ports are of links, ascending, each with a range of labels, and grants have a lifetime
pub record IsLabelRange (range : PortRange) : Type 0 where
  pub least : is_label_number range.lo ≡ true
  pub greatest : is_label_number range.hi ≡ true
  pub order : range.lo ≤ range.hi

pub record IsOpened (o : Opening) : Type 0 where
  pub ports : ArePorts (map (λ range. range.port) o.ranges)
  pub ranges : All IsLabelRange o.ranges
  pub lifetime : 1 ≤ o.timers.lifetime

abbrev pub OpensKept : Type 0
OpensKept = (o : Opening) → IsOpened o → IsKept (opened_by o).controller

-- *Every input*, forged cells among them
abbrev pub InputsKeep : Type 0
InputsKeep = (a : Acted) (input : Input) → IsKept a.controller → IsKept (takes_input a input).controller

abbrev pub KeptIsHeld : Type 0
KeptIsHeld = (c : Controller) → IsKept c → IsHeld c

-- *Numbers* that an input draws itself; they suffice where so many are left before
abbrev pub InputsDraw : Type 0
InputsDraw = (a : Acted) (input : Input) → IsOwn input → IsKept a.controller → AreDrawn a.numbers (takes_input a input).numbers

abbrev pub NumbersSuffice : Type 0
NumbersSuffice = (a : Acted) (input : Input) → IsOwn input → IsKept a.controller → HasNumbersLeft a.numbers → AreIn (takes_input a input).numbers
