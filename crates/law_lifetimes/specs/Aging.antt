-- Which ticks reach the lifetimes of a port, and when a lifetime has passed

use Rattle.std.specs.Prelude.{◌≡◌, ℕ, ◌+◌, List, [], ◌∷◌, if◌then◌else◌}
use Rattle.law_controller.specs.world_model.Words.{PortNo}
use Rattle.law_controller.specs.world_model.Controller.{Acted}
use Rattle.law_controller.specs.law_controller_facts.Inputs.{Input, Ticks, takes_input, takes_inputs}
use Rattle.law_controller.specs.law_controller_facts.Sound.{Opening, opened_by}
use Rattle.law_controller.specs.law_controller_facts.claims_model.Expiry.{Sets, reaches_at}

-- how many of these inputs are ticks that reach them
abbrev pub one_tick : Acted → PortNo → Input → ℕ
one_tick a port Ticks = if reaches_at a.controller port then 1 else 0
one_tick a port input = 0

abbrev pub ticks_among : Acted → PortNo → List Input → ℕ
ticks_among a port [] = 0
ticks_among a port (input ∷ inputs) = one_tick a port input + ticks_among (takes_input a input) port inputs

-- none of these inputs sets the lifetime of the grant of a label
abbrev pub NotSet : Acted → PortNo → (label : ℕ) → Input → Type 0
NotSet a port label input = (lifetime : ℕ) → Sets a input port label lifetime → ⊥

abbrev pub NoneSets : Acted → PortNo → (label : ℕ) → List Input → Type 0
NoneSets a port label [] = Unit {0}
NoneSets a port label (input ∷ inputs) = NotSet a port label input × NoneSets (takes_input a input) port label inputs

-- *A lifetime is counted* from its setting in a list of inputs: the setting comes, and after it inputs of which none
-- sets it again
pub record IsCounted (o : Opening) (port : PortNo) (label lifetime : ℕ) (a : Acted) (ticks : ℕ) : Type 0 where
  pub before : List Input
  pub setting : Input
  pub sets : Sets (takes_inputs (opened_by o) before) setting port label lifetime
  pub after : List Input
  pub unset : NoneSets (takes_input (takes_inputs (opened_by o) before) setting) port label after
  pub counted : ticks_among (takes_input (takes_inputs (opened_by o) before) setting) port after ≡ ticks
  pub now : takes_inputs (takes_input (takes_inputs (opened_by o) before) setting) after ≡ a
