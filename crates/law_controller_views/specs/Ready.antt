-- What is so of a controller so that the rules of its ports lead the lines of labels

use Rattle.std.specs.Prelude.{◌≡◌, ◌<◌, ◌^◌, false, List}
use Rattle.law_controller_facts.specs.ordered_lists.Ordered.{Every}
use Rattle.law_shown_cells.specs.law_label_line.Cells.{Role}
use Rattle.law_controller_facts.specs.world_model.Words.{Setup, is_spent, ticked, Controller, Linked, tries_joins, sends_again, ticks_ports}
use Rattle.law_controller_facts.specs.law_port_facts.Port.{IsRanged}
use Rattle.law_controller_facts.specs.world_model.Controller.{Acted}
use Rattle.law_controller_facts.specs.world_model.Gsmp.{steps}
use Rattle.law_controller_facts.specs.Sound.{IsSound}
use Rattle.law_controller_facts.specs.Said.{HasFlowingPorts}
use Rattle.law_shown_cells.specs.law_port_views.Link.{LinkLabel}
use Rattle.law_port_widths.specs.Widths.{FitsPort, FitsSetup}

-- a port has numbers left, and none of them is wider than its field
pub record IsReadyPort (linked : Linked) : Type 0 where
  pub unspent : is_spent linked.port.session ≡ false
  pub setup : FitsSetup linked.setup
  pub fits : FitsPort linked.port

-- a controller is sound, its flows are flows that packets can have, and its ports are ready
pub record IsReady (setups : List Setup) (c : Controller) : Type 0 where
  pub sound : IsSound setups c
  pub flows : HasFlowingPorts setups c
  pub ranged : Every IsRanged setups
  pub ports : Every IsReadyPort c.ports

-- the addresses of both ends of a link
abbrev pub FitsLink : LinkLabel → Type 0
FitsLink link = (role : Role) → (link.address role).0 < 2 ^ 32

-- a tick that the adjacency with the switch doesn't end, up to its joins: the instances that it draws fit
abbrev pub FitsTick : Acted → Type 0
FitsTick a = (tries_joins (ticks_ports (sends_again (steps a (ticked a.controller.adjacency))))).numbers.instances < 2 ^ 32
