-- What holds of one controller, in the midst of an event and between events, and that numbers are left

use Rattle.std.specs.Prelude.{◌≤◌, ◌<◌, ◌^◌, List, length}
use Rattle.law_controller.specs.world_model.Words.{GivenOut, IsLinkPort, Setup, Controller}
use Rattle.law_controller.specs.ordered_lists.Ordered.{Every}
use Rattle.law_controller.specs.law_port_facts.Port.{IsRanged}
use Rattle.law_controller.specs.law_controller_facts.Sound.{IsSound}
use Rattle.law_controller.specs.law_controller_facts.Said.{HasFlowingPorts}
use Rattle.law_controller.specs.Order.{IsOrderly}
use Rattle.law_controller.specs.Match.{IsMatched}

-- *The ports of a node*: at most 8, of links, each opened with a lifetime and a range of labels
pub record AreLinks (setups : List Setup) : Type 0 where
  pub few : length setups ≤ 8
  pub links : Every (λ (setup : Setup). IsLinkPort setup.port) setups
  pub ranged : Every IsRanged setups

-- *In the midst of an event* a controller is sound, its requests are in order, and its flows are flows that packets
-- can have
pub record IsHeld (c : Controller) : Type 0 where
  pub setups : List Setup
  pub links : AreLinks setups
  pub sound : IsSound setups c
  pub order : IsOrderly c
  pub flows : HasFlowingPorts setups c

-- *Between events* its joins and the grants that are lent match, too
pub record IsKept (c : Controller) : Type 0 where
  pub setups : List Setup
  pub links : AreLinks setups
  pub sound : IsSound setups c
  pub order : IsOrderly c
  pub flows : HasFlowingPorts setups c
  pub matched : IsMatched c.ports c.desk

-- *Numbers* that a run can give out
pub record AreIn (numbers : GivenOut) : Type 0 where
  pub instances : numbers.instances < 2 ^ 32
  pub controls : numbers.controls < 2 ^ 64
