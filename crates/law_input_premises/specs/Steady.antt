-- What is so of a controller between events, as far as the lines of its inputs need it

use Rattle.law_controller.specs.world_model.Words.{IsLinkPort, FitsRows, Setup, Controller}
use Rattle.law_controller.specs.ordered_lists.Ordered.{Every}
use Rattle.std.specs.Prelude.{List}
use Rattle.law_controller.specs.law_controller_facts.Sound.{IsSound}
use Rattle.law_controller.specs.Order.{IsOrderly}
use Rattle.law_controller.specs.Match.{IsMatched}

-- its ports are of links; it is sound, its requests are in order, and its joins match; and the numbers of the records that
-- it keeps of the ports of its switch fit
pub record IsSteady (c : Controller) : Type 0 where
  pub setups : List Setup
  pub links : Every (λ (setup : Setup). IsLinkPort setup.port) setups
  pub sound : IsSound setups c
  pub order : IsOrderly c
  pub matched : IsMatched c.ports c.desk
  pub rows : FitsRows c.desk.rows
