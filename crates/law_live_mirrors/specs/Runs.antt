-- What holds of the desk of a controller in every run makes an answered request stand alone

use Rattle.std.specs.Prelude.{◌≡◌, ◌≢◌, true}
use Rattle.world_model.specs.Words.{Standing, Done, answered, Controller, Linked}
use Rattle.world_model.specs.gsmp_wire.declared.message.Message.{Message}
use Rattle.law_port_facts.specs.ordered_lists.Ordered.{Every}
use Rattle.law_controller.specs.law_controller_facts.Sound.{IsDesk}
use Rattle.law_controller.specs.Order.{IsOrderly}
use Rattle.law_live_mirrors.specs.Standing.{StandsAlone}

-- *Once its switch is met*, of a controller with ports of links
abbrev pub DesksStandAlone : Type 0
DesksStandAlone = (c : Controller) (message : Message) (s : Standing) → IsDesk c → IsOrderly c → c.has_met ≡ true
    → Every (λ (linked : Linked). linked.setup.port.0 ≢ 0) c.ports → answered c.desk message ≡ Done s → StandsAlone c.desk s
