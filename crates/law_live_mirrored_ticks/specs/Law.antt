-- A controller at peace ticks, and its inputs are mirrored still

use Rattle.std.specs.Prelude.{◌≡◌, ◌≢◌, true}
use Rattle.world_model.specs.Words.{is_label_number, Label, labels_of, Linked}
use Rattle.world_model.specs.Controller.{Acted}
use Rattle.world_model.specs.Ticks.{ticks}
use Rattle.law_port_facts.specs.ordered_lists.Ordered.{Every}
use Rattle.law_live_nodes.specs.Law.{IsNodeAtPeace}
use Rattle.law_live_ports.specs.Law.{MayJoinAll}
use Rattle.law_live_mirrors.specs.Asking.{KeepsMirrors}

-- *It ticks* at peace: its labels are of ports of links, and a join may be asked of each
pub record MayTick (a : Acted) : Type 0 where
  pub peace : IsNodeAtPeace a
  pub links : Every (λ (linked : Linked). linked.setup.port.0 ≢ 0) a.controller.ports
  pub labels : Every (λ (linked : Linked). Every (λ (label : Label). is_label_number label.number ≡ true) (labels_of linked.port)) a.controller.ports
  pub joins : MayJoinAll a

abbrev pub TicksKeepMirrors : Type 0
TicksKeepMirrors = (a : Acted) → MayTick a → KeepsMirrors a (ticks a)
