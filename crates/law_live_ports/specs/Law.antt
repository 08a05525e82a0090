-- What a tick of a node at peace leaves of each of its ports, as the other end of the port's link sees it

use Rattle.std.specs.Prelude.{◌≡◌, ◌+◌, ◌≤◌, flat_map, length, Option, Some}
use Rattle.live_model.specs.world_model.Words.{PortNo, last_transaction, Linked, inputs_at, linked_at}
use Rattle.live_model.specs.world_model.Controller.{Acted}
use Rattle.live_model.specs.world_model.Ticks.{ticks}
use Rattle.law_live_nodes.specs.Law.{IsNodeAtPeace, ticked_port}
use Rattle.law_live_unseen.specs.Law.{AreAlike}

-- *A join may be asked* of each label: transaction numbers are left
abbrev pub MayJoinAll : Acted → Type 0
MayJoinAll a = a.controller.desk.next + length (flat_map inputs_at a.controller.ports) ≤ last_transaction

-- *A port is left* as its own tick leaves it, but for joins, which the other end doesn't see
pub record IsLeft (before : Linked) (now : Option Linked) : Type 0 where
  pub linked : Linked
  pub there : now ≡ Some linked
  pub setup : linked.setup ≡ before.setup
  pub alike : AreAlike (ticked_port before).port linked.port

abbrev pub PortsAreLeft : Type 0
PortsAreLeft = (a : Acted) (port : PortNo) (linked : Linked) → IsNodeAtPeace a → MayJoinAll a → linked_at a.controller port ≡ Some linked
    → IsLeft linked (linked_at (ticks a).controller port)

-- and the node goes by its address
abbrev pub AddressesStay : Type 0
AddressesStay = (a : Acted) → IsNodeAtPeace a → MayJoinAll a → (ticks a).controller.address ≡ a.controller.address
