-- What a controller that is up with its switch hears of the switch leaves a port as its table knows it: as it is, or cleared

use Rattle.std.specs.Prelude.{◌≡◌, ℕ, ◌<◌, true, List, [], ◌++◌, Some}
use Rattle.world_model.specs.Words.{PortNo, Peer, Side, Cell, is_estab, default_home, IsLinkPort, Linked, linked_at}
use Rattle.world_model.specs.gsmp_wire.declared.message.Message.{Message}
use Rattle.world_model.specs.Controller.{Acted}
use Rattle.world_model.specs.Gsmp.{message_comes}
use Rattle.law_live_waking_links.specs.law_live_meetings.Exchange.{cleared_state}
use Rattle.law_live_waking_links.specs.law_live_orders.Law.{last_marks}
use Rattle.law_live_waking_links.specs.Hellos.{Greet}

-- *A side stays, or is cleared*; or it began anew, under an instance that was drawn since
pub data SwitchLeaves (given : ℕ) (side : Side Peer) : Side Peer → Type 0 where
  stays : SwitchLeaves given side side
  is_cleared : SwitchLeaves given side (record side { state = cleared_state side.state })
  began : (now : Side Peer) → given < now.own.instance.0 → SwitchLeaves given side now

-- *The port is left so*, and what its controller sends on the port's default channel greets nobody
pub record HearsSwitch (port : PortNo) (a b : Acted) (linked : Linked) : Type 0 where
  pub now : Linked
  pub is : linked_at b.controller port ≡ Some now
  pub setup : now.setup ≡ linked.setup
  pub side : SwitchLeaves a.numbers.instances linked.port.adjacency now.port.adjacency
  pub later : List Cell
  pub queue : b.controller.queue ≡ a.controller.queue ++ later
  pub greets_nobody : Greet a.controller.address b.notes.frames (last_marks (default_home port).channel later) []

-- *Whatever the switch says*, where the node is up before and behind it and the ledger is as it was
abbrev pub SwitchesAreHeard : Type 0
SwitchesAreHeard = (port : PortNo) (a : Acted) (message : Message) (linked : Linked) → IsLinkPort port → linked_at a.controller port ≡ Some linked
    → is_estab a.controller.adjacency.state ≡ true → is_estab (message_comes a message).controller.adjacency.state ≡ true
    → (message_comes a message).notes.entries ≡ a.notes.entries → HearsSwitch port a (message_comes a message) linked
