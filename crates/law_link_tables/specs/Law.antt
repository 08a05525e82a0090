-- What comes to a controller that is up with its switch leaves one of its ports as the port's table knows it

use Rattle.std.specs.Prelude.{◌≡◌, ◌≢◌, ℕ, ◌<◌, true, List, [], ◌++◌, Some}
use Rattle.world_model.specs.Words.{PortNo, Peer, Said, Side, Step, Mark, Cell, Hello, fresh, received, hello_of, ifmp_of, is_estab, default_home, hears, at_port, injected, IsLinkPort, Linked, linked_at, ForGsmp, ForDefault, ForLabel, frame_holds}
use Rattle.world_model.specs.ifmp_wire.declared.message.Message.TheVariants.{Adjacency}
use Rattle.world_model.specs.Controller.{Acted}
use Rattle.world_model.specs.Cells.{Taker}
use Rattle.law_live_woken_links.specs.law_frame_readings.Reading.{IsForwarded}
use Rattle.law_live_woken_links.specs.law_live_meetings.Exchange.{ifmp, heard, cleared_state, side_after, said_in}
use Rattle.law_live_woken_links.specs.law_live_orders.Law.{last_marks}
use Rattle.law_live_unsaid.specs.Law.{SendsByLabels, HoldsPacket}
use Rattle.law_live_woken_links.specs.law_live_waking_links.Hellos.{Greet}
use Rattle.law_live_woken_links.specs.law_live_waking_links.Law.{NamesIt}

-- *A side is left so*: it stays, hears its peer in another way than by a greeting, or is cleared; or it began anew, under an instance that
-- was drawn since
pub data IsLeft (given : ℕ) (side : Side Peer) : Side Peer → Type 0 where
  stays : IsLeft given side side
  hears_else : IsLeft given side (record side { silence = 0 })
  is_cleared : IsLeft given side (record side { state = cleared_state side.state })
  began : (now : Side Peer) → given < now.own.instance.0 → IsLeft given side now

-- *By a step of the table*, or it began anew so
pub data IsStepped (given : ℕ) (step : Step Peer) : Side Peer → Type 0 where
  by_table : (drawn : Peer) → IsStepped given step (side_after (fresh ifmp.first drawn) step.answer step.side)
  begins : (own : Peer) → given < own.instance.0 → IsStepped given step (fresh ifmp.first own)

-- *The port is left so*, and what its controller sends on the port's default channel greets so
pub record LeavesPort (port : PortNo) (a b : Acted) (R : Side Peer → Type 0) (said : List (Said Peer)) : Type 0 where
  pub now : Linked
  pub is : linked_at b.controller port ≡ Some now
  pub side : R now.port.adjacency
  pub later : List Cell
  pub queue : b.controller.queue ≡ a.controller.queue ++ later
  pub greets : Greet a.controller.address b.notes.frames (last_marks (default_home port).channel later) said

-- *The node is up* with its switch before and behind it, and the ledger is as it was
pub record IsKept (a b : Acted) : Type 0 where
  pub up : is_estab a.controller.adjacency.state ≡ true
  pub up_then : is_estab b.controller.adjacency.state ≡ true
  pub unlost : b.notes.entries ≡ a.notes.entries

-- *A greeting that is heard* is a step of the table
abbrev pub hears_greeting : (a : Acted) (port : PortNo) (message : Said Peer) (next : ℕ) → Acted
hears_greeting a port message next = at_port a port (λ setup desk w. hears setup desk w message.sender.address (Adjacency (hello_of next message)))

abbrev pub step_at : Linked → Said Peer → Step Peer
step_at linked message = received ifmp.same linked.port.adjacency (heard ifmp message)

pub record TakesGreeting (port : PortNo) (a b : Acted) (linked : Linked) (message : Said Peer) : Type 0 where
  pub leaves : LeavesPort port a b (IsStepped a.numbers.instances (step_at linked message)) (said_in (step_at linked message).answer)
  pub address : b.controller.address ≡ a.controller.address

abbrev pub GreetingsAreSteps : Type 0
GreetingsAreSteps = (port : PortNo) (a : Acted) (linked : Linked) (message : Said Peer) (next : ℕ) → IsLinkPort port → linked_at a.controller port ≡ Some linked
    → linked.port.adjacency.own.address ≡ a.controller.address → NamesIt linked message → IsKept a (hears_greeting a port message next)
    → TakesGreeting port a (hears_greeting a port message next) linked message

-- *No greeting of its peer* is in a frame: on the port's own default channel it is read as none; what comes on a label's channel are packets
-- that may be sent on; and whatever comes on other default channels, and of the switch
abbrev pub GreetsNoPort : PortNo → Taker → (payload : List ℕ) → Type 0
GreetsNoPort port ForGsmp payload = Unit {0}
GreetsNoPort port (ForDefault q) payload = q.setup.port.0 ≡ port.0 → (hello : Hello) → ifmp_of payload ≢ Some (Adjacency hello)
GreetsNoPort port (ForLabel q label) payload = HoldsPacket label payload

abbrev pub OtherFramesLeavePorts : Type 0
OtherFramesLeavePorts = (port : PortNo) (a : Acted) (taker : Taker) (mark : Mark) (payload : List ℕ) (linked : Linked) → IsLinkPort port → SendsByLabels a.controller
    → (mark.packet ≡ 0 → 0 < mark.frame) → linked_at a.controller port ≡ Some linked → GreetsNoPort port taker payload → IsKept a (frame_holds a taker mark payload)
    → LeavesPort port a (frame_holds a taker mark payload) (IsLeft a.numbers.instances linked.port.adjacency) []

-- *A packet that enters* leaves it as it is
abbrev pub EntriesLeavePorts : Type 0
EntriesLeavePorts = (port : PortNo) (a : Acted) (number : ℕ) (packet : List ℕ) (linked : Linked) → IsLinkPort port → SendsByLabels a.controller → 0 < number
    → linked_at a.controller port ≡ Some linked → IsForwarded packet → LeavesPort port a (injected a number packet) (IsLeft a.numbers.instances linked.port.adjacency) []
