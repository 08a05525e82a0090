-- Where transaction numbers are left, what a controller hears resets no node

use Rattle.std.specs.Prelude.{◌≡◌, ◌≢◌, ℕ, ◌+◌, ◌≤◌, ◌==◌, false, true, Bool, List, [], drop, length, Option, None, Some, Result, Ok, Err}
use Rattle.std.specs.List.{sum_by}
use Rattle.world_model.specs.Words.{PortNo, End, Mark, HelloKind, Greeting, Rstack, control_protocol, protocol_of, source_of, PacketFault, EncapsFault, default_unwrapped, Request, MoveBranch, Action, Ask, TakeBack, last_transaction, Answered, Unknown, Done, Ports, Failed, answered, is_spent, Work, counts, hears, Linked, linked_at, begins, ForGsmp, ForDefault, ForLabel, frame_holds}
use Rattle.world_model.specs.ipv4_packet.Packet.{first_fault}
use Rattle.world_model.specs.ifmp_wire.Fields.{decoded as ifmp_decoded}
use Rattle.world_model.specs.ifmp_wire.declared.message.Message.{Message as IfmpMessage}
use Rattle.world_model.specs.ifmp_wire.declared.reader.Fault.{Fault as IfmpFault}
use Rattle.world_model.specs.gsmp_wire.Fields.{decoded as gsmp_decoded}
use Rattle.world_model.specs.gsmp_wire.declared.fault.Fault.{Fault}
use Rattle.world_model.specs.gsmp_wire.declared.message.Message.{Message}
use Rattle.world_model.specs.gsmp_wire.declared.message.Message.TheVariants as messages
use Rattle.world_model.specs.port_model.declared.action.Action.TheVariants.{Reset}
use Rattle.world_model.specs.Controller.{Acted}
use Rattle.world_model.specs.Cells.{Taker}
use Rattle.law_port_facts.specs.ordered_lists.Ordered.{Every}
use Rattle.law_live_others.specs.Law.{IsUp}

-- *Numbers that a port may take* by what it asks: one for a request, and one for a join that is taken back; by its reset one for each
-- of its grants, and one for Delete All
abbrev pub numbers_of : (grants : ℕ) → Action → ℕ
numbers_of grants (Ask request needed) = 1
numbers_of grants (TakeBack input output) = 1
numbers_of grants Reset = grants + 1
numbers_of grants action = 0

abbrev pub numbers_for : Work → ℕ
numbers_for w = sum_by (numbers_of (length w.port.grants)) w.actions

-- *What a port does* at what comes on its default channel
abbrev pub work_told : Acted → Linked → (packet : List ℕ) → Result IfmpMessage IfmpFault → Work
work_told a linked packet (Err fault) = begins a linked
work_told a linked packet (Ok message) = hears linked.setup a.controller.desk (begins a linked) (source_of packet) message

abbrev pub work_as : Acted → Linked → (packet : List ℕ) → (is_message : Bool) → Work
work_as a linked packet true = work_told a linked packet (ifmp_decoded (drop 20 packet))
work_as a linked packet false = counts linked.setup a.controller.desk (begins a linked) packet

abbrev pub work_by : Acted → Linked → (packet : List ℕ) → Option PacketFault → Work
work_by a linked packet (Some fault) = begins a linked
work_by a linked packet None = work_as a linked packet (protocol_of packet == control_protocol)

abbrev pub work_at : Acted → Linked → Result (List ℕ) EncapsFault → Work
work_at a linked (Err fault) = begins a linked
work_at a linked (Ok packet) = work_by a linked packet (first_fault packet)

-- *A join was made*, where no change of routes waits, and no port's numbers are spent: Move Branch to a link has succeeded
pub record IsJoinMade (a : Acted) (request : Request) : Type 0 where
  pub input : End
  pub from : End
  pub to : End
  pub is : request ≡ MoveBranch input from to
  pub to_link : to.port.0 ≢ 0
  pub none_waits : a.controller.waiting ≡ []
  pub unspent : Every (λ (linked : Linked). is_spent linked.port.session ≡ false) a.controller.ports

abbrev pub IsHarmlessAnswer : Acted → Answered → Type 0
IsHarmlessAnswer a Unknown = Unit {0}
IsHarmlessAnswer a (Done s) = IsJoinMade a s.request
IsHarmlessAnswer a (Ports s rows) = ⊥
IsHarmlessAnswer a (Failed s code) = ⊥

-- *What the switch says* is harmless where it is refused, a greeting but RSTACK, answers nothing, or is the success of a join
abbrev pub IsHarmlessMessage : Acted → Message → Type 0
IsHarmlessMessage a (messages.Adjacency greeting) = greeting.kind ≢ Rstack
IsHarmlessMessage a message = IsHarmlessAnswer a (answered a.controller.desk message)

abbrev pub IsHarmless : Acted → Result Message Fault → Type 0
IsHarmless a (Err fault) = Unit {0}
IsHarmless a (Ok message) = IsHarmlessMessage a message

-- *Numbers are left* for what a frame makes its controller ask
abbrev pub HasNumbersFor : Acted → Taker → (payload : List ℕ) → Type 0
HasNumbersFor a (ForDefault q) payload =
    (linked : Linked) → linked_at a.controller q.setup.port ≡ Some linked → a.controller.desk.next + numbers_for (work_at a linked (default_unwrapped payload)) ≤ last_transaction
HasNumbersFor a (ForLabel q label) payload = Unit {0}
HasNumbersFor a ForGsmp payload = IsHarmless a (gsmp_decoded payload)

-- *Then the node stays up*
abbrev pub NumbersKeepNodesUp : Type 0
NumbersKeepNodesUp = (a : Acted) (taker : Taker) (mark : Mark) (payload : List ℕ) → IsUp a → HasNumbersFor a taker payload → IsUp (frame_holds a taker mark payload)

-- one number is enough for a packet that is counted, and none is needed where nothing is asked
abbrev pub PacketsTakeOneNumber : Type 0
PacketsTakeOneNumber = (a : Acted) (linked : Linked) (packet : List ℕ) → numbers_for (counts linked.setup a.controller.desk (begins a linked) packet) ≤ 1
