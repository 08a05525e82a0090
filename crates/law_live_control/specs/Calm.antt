-- What a controller and its switch that have met say to each other (RFC 1987), and what of it leaves their sides as they are

use Rattle.std.specs.Prelude.{◌≡◌, ℕ, ◌+◌, ◌≤◌, true, List, ◌++◌, None, Some}
use Rattle.live_model.specs.world_model.Words.{PortNo, Party, Ack, Side, Cell, Frame, payload_of, failure_of, asked_in, is_request, Switch, default_channel, same_channel, hop_of, On, Controller, Linked}
use Rattle.live_model.specs.world_model.gsmp_wire.declared.message.Message.{Message}
use Rattle.live_model.specs.world_model.gsmp_wire.declared.message.Message.TheVariants.{Adjacency}
use Rattle.live_model.specs.world_model.gsmp_wire.Layout.{octets_of}
use Rattle.live_model.specs.world_model.switch_model.declared.request.Asked.{Asked}
use Rattle.live_model.specs.world_model.switch_model.Requests.{result_of}
use Rattle.live_model.specs.world_model.Switch.{ActedSwitch}
use Rattle.live_model.specs.world_model.Conduct.{says}
use Rattle.live_model.specs.world_model.Controller.{Acted}
use Rattle.law_port_facts.specs.ordered_lists.Ordered.{Every}

-- *The ACK* of one party to another
abbrev pub ack : (own far : Party) → Message
ack own far = Adjacency (record { kind = Ack; sender = own; receiver = far })

-- *Calm messages*: down, the controller's ACK to its switch, or a request; up, the switch's ACK to its controller, or an
-- answer of success. An answer of failure isn't calm, since it resets the node
pub data IsCalmDown (controller switch : Party) : Message → Type 0 where
  greets_switch : IsCalmDown controller switch (ack controller switch)
  asks_switch : (message : Message) → is_request message ≡ true → IsCalmDown controller switch message

pub data IsCalmUp (controller switch : Party) : Message → Type 0 where
  greets_controller : IsCalmUp controller switch (ack switch controller)
  answers_controller : (message : Message) → result_of message ≡ 3 → IsCalmUp controller switch message

-- a request that the switch carries out: none of the failures applies
abbrev pub IsCarriedOut : Switch → Message → Type 0
IsCarriedOut s message = (asked : Asked) → asked_in message ≡ Some asked → failure_of s.ports s.vpis s.crossbar.branches asked ≡ None

-- *A side goes on* as it was, but that it may have heard its peer; at a tick it ages by one
pub record GoesOn {P : Type 0} (before after : Side P) : Type 0 where
  pub state : after.state ≡ before.state
  pub own : after.own ≡ before.own
  pub stored : after.stored ≡ before.stored
  pub silence : after.silence ≤ before.silence

abbrev pub aged : {P : Type 0} → Side P → Side P
aged side = record side { silence = side.silence + 1 }

-- *A switch says* nothing, or one message
pub data SaysAtMost (Calm : Message → Type 0) (heard : ActedSwitch) : ActedSwitch → Type 0 where
  nothing : SaysAtMost Calm heard heard
  one : (message : Message) → Calm message → SaysAtMost Calm heard (says heard message)

-- when it has heard, and made and sent nothing yet
pub record SwitchGoesOn (Calm : Message → Type 0) (a after : ActedSwitch) : Type 0 where
  pub heard : ActedSwitch
  pub side : GoesOn a.switch.adjacency heard.switch.adjacency
  pub queues : heard.switch.crossbar.queues ≡ a.switch.crossbar.queues
  pub frames : heard.notes.frames ≡ a.notes.frames
  pub numbers : heard.numbers ≡ a.numbers
  pub says : SaysAtMost Calm heard after

-- *A cell of a calm message*: that is what was made under its mark
pub record IsOfCalm (Calm : Message → Type 0) (frames : List Frame) (cell : Cell) : Type 0 where
  pub message : Message
  pub calm : Calm message
  pub made : payload_of frames cell.mark ≡ Some (octets_of message)

-- *A controller says calm messages alone*: behind what waited for its switch stand cells, and those on the GSMP channel are
-- of such messages. It is the same node
abbrev pub IsCalmCell : (Calm : Message → Type 0) → List Frame → Cell → Type 0
IsCalmCell Calm frames cell = same_channel cell.header.channel default_channel ≡ true → IsOfCalm Calm frames cell

pub record Says (Calm : Message → Type 0) (a after : Acted) : Type 0 where
  pub node : after.controller.node ≡ a.controller.node
  pub later : List Cell
  pub queue : after.controller.queue ≡ a.controller.queue ++ later
  pub calm : Every (IsCalmCell Calm after.notes.frames) later

pub record ControllerGoesOn (Calm : Message → Type 0) (a after : Acted) : Type 0 where
  pub side : GoesOn a.controller.adjacency after.controller.adjacency
  pub says : Says Calm a after

-- *Ports of links* are from 1 on: those that it has, and those of its routes
pub record HasLinks (c : Controller) : Type 0 where
  pub ports : Every (λ (linked : Linked). 1 ≤ linked.setup.port.0) c.ports
  pub routes : (packet : List ℕ) (port : PortNo) → hop_of c.table packet ≡ On port → 1 ≤ port.0
