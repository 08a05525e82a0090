-- What a tick, and a greeting that is heard, make of the side of a port and of a switch, and a greeting of that of a
-- controller, and what it says

use Rattle.std.specs.Prelude.{◌≡◌, ℕ, ◌+◌, true, false, nat_le, List, [], ◌∷◌, ◌++◌, length, None, Some}
use Rattle.std.specs.Option.{option_map_or}
use Rattle.world_model.specs.Words.{Addr, Hello, Peer, Party, Said, Answer, Quiet, Send, Open, Side, Step, fresh, ticked, ifmp_received, gsmp_received, greeting_of, hello_of, Opened, Desk, Setup, Work, hears, resets, Cell, default_channel, frame_cells, next_control, next_instance, tick_comes}
use Rattle.world_model.specs.adjacency_table.declared.message.Answer.TheVariants.{Reset}
use Rattle.world_model.specs.crossbar_model.Crossbar.{sent}
use Rattle.world_model.specs.ifmp_wire.declared.message.Message.TheVariants as ifmp_messages
use Rattle.world_model.specs.gsmp_wire.declared.message.Message.TheVariants as gsmp_messages
use Rattle.world_model.specs.gsmp_wire.Layout.{octets_of}
use Rattle.world_model.specs.port_model.declared.action.Action.{Action}
use Rattle.world_model.specs.port_model.declared.action.Action.TheVariants as actions
use Rattle.world_model.specs.port_model.Ticks.{ticks}
use Rattle.world_model.specs.controller_model.Controller as Controller
use Rattle.world_model.specs.controller_model.Controller.{Acted}
use Rattle.world_model.specs.controller_model.Gsmp.{message_comes}
use Rattle.world_model.specs.switch_model.Conduct.{message_heard}
use Rattle.world_model.specs.Switch.{ActedSwitch, control_port, free_slots, gsmp_channel}
use Rattle.law_live_meetings.specs.Exchange.{ifmp, gsmp, side_after, said_in}

-- *A port* says what its side answers, with the number that it expects; it begins a session where the adjacency is open, and
-- asks to be reset where that is over
abbrev pub done_by : Setup → (expected : ℕ) → Answer (Said Peer) Peer → List Action
done_by setup expected Quiet = []
done_by setup expected (Send message) = actions.Say (ifmp_messages.Adjacency (hello_of expected message)) ∷ []
done_by setup expected (Open None own) = actions.Note (Opened setup.node setup.port) ∷ []
done_by setup expected (Open (Some message) own) =
    actions.Say (ifmp_messages.Adjacency (hello_of expected message)) ∷ actions.Note (Opened setup.node setup.port) ∷ []
done_by setup expected Reset = actions.Reset ∷ []

-- so it does by a step of the table, before all else
pub record HasDone (setup : Setup) (before after : Work) (step : Step Peer) : Type 0 where
  pub side : after.port.adjacency ≡ step.side
  pub later : List Action
  pub actions : after.actions
      ≡ before.actions ++ (done_by setup (option_map_or (λ s. s.expected) before.port.session 1) step.answer ++ later)

-- at a tick, whatever state it is in, and at a greeting that it hears
abbrev pub PortsTick : Type 0
PortsTick = (setup : Setup) (desk : Desk) (w : Work) → w.halted ≡ false
    → HasDone setup w (ticks setup desk w) (ticked w.port.adjacency)

abbrev pub PortsHear : Type 0
PortsHear = (setup : Setup) (desk : Desk) (w : Work) (source : Addr) (hello : Hello) → w.halted ≡ false
    → HasDone setup w (hears setup desk w source (ifmp_messages.Adjacency hello)) (ifmp_received w.port.adjacency source hello)

-- and as it is reset its side begins anew, under the next instance
abbrev pub PortsBegin : Type 0
PortsBegin = (setup : Setup) (w : Work)
    → (resets setup w).port.adjacency ≡ fresh ifmp.first (record { instance = record { 0 = w.instances + 1 }; address = setup.address })

-- *A switch* too, but that it is reset at once; its message is put whole into the queue of its control port, where slots
-- are free for it
abbrev pub drawn_by : ActedSwitch → Side Party → Party
drawn_by a side = record side.own { instance = next_instance a.numbers }

abbrev pub PutsInto : ActedSwitch → (after : ActedSwitch) → Said Party → Type 0
PutsInto a after message =
    let cells = frame_cells gsmp_channel (next_control a.numbers) (octets_of (gsmp_messages.Adjacency (greeting_of message))) in
    nat_le (length cells) (free_slots a.switch) ≡ true → after.switch.crossbar ≡ sent a.switch.crossbar control_port cells

pub record HasTurned (a after : ActedSwitch) (step : Step Party) : Type 0 where
  pub side : after.switch.adjacency ≡ side_after (fresh gsmp.first (drawn_by a step.side)) step.answer step.side
  pub says : (message : Said Party) → said_in step.answer ≡ message ∷ [] → PutsInto a after message

abbrev pub SwitchesTick : Type 0
SwitchesTick = (a : ActedSwitch) → HasTurned a (tick_comes a) (ticked a.switch.adjacency)

abbrev pub SwitchesHear : Type 0
SwitchesHear = (a : ActedSwitch) (message : Said Party)
    → HasTurned a (message_heard a (gsmp_messages.Adjacency (greeting_of message))) (gsmp_received a.switch.adjacency (greeting_of message))

-- *A controller* too, towards its switch: there a reset is that of its node, and on entering Estab it says its message
-- before it asks for anything
pub record PutsFirst (a after : Acted) (cells : List Cell) : Type 0 where
  pub later : List Cell
  pub queue : after.controller.queue ≡ a.controller.queue ++ (cells ++ later)

abbrev pub PutsDown : Acted → (after : Acted) → Said Party → Type 0
PutsDown a after message =
    let cells = frame_cells default_channel (next_control a.numbers) (octets_of (gsmp_messages.Adjacency (greeting_of message))) in
    nat_le (length cells) (Controller.free_slots a.controller) ≡ true → PutsFirst a after cells

pub record HasAnswered (a after : Acted) (step : Step Party) : Type 0 where
  pub side : after.controller.adjacency
      ≡ side_after (fresh gsmp.first (record step.side.own { instance = next_instance a.numbers })) step.answer step.side
  pub says : (message : Said Party) → said_in step.answer ≡ message ∷ [] → PutsDown a after message

abbrev pub ControllersHear : Type 0
ControllersHear = (a : Acted) (message : Said Party)
    → HasAnswered a (message_comes a (gsmp_messages.Adjacency (greeting_of message))) (gsmp_received a.controller.adjacency (greeting_of message))
