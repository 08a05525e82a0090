-- A controller and its switch that have met stay met by what is calm, and say nothing else

use Rattle.std.specs.Prelude.{◌≡◌, ◌≢◌, ℕ, ◌<◌, true, List, Ok}
use Rattle.live_model.specs.world_model.Words.{Party, Side, FitsParty, Mark, last_transaction, is_request, tick_comes, frame_holds}
use Rattle.live_model.specs.world_model.adjacency_table.Table.{silence_limit}
use Rattle.live_model.specs.world_model.gsmp_wire.declared.message.Message.{Message}
use Rattle.live_model.specs.world_model.gsmp_wire.Layout.{octets_of}
use Rattle.live_model.specs.world_model.gsmp_wire.Fields.{decoded}
use Rattle.live_model.specs.world_model.Switch.{ActedSwitch}
use Rattle.live_model.specs.world_model.Conduct.{message_heard, says}
use Rattle.live_model.specs.world_model.Controller.{Acted}
use Rattle.live_model.specs.world_model.Cells.{Taker, ForGsmp}
use Rattle.live_model.specs.world_model.Gsmp.{message_comes}
use Rattle.live_model.specs.world_model.Ticks.{ticks}
use Rattle.live_model.specs.Met.{HaveMet}
use Rattle.law_live_control.specs.Calm.{ack, IsCalmDown, IsCalmUp, IsCarriedOut, GoesOn, aged, SwitchGoesOn, Says, ControllerGoesOn, HasLinks}

-- *Two sides that go on have met still*
abbrev pub SidesStayMet : Type 0
SidesStayMet = (one other one_after other_after : Side Party) → HaveMet one other → GoesOn one one_after → GoesOn other other_after
    → HaveMet one_after other_after

-- *What is read in the octets of a calm message* is calm
pub record CalmIsRead : Type 0 where
  pub down : (controller switch : Party) (message read : Message) → FitsParty controller → FitsParty switch
      → IsCalmDown controller switch message → decoded (octets_of message) ≡ Ok read → IsCalmDown controller switch read
  pub up : (controller switch : Party) (message read : Message) → FitsParty controller → FitsParty switch
      → IsCalmUp controller switch message → decoded (octets_of message) ≡ Ok read → IsCalmUp controller switch read

-- *A switch* that has met its controller hears a calm message, goes on, and says nothing or one calm message, where it
-- carries out what it is asked
abbrev pub SwitchesHearCalmly : Type 0
SwitchesHearCalmly = (controller : Side Party) (a : ActedSwitch) (message : Message) → HaveMet controller a.switch.adjacency
    → IsCalmDown controller.own a.switch.adjacency.own message → (is_request message ≡ true → IsCarriedOut a.switch message)
    → SwitchGoesOn (IsCalmUp controller.own a.switch.adjacency.own) a (message_heard a message)

-- at a tick below the limit of its silence it says its ACK
abbrev pub SwitchesTickCalmly : Type 0
SwitchesTickCalmly = (controller : Side Party) (a : ActedSwitch) → HaveMet controller a.switch.adjacency → a.switch.adjacency.silence < silence_limit
    → tick_comes a ≡ says (record a { switch = record a.switch { adjacency = aged a.switch.adjacency } }) (ack a.switch.adjacency.own controller.own)

-- *A controller* that has met its switch hears a calm message and goes on, and says calm messages alone, unless its
-- transaction numbers are spent: behind it the next one is the last
abbrev pub IsUnspent : Acted → Type 0
IsUnspent after = after.controller.desk.next ≢ last_transaction

abbrev pub ControllersHearCalmly : Type 0
ControllersHearCalmly = (a : Acted) (switch : Side Party) (message : Message) → HaveMet a.controller.adjacency switch → HasLinks a.controller
    → IsCalmUp a.controller.adjacency.own switch.own message → IsUnspent (message_comes a message)
    → ControllerGoesOn (IsCalmDown a.controller.adjacency.own switch.own) a (message_comes a message)

-- so it does at each frame that comes, whoever takes it: on the GSMP channel one in which nothing else is read, and on the
-- other channels any, under the mark of a packet or a control mark
abbrev pub FramesComeCalmly : Type 0
FramesComeCalmly = (a : Acted) (switch : Side Party) (taker : Taker) (mark : Mark) (payload : List ℕ)
    → HaveMet a.controller.adjacency switch → HasLinks a.controller → (mark.packet ≡ 0 → 0 < mark.frame)
    → (taker ≡ ForGsmp → (message : Message) → decoded payload ≡ Ok message → IsCalmUp a.controller.adjacency.own switch.own message)
    → IsUnspent (frame_holds a taker mark payload)
    → ControllerGoesOn (IsCalmDown a.controller.adjacency.own switch.own) a (frame_holds a taker mark payload)

-- and at a tick below the limit of its silence
pub record TicksOn (Calm : Message → Type 0) (a after : Acted) : Type 0 where
  pub side : after.controller.adjacency ≡ aged a.controller.adjacency
  pub says : Says Calm a after

abbrev pub ControllersTickCalmly : Type 0
ControllersTickCalmly = (a : Acted) (switch : Side Party) → HaveMet a.controller.adjacency switch → HasLinks a.controller
    → a.controller.adjacency.silence < silence_limit → IsUnspent (ticks a)
    → TicksOn (IsCalmDown a.controller.adjacency.own switch.own) a (ticks a)
