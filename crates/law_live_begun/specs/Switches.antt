-- A switch before the first packet enters: it goes on so, carries out each request, and keeps what its default channels lead to, unless all of
-- a port is deleted

use Rattle.std.specs.Prelude.{◌≡◌, true, Some}
use Rattle.world_model.specs.Words.{End, Switch, is_request, tick_comes}
use Rattle.world_model.specs.crossbar_model.Crossbar.{output_of}
use Rattle.world_model.specs.Switch.{ActedSwitch}
use Rattle.world_model.specs.Conduct.{message_heard}
use Rattle.world_model.specs.gsmp_wire.declared.message.Message.{Message}
use Rattle.law_live_ease.specs.law_live_control.Calm.{SaysAtMost, IsCarriedOut}
use Rattle.law_live_ease.specs.law_live_ways.Deleting.{DeletesNone}
use Rattle.law_live_begun.specs.First.{Start, FitsStart, AreFirstFrames, IsFirstSwitch, IsFirstDown, IsFirstUp}

-- *It goes on*, and says nothing or one message
pub record SwitchGoesOn (start : Start) (a after : ActedSwitch) : Type 0 where
  pub switch : IsFirstSwitch start after.switch
  pub heard : ActedSwitch
  pub queues : heard.switch.crossbar.queues ≡ a.switch.crossbar.queues
  pub notes : heard.notes.frames ≡ a.notes.frames
  pub marks : heard.numbers.controls ≡ a.numbers.controls
  pub says : SaysAtMost (IsFirstUp start) heard after
  pub frames : AreFirstFrames a.notes.frames → AreFirstFrames after.notes.frames

pub record SwitchesGoOn : Type 0 where
  pub ticks : (start : Start) (a : ActedSwitch) → FitsStart start → IsFirstSwitch start a.switch → SwitchGoesOn start a (tick_comes a)
  pub hear : (start : Start) (a : ActedSwitch) (message : Message) → FitsStart start → IsFirstSwitch start a.switch → IsFirstDown start message
      → SwitchGoesOn start a (message_heard a message)
  pub carry_out : (start : Start) (s : Switch) (message : Message) → FitsStart start → IsFirstSwitch start s → IsFirstDown start message → is_request message ≡ true
      → IsCarriedOut s message
  pub keep : (start : Start) (a : ActedSwitch) (message : Message) (input output : End) → FitsStart start → IsFirstSwitch start a.switch → IsFirstDown start message
      → DeletesNone message → output_of a.switch.crossbar.branches input ≡ Some output
      → output_of (message_heard a message).switch.crossbar.branches input ≡ Some output
