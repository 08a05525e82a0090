-- A controller before the first packet enters: it goes on so, whatever comes, and whoever is reset

use Rattle.std.specs.Prelude.{◌≡◌, ℕ, true, false, List, [], Ok}
use Rattle.world_model.specs.Words.{Mark, is_estab, is_clearing, ForGsmp, ForDefault, frame_holds, Controller, Linked}
use Rattle.world_model.specs.Controller.{Acted}
use Rattle.world_model.specs.Cells.{Taker}
use Rattle.world_model.specs.Ticks.{ticks}
use Rattle.world_model.specs.gsmp_wire.declared.message.Message.{Message}
use Rattle.world_model.specs.gsmp_wire.Fields.{decoded}
use Rattle.law_link_parties.specs.law_run_facts.law_controller_facts.Sound.{IsSound}
use Rattle.law_link_parties.specs.law_run_facts.law_controller.Order.{IsOrderly}
use Rattle.world_model.specs.port_model.Setup.{Setup}
use Rattle.law_link_parties.specs.law_run_facts.ordered_lists.Ordered.{Every}
use Rattle.law_live_ease.specs.law_live_control.Calm.{Says}
use Rattle.law_live_begun.specs.First.{Start, FitsStart, AreFirstFrames, IsFirstController, IsFirstDown, IsFirstUp, IsReady}
use Rattle.law_live_begun.specs.Codec.{GreetsAtMost}

-- *What comes*: from its switch what that says, and from a peer greetings at most
pub data IsFirstHeard (start : Start) : Taker → (payload : List ℕ) → Type 0 where
  from_switch : (payload : List ℕ) → ((message : Message) → decoded payload ≡ Ok message → IsFirstUp start message) → IsFirstHeard start ForGsmp payload
  from_peer : (linked : Linked) (payload : List ℕ) → GreetsAtMost payload → IsFirstHeard start (ForDefault linked) payload

-- *It goes on*, and says what is said then
pub record GoesOn (start : Start) (a after : Acted) : Type 0 where
  pub controller : IsFirstController start after.controller
  pub says : Says (IsFirstDown start) a after
  pub frames : AreFirstFrames a.notes.frames → AreFirstFrames after.notes.frames

pub record ControllersGoOn : Type 0 where
  pub ticks : (start : Start) (a : Acted) → FitsStart start → IsFirstController start a.controller → GoesOn start a (ticks a)
  pub frames : (start : Start) (a : Acted) (taker : Taker) (mark : Mark) (payload : List ℕ) → FitsStart start → IsFirstController start a.controller
      → IsFirstHeard start taker payload → GoesOn start a (frame_holds a taker mark payload)

-- *It stays ready*, and has met its switch still unless the two lose each other
pub record StaysReady (a after : Acted) : Type 0 where
  pub ready : IsReady after.controller
  pub met : is_estab after.controller.adjacency.state ≡ true → a.controller.has_met ≡ true → after.controller.has_met ≡ true

pub record ControllersStayReady : Type 0 where
  pub ticks : (start : Start) (setups : List Setup) (a : Acted) → FitsStart start → IsSound setups a.controller → IsOrderly a.controller → IsFirstController start a.controller
      → IsReady a.controller → StaysReady a (ticks a)
  pub frames : (start : Start) (setups : List Setup) (a : Acted) (taker : Taker) (mark : Mark) (payload : List ℕ) → FitsStart start → IsSound setups a.controller
      → IsOrderly a.controller → IsFirstController start a.controller → IsFirstHeard start taker payload → IsReady a.controller
      → StaysReady a (frame_holds a taker mark payload)

-- *Where nothing stands* at the desk of one in Estab, it has met its switch, and none of its ports waits to be cleared
pub record IsClearedController (c : Controller) : Type 0 where
  pub has_met : c.has_met ≡ true
  pub clear : Every (λ (linked : Linked). is_clearing linked.port.adjacency.state ≡ false) c.ports

abbrev pub NothingIsAwaited : Type 0
NothingIsAwaited = (c : Controller) → is_estab c.adjacency.state ≡ true → c.desk.standing ≡ [] → IsReady c → IsClearedController c
