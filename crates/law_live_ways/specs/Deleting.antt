-- A controller asks its switch for no Delete All in an event behind which none stands at its desk, since what is asked stands
-- until it is answered

use Rattle.std.specs.Prelude.{◌≡◌, ℕ, ◌<◌, true, false, List, Some, Ok}
use Rattle.live_model.specs.world_model.Words.{Side, Party, Mark, asked_in, is_deleting, has_emptied, frame_holds}
use Rattle.live_model.specs.world_model.adjacency_table.Table.{silence_limit}
use Rattle.live_model.specs.world_model.gsmp_wire.declared.message.Message.{Message}
use Rattle.live_model.specs.world_model.gsmp_wire.Layout.{octets_of}
use Rattle.live_model.specs.world_model.gsmp_wire.Fields.{decoded}
use Rattle.live_model.specs.world_model.switch_model.declared.request.Asked.{Asked}
use Rattle.live_model.specs.world_model.Controller.{Acted}
use Rattle.live_model.specs.world_model.Cells.{Taker, ForGsmp}
use Rattle.live_model.specs.world_model.Gsmp.{message_comes}
use Rattle.live_model.specs.world_model.Ticks.{ticks}
use Rattle.live_model.specs.Met.{HaveMet}
use Rattle.law_live_control.specs.Calm.{IsCalmUp, Says, HasLinks}
use Rattle.law_live_control.specs.Law.{IsUnspent}

-- *A message that deletes nothing*, but by one input: it isn't of a Delete All
abbrev pub DeletesNone : Message → Type 0
DeletesNone message = (asked : Asked) → asked_in message ≡ Some asked → is_deleting asked.request ≡ false

-- so is what is read in its octets
abbrev pub NoneIsRead : Type 0
NoneIsRead = (message read : Message) → DeletesNone message → decoded (octets_of message) ≡ Ok read → DeletesNone read

-- *Behind the event* no Delete All stands, and the transaction numbers aren't spent, so the node wasn't reset
pub record StandsNone (after : Acted) : Type 0 where
  pub unspent : IsUnspent after
  pub none : has_emptied after.controller ≡ true

-- *A controller that has met its switch* says none then: where it hears what is calm, at each frame, and at a tick
pub record ControllersDeleteNone : Type 0 where
  pub hear : (a : Acted) (switch : Side Party) (message : Message) → HaveMet a.controller.adjacency switch → HasLinks a.controller
      → IsCalmUp a.controller.adjacency.own switch.own message → StandsNone (message_comes a message) → Says DeletesNone a (message_comes a message)
  pub frames : (a : Acted) (switch : Side Party) (taker : Taker) (mark : Mark) (payload : List ℕ)
      → HaveMet a.controller.adjacency switch → HasLinks a.controller → (mark.packet ≡ 0 → 0 < mark.frame)
      → (taker ≡ ForGsmp → (message : Message) → decoded payload ≡ Ok message → IsCalmUp a.controller.adjacency.own switch.own message)
      → StandsNone (frame_holds a taker mark payload) → Says DeletesNone a (frame_holds a taker mark payload)
  pub ticks : (a : Acted) (switch : Side Party) → HaveMet a.controller.adjacency switch → HasLinks a.controller
      → a.controller.adjacency.silence < silence_limit → StandsNone (ticks a) → Says DeletesNone a (ticks a)
