-- What a controller asks of its switch at what comes to it: nothing, or one request

use Rattle.std.specs.Prelude.{◌≡◌, ℕ, ◌++◌, List, [], ◌∷◌, Some}
use Rattle.world_model.specs.Words.{End, Mark, Cell, payload_of, Request, AddBranch, message_of, home_of, Controller, default_channel}
use Rattle.world_model.specs.Controller.{Acted}
use Rattle.world_model.specs.gsmp_wire.Layout.{octets_of}
use Rattle.law_live_lasting.specs.law_port_facts.Port.{IsLabelEnd}
use Rattle.law_live_lasting.specs.law_run_facts.law_world_views.Between.{setups_of}
use Rattle.law_live_lasting.specs.law_live_orders.Law.{last_marks}
use Rattle.law_live_lasting.specs.law_live_mirrored_worlds.Law.{Keeps}

-- *It puts nothing* on the GSMP channel: behind what waited for the switch stand cells, none of which is a last one there
pub record PutsNone (before after : Controller) : Type 0 where
  pub put : List Cell
  pub queue : after.queue ≡ before.queue ++ put
  pub none : last_marks default_channel put ≡ []

-- or it puts one frame there, of this payload
pub record PutsOne (before : Controller) (after : Acted) (payload : List ℕ) : Type 0 where
  pub put : List Cell
  pub queue : after.controller.queue ≡ before.queue ++ put
  pub mark : Mark
  pub one : last_marks default_channel put ≡ mark ∷ []
  pub made : payload_of after.notes.frames mark ≡ Some payload

-- *It asks nothing*, and its inputs are kept mirrored
pub record AsksNone (before after : Controller) : Type 0 where
  pub keeps : Keeps before after []
  pub puts : PutsNone before after

-- *It asks one request*, under its next transaction number, and its inputs are kept mirrored with that last on the way
pub record AsksOne (before : Controller) (after : Acted) (request : Request) : Type 0 where
  pub keeps : Keeps before after.controller (request ∷ [])
  pub puts : PutsOne before after (octets_of (message_of before.desk.rows before.desk.next request))

-- *The branch of a label* that the range of one of its ports has, or of a grant
pub data IsOfLabel (c : Controller) : Request → Type 0 where
  of_label : (end : End) → IsLabelEnd (setups_of c) end → IsOfLabel c (AddBranch end (home_of end))
  of_grant : (end : End) → IsLabelEnd (setups_of c) end → IsOfLabel c (AddBranch (home_of end) end)

-- *It asks at most one*, for such a branch
pub data AsksFew (before : Controller) (after : Acted) : Type 0 where
  nothing : AsksNone before after.controller → AsksFew before after
  one : (request : Request) → IsOfLabel before request → AsksOne before after request → AsksFew before after
