-- What a call makes of a port, and its conditions

use Rattle.std.specs.Prelude.{◌≡◌, ℕ, ◌==◌, Bool, false, List, IsTrue}
use Rattle.std.specs.Option.{option_map_or}
use Rattle.net_types.specs.Label.{is_label_channel}
use Rattle.gsmp_wire.specs.declared.request.Request.{Request}
use Rattle.gsmp_wire.specs.declared.request.Request.TheVariants.{MoveBranch}
use Rattle.grant_table.specs.Table.{releases}
use Rattle.port_model.specs.declared.action.Action.{Action}
use Rattle.port_model.specs.Grants.{GrantState, lent_input}
use Rattle.port_model.specs.Port.{Work}
use Rattle.port_state.specs.Engine.{Engine}

-- a call has done a rule of the port: the engine is at the rule's port, the list is that of the rule's
-- actions, and so many instances are given out
pub record HasDone {P : Type 0} (old new : Engine P) (list : List Action) (given : ℕ) (w : Work) : Type 0 where
  pub fixed : new.fixed ≡ old.fixed
  pub port : new.port ≡ w.port
  pub actions : list ≡ w.actions
  pub instances : given ≡ w.instances

-- a request that is answered moves no branch but those of labels, and moves them to labels alone, or to the
-- control link
abbrev pub CanBeDone : Request → Type 0
CanBeDone (MoveBranch input from to) =
    IsTrue (is_label_channel input.channel) × ((to.port.0 == 0) ≡ false → IsTrue (is_label_channel to.channel))
CanBeDone request = Unit {0}

-- it releases the input that a grant is lent to
abbrev pub is_released_by : Request → GrantState → Bool
is_released_by request state = option_map_or (releases request) (lent_input state) false
