-- What an engine's call has done, a router's port has done.

use Rattle.std.proofs.Common.{ℕ, List}
use Rattle.port_model.specs.declared.action.Action.{Action}
use Rattle.port_model.specs.Setup.{Policy}
use Rattle.port_model.specs.Port.{Work}
use Rattle.redirect_state.specs.port_state.Engine.{Engine, setup_of}
use Rattle.redirect_state.specs.Calls as engine
use Rattle.controller_router.specs.Engine.{HasDone}

pub done_is : {P : Type 0} (meaning : P → Policy) (old new : Engine P) (list : List Action) (given : ℕ) (w : Work) → engine.HasDone old new list given w
    → HasDone (record { setup = setup_of meaning old.fixed; port = old.port }) (record { setup = setup_of meaning new.fixed; port = new.port }) list given w
done_is meaning old new list given w done = record { port = done.port; actions = done.actions; instances = done.instances }
