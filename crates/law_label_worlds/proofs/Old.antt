-- pairs of labels behind an event are pairs before it, but at a tick

use Rattle.std.proofs.Common.{◌⊎◌, inl, inr}
use Rattle.world_model.specs.network_model.declared.event.Event.TheVariants.{Inject, Carry, Lose, Tick, TickSwitch, Restart, RestartSwitch, Forge, Route}
use Rattle.law_pairs.specs.Past.{RunsMakeNoPairs}
use Rattle.law_label_worlds.specs.Conduct.{PairsAreOld}

only : {X : Type 0} → X ⊎ ⊥ → X
only (inl x) = x
only (inr none) = absurd none

pub old_by : RunsMakeNoPairs → PairsAreOld
old_by old policy topology before (Inject node octets) comes world other n i o a b p = only (old policy topology before (Inject node octets) comes world n i o a b p)
old_by old policy topology before (Carry place) comes world other n i o a b p = only (old policy topology before (Carry place) comes world n i o a b p)
old_by old policy topology before (Lose place) comes world other n i o a b p = only (old policy topology before (Lose place) comes world n i o a b p)
old_by old policy topology before (Tick node) comes world ticks n i o a b p = absurd ticks
old_by old policy topology before (TickSwitch node) comes world other n i o a b p = only (old policy topology before (TickSwitch node) comes world n i o a b p)
old_by old policy topology before (Restart node) comes world other n i o a b p = only (old policy topology before (Restart node) comes world n i o a b p)
old_by old policy topology before (RestartSwitch node) comes world other n i o a b p = only (old policy topology before (RestartSwitch node) comes world n i o a b p)
old_by old policy topology before (Forge place channel payload) comes world other n i o a b p = only (old policy topology before (Forge place channel payload) comes world n i o a b p)
old_by old policy topology before (Route node change) comes world other n i o a b p = only (old policy topology before (Route node change) comes world n i o a b p)
