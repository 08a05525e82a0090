-- What holds of a controller between its calls, unless want of memory ended it. No claim needs this file.

use Rattle.std.specs.Prelude.{Option, None, Some}
use Rattle.net_types.specs.declared.memory.OutOfMemory.{OutOfMemory}
use Rattle.controller_gsmp.specs.Client.{PortEnd}
use Rattle.controller_joining.specs.Joining.{AreJoined, Joining, controller_of}
use Rattle.law_joining_conditions.specs.law_controller_conditions.Kept.{IsKept}
use Rattle.law_joining_conditions.specs.law_controller_conditions.Routes.{HasLinkRoutes}

pub record IsRight {E : Type 0} (seen : E → PortEnd) (j : Joining E) : Type 0 where
  pub kept : IsKept (controller_of seen j)
  pub joined : AreJoined seen j
  pub routes : HasLinkRoutes (controller_of seen j)

abbrev pub IsRightUnless : {E : Type 0} → (E → PortEnd) → Joining E → Option OutOfMemory → Type 0
IsRightUnless seen j None = IsRight seen j
IsRightUnless seen j (Some error) = Unit {0}
