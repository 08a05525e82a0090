-- A controller, as its calls show it: a router that joins labels, and whether want of memory ended it

use Rattle.std.specs.Prelude.{Bool}
use Rattle.world_model.specs.Controller.{Controller}
use Rattle.controller_gsmp.specs.Client.{PortEnd}
use Rattle.controller_joining.specs.Joining as joining
use Rattle.controller_joining.specs.Joining.{Joining}

pub record Controlling (E : Type 0) : Type 0 where
  pub router : Joining E
  pub failed : Bool

-- the controller of its router
abbrev pub controller_of : {E : Type 0} → (E → PortEnd) → Controlling E → Controller
controller_of seen c = joining.controller_of seen c.router

abbrev pub has_failed : {E : Type 0} → Controlling E → Bool
has_failed c = c.failed
