-- The engines of a controller before its first input. No claim needs this file.

use Rattle.std.specs.Prelude.{ℕ, ◌+◌, List, [], ◌∷◌}
use Rattle.port_model.specs.Setup.{Setup}
use Rattle.world_model.specs.controller_model.declared.range.PortRange.{PortRange}
use Rattle.controller_gsmp.specs.Client.{PortEnd}
use Rattle.controller_router.specs.Engine.{opened_end}

abbrev pub opened_ends : (PortRange → Setup) → (instances : ℕ) → List PortRange → List PortEnd
opened_ends setup instances [] = []
opened_ends setup instances (range ∷ ranges) = opened_end (setup range) instances ∷ opened_ends setup (instances + 1) ranges
