-- Copies of requests on the way from a controller to its switch are in the order of their numbers

use Rattle.law_frame_readings.specs.world_model.Words.{Past}
use Rattle.law_ownership.specs.Owning.{IsKept}
use Rattle.law_run_facts.specs.law_controller_facts.claims_model.Order.{AreAllCopiesInOrder}

abbrev pub CopiesAreInOrder : Type 0
CopiesAreInOrder = (past : Past) → IsKept past → AreAllCopiesInOrder past
