-- A desk and the tickets of its requests. No claim needs this file.

use Rattle.std.specs.Prelude.{◌≡◌, ◌<◌, List, All}
use Rattle.branch_desk.specs.port_model.Desk.{Desk, Standing}
use Rattle.branch_desk.specs.Requests.{AreApart, AreRising}

-- the tickets are exactly those of the requests that stand, in the same order
pub record IsBook (desk : Desk) (tickets : List Standing) : Type 0 where
  pub same : tickets ≡ desk.standing
  pub given : All (λ s. s.number < desk.next) tickets
  pub rising : AreRising tickets
  pub apart : AreApart tickets
