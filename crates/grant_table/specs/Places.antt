-- Where a grant stands in the list of a port. No claim needs this file.

use Rattle.std.specs.Prelude.{◌≡◌, ℕ, ◌<◌, ◌≤◌, List, length, slice_get, None}
use Rattle.std.specs.List.{remove, insert}
use Rattle.keyed_lists.specs.Keyed.{at, put, without}
use Rattle.branch_desk.specs.port_model.Grants.{Grant, grant_label}
use Rattle.grant_table.specs.Table.{AreApart}

-- the place of the grant of a label, and what a change there makes of the list
pub record IsPlaceOf (grants : List Grant) (label place : ℕ) : Type 0 where
  pub inside : place < length grants
  pub found : at grant_label label grants ≡ slice_get grants place
  pub replaced : (grant : Grant) → grant.label ≡ label → insert (remove grants place) place grant ≡ put grant_label grant grants
  pub ended : AreApart grants → remove grants place ≡ without grant_label label grants

-- the place that the grant of a label had among others
pub record IsGapOf (grants others : List Grant) (label place : ℕ) : Type 0 where
  pub inside : place ≤ length others
  pub room : length others < 256
  pub absent : at grant_label label others ≡ None
  pub replaced : (grant : Grant) → grant.label ≡ label → insert others place grant ≡ put grant_label grant grants
