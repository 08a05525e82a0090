-- Losses that stand beside their cause

use Rattle.std.specs.Prelude.{◌≡◌, ℕ, ◌<◌, Bool, true, false, List, slice_get, Some}
use Rattle.std.specs.List.{list_any}
use Rattle.network_model.specs.net_types.declared.number.Mark.{Mark}
use Rattle.network_model.specs.atm_cells.declared.cell.Cell.{Cell}
use Rattle.network_model.specs.link_model.declared.entries.Entry.{Entry}
use Rattle.network_model.specs.link_model.declared.record.Cause.{Cause}
use Rattle.network_model.specs.link_model.declared.record.Cause.TheVariants.{Broken}
use Rattle.network_model.specs.link_model.Ledger.{same_mark}

abbrev pub is_broken : Cause → Bool
is_broken Broken = true
is_broken cause = false

-- a cell has the mark
abbrev pub has_mark : List Cell → Mark → Bool
has_mark cells mark = list_any (λ cell. same_mark cell.mark mark) cells

-- the mark of the entry at a place of the ledger stands in a stretch beside that of an earlier entry of another cause
-- than Broken
pub record StandsBesideCause (stretch : List Cell) (entries : List Entry) (place : ℕ) (entry : Entry) : Type 0 where
  pub own : has_mark stretch entry.mark ≡ true
  pub cause : Entry
  pub cause_place : ℕ
  pub stands : slice_get entries cause_place ≡ Some cause
  pub is_earlier : cause_place < place
  pub is_other : is_broken cause.cause ≡ false
  pub beside : has_mark stretch cause.mark ≡ true
