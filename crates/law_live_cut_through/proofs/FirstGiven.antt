-- What the law of labelled flows stands on

use Rattle.law_live_cut_through.specs.Leading.{LabelsLeadThere, GrantsLeadThere}
use Rattle.law_live_cut_through.specs.Led.{SentFramesAreLed, CellsAreUnlost}
use Rattle.law_live_cut_through.specs.Stretches.{StretchesKeepLabels, StretchesKeepGrants, StretchesJoinNone, StretchesLendNone, StretchesAddBranches}
use Rattle.law_live_cut_through.specs.Under.{EntriesGoOn, EntriesGoUnder, BroughtPacketsGoOn, BroughtPacketsGoUnder, LabelledForward, LabelledGoUnder}

-- *What else holds* of stretches, of switches that lead labels, of frames that are led, and of packets that go on
pub record Given : Type 0 where
  pub keep_labels : StretchesKeepLabels
  pub keep_grants : StretchesKeepGrants
  pub join_none : StretchesJoinNone
  pub lend_none : StretchesLendNone
  pub add_branches : StretchesAddBranches
  pub labels_lead : LabelsLeadThere
  pub grants_lead : GrantsLeadThere
  pub led : SentFramesAreLed
  pub unlost : CellsAreUnlost
  pub entries_on : EntriesGoOn
  pub entries_under : EntriesGoUnder
  pub brought_on : BroughtPacketsGoOn
  pub brought_under : BroughtPacketsGoUnder
  pub labelled_on : LabelledForward
  pub labelled_under : LabelledGoUnder
