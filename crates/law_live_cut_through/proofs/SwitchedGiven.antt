-- The laws on which these stand, and the statements over them

use Rattle.law_live_ease.specs.Binding.{BeatsBindOn}
use Rattle.law_live_ease.specs.Ticks.{TicksBind}
use Rattle.law_live_cut_through.specs.Leading.{LabelsLead, LabelsLeadThere, GrantsLead, GrantsLeadThere, GrantsAreFound}
use Rattle.law_live_cut_through.specs.Stretches.{StretchesKeepLabels, StretchesKeepGrants, StretchesAddBranches}
use Rattle.law_live_cut_through.specs.First.{SettledAreAtEase}
use Rattle.law_live_cut_through.specs.Led.{SentFramesAreLed, CellsAreUnlost, DeliveredAreAlone}
use Rattle.law_live_cut_through.specs.Under.{EntriesGoUnder, LabelledAreDelivered, LabelledFramesCarry, CarriesGoOn}
use Rattle.law_live_cut_through.specs.Later.{WaysStandInStretches, StandingWaysCutThrough, PacketsAreSwitched}

-- *What is proved elsewhere*
pub record Given : Type 0 where
  pub labels_lead : LabelsLead
  pub labels_there : LabelsLeadThere
  pub grants_lead : GrantsLead
  pub grants_there : GrantsLeadThere
  pub grants_found : GrantsAreFound
  pub ways_stand : WaysStandInStretches
  pub keep_labels : StretchesKeepLabels
  pub keep_grants : StretchesKeepGrants
  pub add_branches : StretchesAddBranches
  pub settled_ease : SettledAreAtEase
  pub led : SentFramesAreLed
  pub unlost : CellsAreUnlost
  pub alone : DeliveredAreAlone
  pub under : EntriesGoUnder
  pub delivered : LabelledAreDelivered
  pub carry : LabelledFramesCarry
  pub carry_on : CarriesGoOn
  pub ticks : TicksBind
  pub binds_on : BeatsBindOn

abbrev pub WaysCutThroughThen : Type 0
WaysCutThroughThen = Given → StandingWaysCutThrough

abbrev pub AreSwitchedThen : Type 0
AreSwitchedThen = Given → PacketsAreSwitched
