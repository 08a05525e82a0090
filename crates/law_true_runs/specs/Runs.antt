-- What holds of every run before the first frame that was forged or passed its test by chance

use Rattle.std.specs.Prelude.{List}
use Rattle.world_model.specs.Words.{Policy, Topology, Past, past_of, IsRun, IsTame, IsInHarmony}
use Rattle.world_model.specs.network_model.declared.event.Event.{Event}
use Rattle.law_run_facts.specs.law_world_views.Between.{IsWorld}
use Rattle.law_run_facts.specs.law_world_views.Fronts.{HasAddresses}
use Rattle.law_run_facts.specs.law_world_views.Kept.{Comes, BindsUnusedAt}
use Rattle.law_packet_worlds.specs.Channels.{HasChannels}
use Rattle.law_passed_cells.specs.Passed.{HasRequests}
use Rattle.law_ownership.specs.Places.{HasPlaces}

-- so of each such run, whatever the policy, the topology and the events
abbrev pub HoldsInRuns : (Past → Type 0) → Type 0
HoldsInRuns P = (policy : Policy) (topology : Topology) (events : List Event) → IsRun policy topology events → HasAddresses topology
    → IsTame (past_of policy topology events).records → P (past_of policy topology events)

-- *What is kept from event to event*: all of `IsWorld`, on which channels cells, requests and control frames stand, and that
-- nothing is refused and nothing disowns a label
pub record IsWhole (past : Past) : Type 0 where
  pub world : IsWorld past
  pub channels : HasChannels past
  pub requests : HasRequests past
  pub places : HasPlaces past
  pub harmony : IsInHarmony past

-- no event of a run that has all that is kept binds a label that somebody may use
abbrev pub BindsUnusedInRuns : Type 0
BindsUnusedInRuns = (policy : Policy) (topology : Topology) (before : List Event) (event : Event) → Comes policy topology before event
    → IsWhole (past_of policy topology before) → BindsUnusedAt policy topology before event
