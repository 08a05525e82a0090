-- What an event keeps of packets

use Rattle.std.specs.Prelude.{List}
use Rattle.law_arrival_views.specs.world_model.Words.{Policy, Topology, Past, past_of, HasFatesOnce}
use Rattle.law_arrival_views.specs.world_model.network_model.declared.event.Event.{Event}
use Rattle.law_run_facts.specs.law_world_views.Between.{IsWorld, HasMeanings, HasPacketsOnce}
use Rattle.law_run_facts.specs.law_world_views.Kept.{Comes, behind, Begins, BindsUnusedAt}
use Rattle.law_packet_worlds.specs.Channels.{HasChannels}

-- what cells mean, that packets are once, and on which channels cells stand
pub record HasPackets (past : Past) : Type 0 where
  pub meanings : HasMeanings past
  pub packets : HasPacketsOnce past
  pub channels : HasChannels past

abbrev pub PacketsAreKept : Type 0
PacketsAreKept = (policy : Policy) (topology : Topology) (before : List Event) (event : Event) → Comes policy topology before event
    → IsWorld (past_of policy topology before) → HasChannels (past_of policy topology before) → BindsUnusedAt policy topology before event
    → HasPackets (behind policy topology before event)

abbrev pub PacketsBegin : Type 0
PacketsBegin = Begins HasPackets

-- and then each packet has one fate at most
abbrev pub FatesAreOnce : Type 0
FatesAreOnce = (policy : Policy) (topology : Topology) (events : List Event) → HasPacketsOnce (past_of policy topology events)
    → HasFatesOnce (past_of policy topology events)
