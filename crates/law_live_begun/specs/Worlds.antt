-- A network before the first packet enters: so it is in every run in which none has

use Rattle.std.specs.Prelude.{List}
use Rattle.world_model.specs.Words.{Policy, Topology, IsRun, IsTame, past_of}
use Rattle.world_model.specs.network_model.declared.event.Event.{Event}
use Rattle.world_model.specs.network_model.declared.event.Event.TheVariants.{Carry, Tick, TickSwitch}
use Rattle.law_link_parties.specs.law_run_facts.ordered_lists.Ordered.{Every}
use Rattle.law_link_parties.specs.law_run_facts.law_world_views.Fronts.{HasAddresses}
use Rattle.law_link_parties.specs.law_live_hearing.Law.{world_at}
use Rattle.law_live_begun.specs.First.{IsFirstWorld}

-- *Ticks and carries*
abbrev pub IsQuietEvent : Event → Type 0
IsQuietEvent (Tick node) = Unit {0}
IsQuietEvent (TickSwitch node) = Unit {0}
IsQuietEvent (Carry place) = Unit {0}
IsQuietEvent event = ⊥

-- *A run of them*, before the first frame that was forged or passed its test by chance
pub record IsQuietRun (policy : Policy) (topology : Topology) (events : List Event) : Type 0 where
  pub run : IsRun policy topology events
  pub addresses : HasAddresses topology
  pub tame : IsTame (past_of policy topology events).records
  pub quiet : Every IsQuietEvent events

abbrev pub NetworksGoOn : Type 0
NetworksGoOn = (policy : Policy) (topology : Topology) (events : List Event) → IsQuietRun policy topology events → IsFirstWorld topology (world_at policy topology events)
