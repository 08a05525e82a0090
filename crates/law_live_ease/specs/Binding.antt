-- A network binds on behind each carry, and along all that is carried and sent in a calm beat

use Rattle.std.specs.Prelude.{◌≡◌, true, List, ◌++◌, map}
use Rattle.std.specs.List.{list_all}
use Rattle.world_model.specs.Words.{Policy, Place, Topology, next, tick_of_all, world_after, IsRun, IsTame, past_of}
use Rattle.world_model.specs.network_model.declared.event.Event.{Event}
use Rattle.world_model.specs.network_model.declared.event.Event.TheVariants.{Carry}
use Rattle.live_model.specs.Beats.{Beat, is_sending}
use Rattle.law_live_journeys.specs.law_run_facts.law_world_views.Between.{IsWorld}
use Rattle.law_live_journeys.specs.law_run_facts.law_world_views.Kept.{Comes}
use Rattle.law_live_journeys.specs.law_run_facts.law_world_views.Fronts.{HasAddresses}
use Rattle.law_live_journeys.specs.law_live_hearing.Law.{world_at}
use Rattle.law_live_ease.specs.Law.{Binds, IsCalmEvent}
use Rattle.law_live_ease.specs.Beats.{AreCalmEvents, IsCalmBeat}

-- *Behind a calm carry* a network that binds does so, in a run before the first frame that is forged or passes by chance
abbrev pub NetworksBindOn : Type 0
NetworksBindOn = (policy : Policy) (topology : Topology) (before : List Event) (place : Place) → Comes policy topology before (Carry place)
    → IsWorld (past_of policy topology before) → Binds topology (world_at policy topology before)
    → IsCalmEvent topology (world_at policy topology before) (Carry place) → Binds topology (next topology (world_at policy topology before) (Carry place))

-- *A calm stretch* of such a run: cells are carried in it, and packets enter, and each event is calm as it comes
pub record IsCalmStretch (policy : Policy) (topology : Topology) (before events : List Event) : Type 0 where
  pub run : IsRun policy topology (before ++ events)
  pub addresses : HasAddresses topology
  pub tame : IsTame (past_of policy topology (before ++ events)).records
  pub sends : list_all is_sending events ≡ true
  pub calm : AreCalmEvents topology (world_at policy topology before) events

-- *Behind each front of it* the network binds, where it does as the stretch begins
abbrev pub StretchesBindOn : Type 0
StretchesBindOn = (policy : Policy) (topology : Topology) (before events : List Event) → IsCalmStretch policy topology before events
    → Binds topology (world_at policy topology before) → (front rest : List Event) → events ≡ front ++ rest
    → Binds topology (world_after topology (world_at policy topology before) front)

-- *So it binds throughout a calm beat*, behind each front of what is carried and sent in it, where it does behind the ticks that begin it
abbrev pub BeatsBindOn : Type 0
BeatsBindOn = (policy : Policy) (topology : Topology) (before : List Event) (beat : Beat) → IsCalmBeat policy topology before beat
    → Binds topology (world_after topology (world_at policy topology before) (tick_of_all (world_at policy topology before)))
    → (front rest : List Event) → map Carry beat.carries ++ beat.sending ≡ front ++ rest
    → Binds topology (world_after topology (world_after topology (world_at policy topology before) (tick_of_all (world_at policy topology before))) front)
