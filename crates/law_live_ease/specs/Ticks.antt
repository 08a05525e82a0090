-- A network at ease binds behind the ticks that begin a calm beat

use Rattle.std.specs.Prelude.{List}
use Rattle.world_model.specs.Words.{Policy, Topology, tick_of_all, world_after}
use Rattle.world_model.specs.network_model.declared.event.Event.{Event}
use Rattle.live_model.specs.Beats.{Beat}
use Rattle.law_live_journeys.specs.law_live_hearing.Law.{world_at}
use Rattle.law_live_ease.specs.Law.{IsAtEase, Binds}
use Rattle.law_live_ease.specs.Beats.{IsCalmBeat}

-- *Behind the ticks* that begin a calm beat a network that was at ease binds
abbrev pub TicksBind : Type 0
TicksBind = (policy : Policy) (topology : Topology) (before : List Event) (beat : Beat) → IsAtEase topology (world_at policy topology before)
    → IsCalmBeat policy topology before beat
    → Binds topology (world_after topology (world_at policy topology before) (tick_of_all (world_at policy topology before)))
