-- What a run leaves of its meter, where it ends early too

use Rattle.std.specs.Prelude.{◌≡◌, ℕ, List, [], ◌∷◌, length, take, ◌≤◌}
use Rattle.world_model.specs.network_model.declared.event.Event.{Event}
use Rattle.world_model.specs.Run.{world_after}
use Rattle.world_model.specs.Topology.{Topology}
use Rattle.world_model.specs.World.{World}
use Rattle.world.specs.declared.counts.Meter.{Meter}
use Rattle.world.specs.Counted.{reading_of}

-- *A meter* behind some events: it holds the last world's numbers, and where there was no event it is as it was
abbrev pub meter_behind : (before : Meter) → Topology → World → List Event → Meter
meter_behind before topology w [] = before
meter_behind before topology w (event ∷ events) = reading_of (world_after topology w (event ∷ events))

-- behind a front of them
pub record IsMeterIn (before : Meter) (topology : Topology) (w : World) (events : List Event) (meter : Meter) : Type 0 where
  pub count : ℕ
  pub within : count ≤ length events
  pub reading : meter ≡ meter_behind before topology w (take count events)
