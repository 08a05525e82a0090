-- Behind some events: the network, what was told of them, and the meter, where they end early too

use Rattle.std.specs.Prelude.{◌≡◌, ℕ, List, Option, Result, OnErr, OnOk}
use Rattle.link_model.specs.Notes.{Journal}
use Rattle.lab_io.specs.declared.stop.Stop.{Stop}
use Rattle.lab_io.specs.Puts.{Puts, StaysWithin}
use Rattle.telling_model.specs.Tale.{Telling}
use Rattle.world_model.specs.Controller.{Controller}
use Rattle.world_model.specs.network_model.declared.event.Event.{Event}
use Rattle.world_model.specs.Run.{put_away, world_after}
use Rattle.world_model.specs.Topology.{Topology}
use Rattle.world.specs.declared.counts.Meter.{Meter}
use Rattle.world.specs.declared.world.World.{World as Network}
use Rattle.world.specs.Network.{world_of}
use Rattle.network_run.specs.declared.told.Told.{Told}
use Rattle.network_run.specs.Coming.{IsReady}
use Rattle.network_run.specs.Telling.{IsMeterIn, meter_behind}

-- *Events were stepped*: the network stands ready behind them, and the meter is at the last; or they ended early, and
-- the meter is at one of them or as it was
pub record AreStepped {C : Type 0} (seen : C → Controller) (topology : Topology) (events : List Event) (result : Result (Unit {0}) Stop)
    (old new : Network C) (notes after : Journal) (meter then : Meter) : Type 0 where
  pub world : OnOk result (world_of seen new after ≡ put_away (world_after topology (world_of seen old notes) events))
  pub ready : OnOk result (IsReady seen topology new after)
  pub meter_is : OnOk result (then ≡ meter_behind meter topology (world_of seen old notes) events)
  pub kept : OnErr result (IsMeterIn meter topology (world_of seen old notes) events then)

-- *This was told*: it was put, and its teller knows what is known then; or an early end came, and a front of it was put
pub record IsTold {T S : Type 0} (known : T → S) (telling : Telling S) (result : Result (Unit {0}) Stop) (old new : Told T) (written wrote : Option (List ℕ)) : Type 0 where
  pub put : Puts result old.writer new.writer written wrote telling.octets
  pub knows : OnOk result (known new.teller ≡ telling.state)
  pub room : StaysWithin old.writer new.writer
