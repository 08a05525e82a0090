-- What a teller of traces holds while an event is to come

use Rattle.std.specs.Prelude.{◌≡◌, List}
use Rattle.net_types.specs.declared.number.Mark.{Mark}
use Rattle.tell_passing.specs.Look.{IsBefore}
use Rattle.tell_passing.specs.declared.before.Before.{Before}
use Rattle.world_model.specs.network_model.declared.event.Event.{Event}
use Rattle.world_model.specs.Topology.{Topology}
use Rattle.world_model.specs.World.{World}

-- it knew these marks, and has seen the world
pub record Awaits (marks : List Mark) (before : Before) (known : List Mark) (topology : Topology) (w : World) (event : Event) : Type 0 where
  pub knows : marks ≡ known
  pub seen : IsBefore topology w event before
