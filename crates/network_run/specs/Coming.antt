-- What is so of a network to which events are to come, of an event that is to come to it, and of one that came

use Rattle.std.specs.Prelude.{◌≡◌, []}
use Rattle.link_model.specs.Notes.{Journal}
use Rattle.world_model.specs.Conditions.{CanCome}
use Rattle.world_model.specs.Controller.{Controller}
use Rattle.world_model.specs.network_model.declared.event.Event.{Event}
use Rattle.world_model.specs.Run.{next}
use Rattle.world_model.specs.Topology.{Topology}
use Rattle.world_model.specs.World.{World}
use Rattle.world.specs.declared.world.World.{World as Network}
use Rattle.world.specs.Network.{world_of}
use Rattle.world.specs.Running.{Runs}

-- *A network stands ready*: it runs, and its records are put away
pub record IsReady {C : Type 0} (seen : C → Controller) (topology : Topology) (n : Network C) (notes : Journal) : Type 0 where
  pub empty : notes.records ≡ []
  pub runs : Runs seen topology n

-- *It can come* to the network of a topology
pub record IsComing {C : Type 0} (seen : C → Controller) (n : Network C) (notes : Journal) (event : Event) : Type 0 where
  pub topology : Topology
  pub runs : Runs seen topology n
  pub come : CanCome topology (world_of seen n notes) event

-- *It came* to a world in which it was awaited
pub record HasCome {S : Type 0} (awaits : S → Topology → World → Event → Type 0) (topology : Topology) (now : World) (event : Event) : Type 0 where
  pub known : S
  pub before : World
  pub awaited : awaits known topology before event
  pub came : now ≡ next topology before event
