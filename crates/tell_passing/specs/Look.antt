-- A look at a network before an event, and one behind it

use Rattle.std.specs.Prelude.{◌≡◌, length}
use Rattle.net_types.specs.declared.node.Place.{Place}
use Rattle.link_model.specs.Notes.{Journal}
use Rattle.world_model.specs.Conditions.{CanCome, IsPlace}
use Rattle.world_model.specs.Controller.{Controller as ControllerModel}
use Rattle.world_model.specs.network_model.declared.event.Event.{Event}
use Rattle.world_model.specs.Run.{next}
use Rattle.world_model.specs.Topology.{Topology}
use Rattle.world_model.specs.World.{World}
use Rattle.world.specs.declared.world.World.{World as Network}
use Rattle.world.specs.Network.{IsNodeIn, world_of}
use Rattle.world.specs.law_world_pace.Running.{IsRunning}
use Rattle.world.specs.Running.{Runs}
use Rattle.telling_model.specs.Passing.{left, cell_taken}
use Rattle.network_run.specs.Coming.{IsComing}
use Rattle.law_passing.specs.telling_model.declared.reached.Reached.{Reached}
use Rattle.law_passing.specs.telling_model.declared.reached.Reached.TheVariants as actors
use Rattle.law_passing.specs.Reached.{reached}
use Rattle.tell_passing.specs.declared.before.Before.{Before}
use Rattle.tell_passing.specs.declared.lengths.Lengths.{Lengths}
use Rattle.tell_passing.specs.declared.lengths.Lengths.TheVariants as owners
use Rattle.tell_passing.specs.Lengths.{AreLengths}

-- *What was seen before an event* of a world
pub record IsBefore (topology : Topology) (w : World) (event : Event) (before : Before) : Type 0 where
  pub world : IsRunning topology w
  pub come : CanCome topology w event
  pub taken : before.taken ≡ cell_taken w event
  pub made : before.made ≡ length w.notes.frames
  pub lengths : AreLengths (left w event) (reached topology w event) before.lengths

-- *The event came*, and this network is behind it
pub record IsBehind {C : Type 0} (seen : C → ControllerModel) (n : Network C) (before : Before) : Type 0 where
  pub topology : Topology
  pub then : World
  pub event : Event
  pub notes : Journal
  pub runs : Runs seen topology n
  pub looked : IsBefore topology then event before
  pub came : world_of seen n notes ≡ next topology then event

-- an event can come, with whichever notes there are
pub record CanBe {C : Type 0} (seen : C → ControllerModel) (n : Network C) (event : Event) : Type 0 where
  pub notes : Journal
  pub coming : IsComing seen n notes event

-- the network is in a run
pub record IsInRun {C : Type 0} (seen : C → ControllerModel) (n : Network C) : Type 0 where
  pub topology : Topology
  pub runs : Runs seen topology n

-- the queue is one of the network's
pub record IsQueueIn {C : Type 0} (seen : C → ControllerModel) (n : Network C) (place : Place) : Type 0 where
  pub topology : Topology
  pub runs : Runs seen topology n
  pub is : IsPlace topology place

-- the actor is one of the network's
abbrev pub IsActorIn : {C : Type 0} → Network C → Reached → Type 0
IsActorIn n actors.Nobody = Unit {0}
IsActorIn n (actors.Controller node) = IsNodeIn n node
IsActorIn n (actors.Switch node) = IsNodeIn n node

abbrev pub IsOwnerIn : {C : Type 0} → Network C → Lengths → Type 0
IsOwnerIn n owners.Nobody = Unit {0}
IsOwnerIn n (owners.Controller node left) = IsNodeIn n node
IsOwnerIn n (owners.Switch node lefts) = IsNodeIn n node
