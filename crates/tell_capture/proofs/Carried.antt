-- The cell that an event carries is read before it

use Rattle.std.proofs.Common.{◌≡◌, ◌≤◌, refl, subst}
use Rattle.link_model.specs.Notes.{Journal}
use Rattle.net_types.specs.declared.node.Place.{Place}
use Rattle.world_model.specs.Conditions.{IsEvent, IsPlace}
use Rattle.world_model.specs.Controller.{Controller}
use Rattle.world_model.specs.network_model.declared.event.Event.{Event}
use Rattle.world_model.specs.network_model.declared.event.Event.TheVariants.{Carry}
use Rattle.world_model.specs.Places.{place_node, queue_number}
use Rattle.world.specs.declared.world.World.{World as Network}
use Rattle.world.specs.Network.{IsNodeIn, world_of}
use Rattle.world.proofs.Conditions.{place_in, queue_low}
use Rattle.network_run.specs.Coming.{IsComing}

module _ {C : Type 0} (seen : C → Controller) (n : Network C) (notes : Journal) (event : Event) (place : Place) (is : event ≡ Carry place) (coming : IsComing seen n notes event) where
  place_is : IsPlace coming.topology place
  place_is = subst (IsEvent coming.topology (world_of seen n notes)) is coming.come.meant

  pub node_is : IsNodeIn n (place_node place)
  node_is = place_in seen coming.topology n coming.runs place place_is

  pub port_is : queue_number place ≤ 9
  port_is = queue_low seen coming.topology n coming.runs place place_is
