-- the queues and the actor of an event that is to come are the network's

use Rattle.std.proofs.Common.{◌≡◌, ◌≤◌, true, false, true≢false, List, [], ◌∷◌, Some, refl, sym, subst, is_some}
use Rattle.std.specs.Option.{option_map}
use Rattle.std.specs.Prelude.{slice_get}
use Rattle.net_types.specs.declared.node.NodeId.{NodeId}
use Rattle.net_types.specs.declared.node.PortNo.{PortNo}
use Rattle.net_types.specs.declared.node.Place.{Place}
use Rattle.net_types.specs.declared.node.Place.TheVariants.{Out}
use Rattle.atm_cells.specs.declared.cell.Cell.{Cell}
use Rattle.world_model.specs.Conditions.{IsEvent, IsPlace}
use Rattle.world_model.specs.Controller.{Controller as Model}
use Rattle.world_model.specs.network_model.declared.event.Event.{Event}
use Rattle.world_model.specs.network_model.declared.event.Event.TheVariants.{Carry, Lose}
use Rattle.world_model.specs.Places.{place_node, queue_at, queue_number}
use Rattle.world_model.specs.Topology.{Topology}
use Rattle.world_model.specs.World.{World}
use Rattle.world.specs.declared.world.World.{World as Network}
use Rattle.world.specs.Network.{IsNodeIn, world_of}
use Rattle.world.specs.Running.{Runs}
use Rattle.world.proofs.law_world_pace.Ports.{linked_port}
use Rattle.world.proofs.Conditions.{node_in, place_in, queue_low}
use Rattle.telling_model.specs.Passing.{standing, taken_from}
use Rattle.law_passing.specs.telling_model.declared.reached.Reached.{Reached}
use Rattle.law_passing.specs.telling_model.declared.reached.Reached.TheVariants.{Nobody, Controller, Switch}
use Rattle.law_passing.specs.Reached.{carried_to, led_to, reached}
use Rattle.tell_passing.specs.Look.{CanBe, IsActorIn, IsQueueIn}
use Rattle.tell_passing.proofs.Reaching.{IsActorOf, led_is, reached_is}

module _ {C : Type 0} (seen : C → Model) (n : Network C) where
  -- *A queue*
  pub queue_node : (place : Place) → IsQueueIn seen n place → IsNodeIn n (place_node place)
  queue_node place q = place_in seen q.topology n q.runs place q.is

  pub queue_within : (place : Place) → IsQueueIn seen n place → queue_number place ≤ 9
  queue_within place q = queue_low seen q.topology n q.runs place q.is

  pub port_within : (place : Place) (node : NodeId) (port : PortNo) → place ≡ Out node port → IsQueueIn seen n place → (1 ≤ port.0) × (port.0 ≤ 8)
  port_within place node port is q = linked_port q.topology node port q.runs.world.topology_is (subst (IsPlace q.topology) is q.is).1

  pub carried_queue : (event : Event) (place : Place) → event ≡ Carry place → CanBe seen n event → IsQueueIn seen n place
  carried_queue event place is can = record { topology = can.coming.topology; runs = can.coming.runs; is = subst (IsEvent can.coming.topology (world_of seen n can.notes)) is can.coming.come.meant }

  pub lost_queue : (event : Event) (place : Place) → event ≡ Lose place → CanBe seen n event → IsQueueIn seen n place
  lost_queue event place is can = record { topology = can.coming.topology; runs = can.coming.runs; is = subst (IsEvent can.coming.topology (world_of seen n can.notes)) is can.coming.come.meant }

  -- *An actor*
  pub actor_in : (t : Topology) → Runs seen t n → (who : Reached) → IsActorOf t who → IsActorIn n who
  actor_in t r Nobody is = tt
  actor_in t r (Controller node) is = node_in seen t n r node is
  actor_in t r (Switch node) is = node_in seen t n r node is

  pub led_in : (place : Place) (who : Reached) → IsQueueIn seen n place → ((t : Topology) → Runs seen t n → who ≡ led_to t place) → IsActorIn n who
  led_in place who q is = actor_in q.topology q.runs who (subst (IsActorOf q.topology) (sym (is q.topology q.runs)) (led_is q.topology q.runs.world.topology_is place q.is))

  pub reached_in : (event : Event) (who : Reached) → (can : CanBe seen n event) → who ≡ reached can.coming.topology (world_of seen n can.notes) event → IsActorIn n who
  reached_in event who can is = actor_in can.coming.topology can.coming.runs who (subst (IsActorOf can.coming.topology) (sym is) (reached_is can.coming.topology can.coming.runs.world.topology_is (world_of seen n can.notes) event can.coming.come.meant))

-- *A carry* of a queue in which a cell waits
pub carried_led : (t : Topology) (w : World) (place : Place) → is_some (taken_from w (Some place)) ≡ true → carried_to t place (queue_at w place) ≡ led_to t place
carried_led t w place e = by (queue_at w place) e
  where
    by : (cells : List Cell) → is_some (option_map (standing place) (slice_get cells 0)) ≡ true → carried_to t place cells ≡ led_to t place
    by [] e = absurd (true≢false (sym e))
    by (cell ∷ cells) e = refl

pub carried_none : (t : Topology) (w : World) (place : Place) → is_some (taken_from w (Some place)) ≡ false → carried_to t place (queue_at w place) ≡ Nobody
carried_none t w place e = by (queue_at w place) e
  where
    by : (cells : List Cell) → is_some (option_map (standing place) (slice_get cells 0)) ≡ false → carried_to t place cells ≡ Nobody
    by [] e = refl
    by (cell ∷ cells) e = absurd (true≢false e)
