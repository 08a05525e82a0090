-- the actor that an event reaches is one of the network's

use Rattle.std.proofs.Common.{◌≡◌, List, [], ◌∷◌, Option, None, Some, refl}
use Rattle.net_types.specs.declared.node.Place.{Place}
use Rattle.net_types.specs.declared.node.Place.TheVariants.{Down, Up, Out}
use Rattle.atm_cells.specs.declared.cell.Cell.{Cell}
use Rattle.world_model.specs.Conditions.{IsEvent, IsNode, IsPlace, IsTopology}
use Rattle.world_model.specs.network_model.declared.event.Event.{Event}
use Rattle.world_model.specs.network_model.declared.event.Event.TheVariants.{Inject, Carry, Lose, Tick, TickSwitch, Restart, RestartSwitch, Forge, Route}
use Rattle.world_model.specs.network_model.declared.link.LinkEnd.{LinkEnd}
use Rattle.world_model.specs.Places.{queue_at}
use Rattle.world_model.specs.Topology.{Topology, peer_of}
use Rattle.world_model.specs.World.{World}
use Rattle.world.proofs.law_world_pace.Ports.{far_node}
use Rattle.law_passing.specs.telling_model.declared.reached.Reached.{Reached}
use Rattle.law_passing.specs.telling_model.declared.reached.Reached.TheVariants.{Nobody, Controller, Switch}
use Rattle.law_passing.specs.Reached.{carried_to, led_to, owner_of, reached, switch_at}

abbrev pub IsActorOf : Topology → Reached → Type 0
IsActorOf t Nobody = Unit {0}
IsActorOf t (Controller node) = IsNode t node
IsActorOf t (Switch node) = IsNode t node

module _ (t : Topology) (is : IsTopology t) where
  pub led_is : (place : Place) → IsPlace t place → IsActorOf t (led_to t place)
  led_is (Down node) there = there
  led_is (Up node) there = there
  led_is (Out node port) there = by (peer_of t node port) refl
    where
      by : (o : Option LinkEnd) → peer_of t node port ≡ o → IsActorOf t (switch_at o)
      by None found = tt
      by (Some far) found = far_node t node port far is found

  carried_is : (place : Place) (cells : List Cell) → IsPlace t place → IsActorOf t (carried_to t place cells)
  carried_is place [] there = tt
  carried_is place (cell ∷ cells) there = led_is place there

  pub owner_is : (place : Place) → IsPlace t place → IsActorOf t (owner_of place)
  owner_is (Down node) there = there
  owner_is (Up node) there = there
  owner_is (Out node port) there = there.0

  pub reached_is : (w : World) (event : Event) → IsEvent t w event → IsActorOf t (reached t w event)
  reached_is w (Inject node octets) meant = meant.0
  reached_is w (Carry place) meant = carried_is place (queue_at w place) meant
  reached_is w (Lose place) meant = tt
  reached_is w (Tick node) meant = meant
  reached_is w (TickSwitch node) meant = meant
  reached_is w (Restart node) meant = meant
  reached_is w (RestartSwitch node) meant = meant
  reached_is w (Forge place channel payload) meant = owner_is place meant.queue
  reached_is w (Route node change) meant = meant.there
