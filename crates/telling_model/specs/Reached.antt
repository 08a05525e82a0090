-- The actor that an event reaches, and the queues that it puts cells into

use Rattle.std.specs.Prelude.{◌==◌, Bool, false, List, [], ◌∷◌, Option, None, Some}
use Rattle.script_model.specs.world_model.Words.{Place, Down, Up, Out, Cell, queue_at, Topology, World}
use Rattle.script_model.specs.world_model.network_model.declared.event.Event.{Event}
use Rattle.script_model.specs.world_model.network_model.declared.event.Event.TheVariants.{Inject, Carry, Lose, Tick, TickSwitch, Restart, RestartSwitch, Forge, Route}
use Rattle.script_model.specs.world_model.network_model.declared.link.LinkEnd.{LinkEnd}
use Rattle.script_model.specs.world_model.Topology.{peer_of}
use Rattle.telling_model.specs.declared.reached.Reached.{Reached}
use Rattle.telling_model.specs.declared.reached.Reached.TheVariants.{Nobody, Controller, Switch}

-- whose queue it is
abbrev pub owner_of : Place → Reached
owner_of (Down node) = Controller node
owner_of (Up node) = Switch node
owner_of (Out node port) = Switch node

-- where the cells of a queue go
abbrev pub switch_at : Option LinkEnd → Reached
switch_at None = Nobody
switch_at (Some far) = Switch far.node

abbrev pub led_to : Topology → Place → Reached
led_to topology (Down node) = Switch node
led_to topology (Up node) = Controller node
led_to topology (Out node port) = switch_at (peer_of topology node port)

abbrev pub carried_to : Topology → Place → List Cell → Reached
carried_to topology place [] = Nobody
carried_to topology place (cell ∷ cells) = led_to topology place

-- *The actor that an event reaches*
abbrev pub reached : Topology → World → Event → Reached
reached topology w (Inject node octets) = Controller node
reached topology w (Carry place) = carried_to topology place (queue_at w place)
reached topology w (Lose place) = Nobody
reached topology w (Tick node) = Controller node
reached topology w (TickSwitch node) = Switch node
reached topology w (Restart node) = Controller node
reached topology w (RestartSwitch node) = Switch node
reached topology w (Forge place channel payload) = owner_of place
reached topology w (Route node change) = Controller node

-- whether a queue is this actor's
abbrev pub owns : Reached → Place → Bool
owns Nobody place = false
owns (Controller node) (Down other) = node.0 == other.0
owns (Controller node) (Up other) = false
owns (Controller node) (Out other port) = false
owns (Switch node) (Down other) = false
owns (Switch node) (Up other) = node.0 == other.0
owns (Switch node) (Out other port) = node.0 == other.0
