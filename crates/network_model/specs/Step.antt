-- What each event makes of a network

use Rattle.std.specs.Prelude.{ℕ, ◌+◌, List, [], ◌∷◌, length, drop, fold, Option, None, Some}
use Rattle.net_types.specs.declared.node.NodeId.{NodeId}
use Rattle.net_types.specs.declared.node.Place.{Place}
use Rattle.net_types.specs.declared.node.Place.TheVariants.{Down, Up, Out}
use Rattle.net_types.specs.declared.channel.Channel.{Channel}
use Rattle.net_types.specs.declared.number.Mark.{Mark}
use Rattle.switch_model.specs.atm_cells.declared.cell.Cell.{Cell}
use Rattle.switch_model.specs.link_model.declared.record.Record.{Record}
use Rattle.switch_model.specs.link_model.declared.record.Record.TheVariants.{Refused, Loss, Forged}
use Rattle.switch_model.specs.link_model.declared.record.Refusal.{Refusal}
use Rattle.switch_model.specs.link_model.declared.record.Cause.TheVariants.{Lost}
use Rattle.switch_model.specs.link_model.Notes.{noted}
use Rattle.switch_model.specs.Switch.{control_port}
use Rattle.switch_model.specs.Conduct as switch
use Rattle.net_types.specs.Number.{next_control, with_control}
use Rattle.controller_model.specs.Sending.{sends}
use Rattle.controller_model.specs.Packets.{inject_refusal, injected}
use Rattle.controller_model.specs.Cells as controller
use Rattle.controller_model.specs.Ticks as controller_ticks
use Rattle.controller_model.specs.Resets.{node_restarts}
use Rattle.controller_model.specs.Changes.{change_comes}
use Rattle.network_model.specs.declared.event.Event.{Event}
use Rattle.network_model.specs.declared.event.Event.TheVariants.{Inject, Carry, Lose, Tick, TickSwitch, Restart, RestartSwitch, Forge, Route}
use Rattle.network_model.specs.declared.link.LinkEnd.{LinkEnd}
use Rattle.network_model.specs.Topology.{Topology, peer_of}
use Rattle.network_model.specs.World.{World, at_controller, at_switch, one_tallied}
use Rattle.network_model.specs.Places.{queue_at, with_queue}

abbrev pub note : World → Record → World
note w item = record w { notes = noted w.notes item }

-- *A packet enters*, or is refused; either way it has the next number
abbrev pub injects_by : World → NodeId → (octets : List ℕ) → Option Refusal → World
injects_by w node octets (Some name) = note w (Refused node w.sent name)
injects_by w node octets None = at_controller w node (λ a. injected a w.sent octets)

abbrev pub injects : World → NodeId → (octets : List ℕ) → World
injects w node octets = injects_by (record w { sent = w.sent + 1 }) node octets (inject_refusal octets)

-- *A cell is carried*: from a controller to port 0 of its switch, from there to the controller, from a port of
-- a link to the port at its other end. A port that has cells to carry is linked
abbrev pub arrives_at : World → Cell → Option LinkEnd → World
arrives_at w cell None = w
arrives_at w cell (Some far) = at_switch w far.node (λ a. switch.cell_comes a far.port cell)

abbrev pub arrives : Topology → World → Place → Cell → World
arrives topology w (Down node) cell = at_switch w node (λ a. switch.cell_comes a control_port cell)
arrives topology w (Up node) cell = at_controller w node (λ a. controller.cell_comes a cell)
arrives topology w (Out node port) cell = arrives_at w cell (peer_of topology node port)

abbrev pub carries_head : Topology → World → Place → List Cell → World
carries_head topology w place [] = w
carries_head topology w place (cell ∷ cells) = arrives topology (with_queue w place cells) place cell

-- *A cell is lost*
abbrev pub loses_head : World → Place → List Cell → World
loses_head w place [] = w
loses_head w place (cell ∷ cells) = note (with_queue w place cells) (Loss cell.mark Lost)

-- *A frame is forged* under the next control mark: its record comes first, and then its cells join the queue, or
-- it gets PoolFull
abbrev pub forges_at : World → Place → Channel → Mark → (payload : List ℕ) → World
forges_at w (Down node) channel mark payload = at_controller w node (λ a. sends a channel mark payload)
forges_at w (Up node) channel mark payload = at_switch w node (λ a. switch.forged a control_port channel mark payload)
forges_at w (Out node port) channel mark payload = at_switch w node (λ a. switch.forged a port channel mark payload)

abbrev pub forges : World → Place → Channel → (payload : List ℕ) → World
forges w place channel payload =
    forges_at (record (note w (Forged place)) { numbers = with_control w.numbers })
    place channel (next_control w.numbers) payload

abbrev pub acts : Topology → World → Event → World
acts topology w (Inject node octets) = injects w node octets
acts topology w (Carry place) = carries_head topology w place (queue_at w place)
acts topology w (Lose place) = loses_head w place (queue_at w place)
acts topology w (Tick node) = at_controller w node controller_ticks.ticks
acts topology w (TickSwitch node) = at_switch w node switch.tick_comes
acts topology w (Restart node) = at_controller w node node_restarts
acts topology w (RestartSwitch node) = at_switch w node switch.restarted
acts topology w (Forge place channel payload) = forges w place channel payload
acts topology w (Route node change) = at_controller w node (λ a. change_comes a change)

-- *One event*: the records that it made, behind those before it, are tallied
abbrev pub new_records : (before after : World) → List Record
new_records before after = drop (length before.notes.records) after.notes.records

abbrev pub tallied : (before after : World) → World
tallied before after = record after {
  events = before.events + 1;
  tally = fold one_tallied before.tally (new_records before after);
}

abbrev pub step : Topology → World → Event → World
step topology w event = tallied w (acts topology w event)
