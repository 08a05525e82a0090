-- Beats: every actor ticks once, cells are carried until none waits in a queue, and then packets may be sent and carried,
-- again until none waits. So nothing is lost on a link, nobody restarts, no route changes and no frame is forged

use Rattle.std.specs.Prelude.{◌≡◌, Bool, true, false, List, ◌++◌, map}
use Rattle.std.specs.List.{list_all}
use Rattle.world_model.specs.Words.{Place, Topology, World, is_empty, tick_of_all, world_after}
use Rattle.world_model.specs.network_model.declared.event.Event.{Event}
use Rattle.world_model.specs.network_model.declared.event.Event.TheVariants.{Inject, Carry}

-- behind the ticks: the queues from which cells are carried, in any order, until all are empty; then what is sent, and
-- further carries
pub record Beat : Type 0 where
  pub carries : List Place
  pub sending : List Event

abbrev pub settling : World → Beat → List Event
settling w beat = tick_of_all w ++ map Carry beat.carries

abbrev pub events_in : World → Beat → List Event
events_in w beat = settling w beat ++ beat.sending

abbrev pub is_sending : Event → Bool
is_sending (Inject node octets) = true
is_sending (Carry place) = true
is_sending event = false

-- the world behind the ticks and their carries, and the world behind all of it
abbrev pub settled : Topology → World → Beat → World
settled topology w beat = world_after topology w (settling w beat)

abbrev pub behind : Topology → World → Beat → World
behind topology w beat = world_after topology w (events_in w beat)

pub record IsBeat (topology : Topology) (w : World) (beat : Beat) : Type 0 where
  pub sends : list_all is_sending beat.sending ≡ true
  pub settles : is_empty (settled topology w beat) ≡ true
  pub empties : is_empty (behind topology w beat) ≡ true
