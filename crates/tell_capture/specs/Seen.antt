-- What a teller knows, and what it has seen of the world to which an event is to come; no claim rests on these words

use Rattle.std.specs.Prelude.{◌≡◌}
use Rattle.world_model.specs.network_model.declared.event.Event.{Event}
use Rattle.world_model.specs.World.{World}
use Rattle.tell_capture.specs.declared.teller.CaptureTeller.{CaptureTeller}
use Rattle.tell_capture.specs.Capture.{Tapped, carried}

abbrev pub known_by : CaptureTeller → Tapped
known_by teller = record { queues = teller.queues.items; taps = teller.taps }

-- the cell that the event will carry
pub record HasSeen (teller : CaptureTeller) (known : Tapped) (w : World) (event : Event) : Type 0 where
  pub known_is : known_by teller ≡ known
  pub cell_is : teller.carried ≡ carried w event
