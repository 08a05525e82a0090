-- What is sent on is what the controller forwards.

use Rattle.std.proofs.Common.{◌≡◌, ℕ, Bool, true, false, ◌==◌, ◌&&◌, nat_lt, List, Option, Some, None, refl, if◌then◌else◌}
use Rattle.std.specs.Option.{option_map}
use Rattle.net_types.specs.declared.node.PortNo.{PortNo}
use Rattle.net_types.specs.declared.channel.Channel.{Channel}
use Rattle.net_types.specs.declared.number.Mark.{Mark}
use Rattle.net_types.specs.Number.{GivenOut, next_control, with_control}
use Rattle.frame_model.specs.Frame.{next_mark}
use Rattle.port_model.specs.Grants.{Grant}
use Rattle.world_model.specs.Controller.{Acted}
use Rattle.world_model.specs.Packets.{goes_by, is_control, sends_next}
use Rattle.world_model.specs.Sending.{sends}
use Rattle.controller_router.specs.Packets.{granted, payload_by, way_by}

-- the numbers and the mark of a packet's next frame
abbrev pub numbers_after : Mark → GivenOut → GivenOut
numbers_after came numbers = if is_control came then with_control numbers else numbers

abbrev pub mark_after : Mark → GivenOut → Mark
mark_after came numbers = if is_control came then next_control numbers else next_mark came

next_is : (a : Acted) (came : Mark) (channel : Channel) (payload : List ℕ) → sends (record a { numbers = numbers_after came a.numbers }) channel (mark_after came a.numbers) payload ≡ sends_next a came channel payload
next_is a came channel payload = by (is_control came) where
  by : (b : Bool) → sends (record a { numbers = (if b then with_control a.numbers else a.numbers) }) channel (if b then next_control a.numbers else next_mark came) payload
      ≡ (if b then sends (record a { numbers = with_control a.numbers }) channel (next_control a.numbers) payload else sends a channel (next_mark came) payload)
  by true = refl
  by false = refl

pub goes_is : (a : Acted) (came : Mark) (port : PortNo) (packet : List ℕ) (o : Option Grant)
    → sends (record a { numbers = numbers_after came a.numbers }) (way_by port (option_map granted o)).channel (mark_after came a.numbers) (payload_by packet (option_map granted o)) ≡ goes_by a came port packet o
goes_is a came port packet None = next_is a came _ _
goes_is a came port packet (Some grant) = next_is a came _ _

-- *A packet enters*: its first frame is number 1

not_control : (number : ℕ) → is_control (record { packet = number; frame = 0 }) ≡ false
not_control number = by (number == 0) where
  by : (b : Bool) → (b && nat_lt 0 0) ≡ false
  by true = refl
  by false = refl

plain_is : (a : Acted) (came : Mark) (channel : Channel) (payload : List ℕ) → is_control came ≡ false → sends a channel (next_mark came) payload ≡ sends_next a came channel payload
plain_is a came channel payload e = rw e refl

pub enters_is : (a : Acted) (number : ℕ) (port : PortNo) (packet : List ℕ) (o : Option Grant)
    → sends a (way_by port (option_map granted o)).channel (record { packet = number; frame = 1 }) (payload_by packet (option_map granted o)) ≡ goes_by a (record { packet = number; frame = 0 }) port packet o
enters_is a number port packet None = plain_is a (record { packet = number; frame = 0 }) _ _ (not_control number)
enters_is a number port packet (Some grant) = plain_is a (record { packet = number; frame = 0 }) _ _ (not_control number)
