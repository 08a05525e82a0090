-- What a packet that is sent on has to be, so that the lines of labels follow it

use Rattle.std.specs.Prelude.{◌≡◌, ◌≢◌, ℕ, ◌≤◌, ◌==◌, true, false, List, length, None, Some}
use Rattle.law_controller_views.specs.world_model.Words.{PortNo, Mark, is_label_number, protocol_of, payload_of, next_mark, Grant, Controller, Linked, linked_at, is_control, control_protocol}
use Rattle.law_controller_views.specs.ordered_lists.Ordered.{Every}
use Rattle.law_controller_views.specs.world_model.Controller.{Acted}

-- *The mark of its next frame*: nothing was made under it
pub data IsFree (a : Acted) (came : Mark) : Type 0 where
  of_control : is_control came ≡ true → IsFree a came
  of_packet : came.packet ≢ 0 → payload_of a.notes.frames (next_mark came) ≡ None → IsFree a came

-- a packet with a header that is no message of IFMP
pub record IsPlain (packet : List ℕ) : Type 0 where
  pub long : 20 ≤ length packet
  pub protocol : (protocol_of packet == control_protocol) ≡ false

-- the labels under which the ports of a controller may send have numbers of labels
abbrev pub HasLabelGrants : Controller → Type 0
HasLabelGrants c = (port : PortNo) (linked : Linked) → linked_at c port ≡ Some linked
    → Every (λ (grant : Grant). is_label_number grant.label ≡ true) linked.port.grants
