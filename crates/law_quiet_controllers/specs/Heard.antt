-- What may come to a controller: it sends packets on by ports of links, and the records of ports that its switch tells are
-- such as its messages can be read by

use Rattle.std.specs.Prelude.{◌≡◌, ◌≢◌, ℕ, ◌≤◌, ◌==◌, true, false, nat_lt, List, ◌∷◌, Some, Ok}
use Rattle.law_controller_facts.specs.world_model.Words.{Mark, Cell, hop_of, On, PortNo, payload_in, Setup, Controller, is_control, ForGsmp, ForDefault, ForLabel, taker_of, reassembly_of}
use Rattle.law_controller_facts.specs.world_model.gsmp_wire.Fields.{decoded}
use Rattle.law_controller_facts.specs.world_model.gsmp_wire.declared.message.Message.{Message}
use Rattle.law_controller_facts.specs.world_model.gsmp_wire.declared.message.Message.TheVariants.{AllPorts}
use Rattle.law_controller_facts.specs.world_model.frame_model.Frame.{octets_of}
use Rattle.law_controller_facts.specs.world_model.frame_model.Reassembly.{taken}
use Rattle.law_controller_facts.specs.world_model.Controller.{Acted, free_slots}
use Rattle.law_controller_facts.specs.world_model.Cells.{Taker}
use Rattle.law_quiet_controllers.specs.Quiet.{AreRead}

abbrev pub RowsAreRead : List Setup → Message → Type 0
RowsAreRead setups (AllPorts result code number rows) = (result == 3) ≡ true → AreRead setups rows
RowsAreRead setups message = Unit {0}

-- by who takes the cells of the channel: on a link, a frame that isn't under a control mark is under a packet's
abbrev pub IsHeard : List Setup → Mark → Taker → (payload : List ℕ) → Type 0
IsHeard setups mark ForGsmp payload = (message : Message) → decoded payload ≡ Ok message → RowsAreRead setups message
IsHeard setups mark (ForDefault linked) payload = is_control mark ≡ false → mark.packet ≢ 0
IsHeard setups mark (ForLabel linked label) payload = is_control mark ≡ false → mark.packet ≢ 0

-- routes lead to ports of links
abbrev pub LeadsToLinks : Controller → Type 0
LeadsToLinks c = (packet : List ℕ) (port : PortNo) → hop_of c.table packet ≡ On port → 1 ≤ port.0

-- *A cell* may come: if it ends a chain that passes its test, the frame is such a one
pub record CanCome (setups : List Setup) (a : Acted) (cell : Cell) : Type 0 where
  pub by_links : LeadsToLinks a.controller
  pub heard : (taker : Taker) (first : Cell) (cells : List Cell) (payload : List ℕ) → taker_of a.controller cell.header.channel ≡ Some taker
      → (taken a.notes (nat_lt 0 (free_slots a.controller)) (reassembly_of a.controller taker) cell).ended ≡ first ∷ cells → payload_in (octets_of (first ∷ cells)) ≡ Some payload
      → IsHeard setups cell.mark taker payload
