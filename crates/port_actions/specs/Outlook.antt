-- What will stand at a desk once actions are done, by what differs from the desk

use Rattle.std.specs.Prelude.{◌≡◌, ℕ, Bool, false, not, ◌||◌, ◌==◌, ◌≤◌, List, length, filter, fold, is_some}
use Rattle.std.specs.Option.{option_map_or}
use Rattle.std.specs.Map.{lookup}
use Rattle.net_types.specs.declared.node.PortNo.{PortNo}
use Rattle.net_types.specs.declared.channel.End.{End}
use Rattle.crossbar_model.specs.Crossbar.{same_end}
use Rattle.port_model.specs.Desk.{Desk, on_input, all_on}
use Rattle.port_model.specs.Requests.{is_on_port}
use Rattle.branch_desk.specs.Requests.{AreApart}
use Rattle.port_model.specs.declared.action.Action.{Action}
use Rattle.port_model.specs.Port.{desk_with}

-- how many requests will stand, whether one will stand on each of these inputs, and the ports of which Delete
-- All is asked
pub record Outlook : Type 0 where
  pub many : ℕ
  pub inputs : List (End × Bool)
  pub deleted : List (PortNo × Bool)

-- a request will stand on the input; Delete All of the port will stand
abbrev pub stands : Outlook → Desk → End → Bool
stands outlook desk input =
    option_map_or (λ (b : Bool). b) (lookup (same_end input) outlook.inputs) (on_input desk input)

abbrev pub deletes : Outlook → Desk → PortNo → Bool
deletes outlook desk port =
    is_some (lookup (λ (other : PortNo). port.0 == other.0) outlook.deleted) || all_on desk port

-- so many requests stand at a desk, on these inputs, and Delete All of these ports
pub record IsTold (many : ℕ) (input : End → Bool) (delete : PortNo → Bool) (desk : Desk) : Type 0 where
  pub count : many ≡ length desk.standing
  pub inputs : (end : End) → input end ≡ on_input desk end
  pub deletes : (port : PortNo) → delete port ≡ all_on desk port
  pub apart : AreApart desk.standing

-- it tells of the desk as it will be
abbrev pub Tells : Outlook → (desk later : Desk) → Type 0
Tells outlook desk later = IsTold outlook.many (stands outlook desk) (deletes outlook desk) later

abbrev pub Foresees : Outlook → Desk → List Action → Type 0
Foresees outlook desk actions = Tells outlook desk (fold desk_with desk actions)

-- what stands on inputs of a port, and nothing else, may be gone
pub record IsCleared (port : PortNo) (before after : Desk) : Type 0 where
  pub next : after.next ≡ before.next
  pub rows : after.rows ≡ before.rows
  pub others : filter (λ s. not (is_on_port port s.request)) after.standing ≡ filter (λ s. not (is_on_port port s.request)) before.standing

pub record Clears (port : PortNo) (desk : Desk) (old new : Outlook) : Type 0 where
  pub many : new.many ≤ old.many
  pub deleted : new.deleted ≡ old.deleted
  pub falls : (end : End) → stands old desk end ≡ false → stands new desk end ≡ false
  pub tells : (later : Desk) → Tells old desk later → (left : Desk) × Tells new desk left × IsCleared port later left
