-- The labels that a port hands out (RFC 1953)

use Rattle.std.specs.Prelude.{ℕ, Bool, true, false, not, ◌&&◌, List, find, Option, is_some}
use Rattle.net_types.specs.declared.channel.Channel.{Channel}
use Rattle.net_types.specs.declared.channel.End.{End}
use Rattle.net_types.specs.Label.{label_channel_of}
use Rattle.link_model.specs.ipv4_packet.declared.flow.FlowId.{FlowId}
use Rattle.link_model.specs.ipv4_packet.Parts.{same_flow}
use Rattle.keyed_lists.specs.Keyed.{at}
use Rattle.port_model.specs.Setup.{Setup, label_numbers, is_between}

-- A label is being wired while its branch to the controller is being made. Then it is offered, and then
-- recalled: it has been reclaimed, the last time under this number, and that was acknowledged or not. When
-- it was quit it is wired until that branch is deleted.
pub data LabelState : Type 0 where
  Wiring : LabelState
  Offered : LabelState
  Recalled : (last : ℕ) → (acknowledged : Bool) → LabelState
  Wired : LabelState

-- a label that is held: the flow that it is wired for, or is or was bound to; for how many ticks no packet
-- used it; how many ticks ago the last REDIRECT was sent; where its input is joined to
pub record Label : Type 0 where
  pub number : ℕ
  pub state : LabelState
  pub flow : FlowId
  pub idle : ℕ
  pub ticks : ℕ
  pub join : Option End

abbrev pub label_number : Label → ℕ
label_number label = label.number

-- a binding exists while a label is offered or recalled
abbrev pub is_bound : LabelState → Bool
is_bound Offered = true
is_bound (Recalled last acknowledged) = true
is_bound state = false

-- it is bound, or is being wired
abbrev pub serves : LabelState → Bool
serves Wired = false
serves state = true

-- the label that is bound to a flow or is being wired for it
abbrev pub label_for : List Label → FlowId → Option Label
label_for labels flow = find (λ label. serves label.state && same_flow label.flow flow) labels

-- a label that isn't held is spare
abbrev pub is_spare : List Label → (number : ℕ) → Bool
is_spare labels number = not (is_some (at label_number number labels))

-- the lowest spare label of the port's range that lies between two channels
abbrev pub lowest_spare : Setup → (least greatest : Channel) → List Label → Option ℕ
lowest_spare setup least greatest labels =
    find (λ number. is_between least greatest (label_channel_of number) && is_spare labels number) (label_numbers setup)
