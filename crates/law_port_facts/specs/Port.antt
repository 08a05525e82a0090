-- What holds of a port, whatever its peer says

use Rattle.std.specs.Prelude.{◌≡◌, ◌≢◌, ℕ, ◌≤◌, ◌<◌, true, false, List, [], length, None, Some, is_some, ◌⊎◌}
use Rattle.port_model.specs.Words.{PortNo, Channel, End, is_label_number, IsFlow, InRange, Request, AddBranch, MoveBranch, DeleteTree, Clearing, IsSide, is_estab, Redirect, Reclaim, at, Setup, is_in_range, label_end, home_of, Label, Wiring, label_number, Grant, GrantState, Leaving, is_leaving, most_grants, Work, labels_of}
use Rattle.port_model.specs.gsmp_wire.declared.request.Request.TheVariants.{DeleteAll, AllPorts}
use Rattle.port_model.specs.ifmp_wire.declared.message.Message.{Message}
use Rattle.ordered_lists.specs.Ordered.{Every, InOrder}
use Rattle.port_model.specs.declared.action.Action.{Action}
use Rattle.port_model.specs.declared.action.Action.TheVariants.{Say, Ask, TakeBack}
use Rattle.port_model.specs.Grants.{lent_input}
use Rattle.port_model.specs.Port.{Port}

-- the linked ports of a node, by what stays the same of them
abbrev pub setup_port : Setup → ℕ
setup_port setup = setup.port.0

-- the channel of a label in the range of a linked port
pub record IsLabelEnd (setups : List Setup) (end : End) : Type 0 where
  pub setup : Setup
  pub number : ℕ
  pub linked : at setup_port setup.port.0 setups ≡ Some setup
  pub in_range : is_in_range setup number ≡ true
  pub is : end ≡ label_end setup.port number

-- *Labels*: one is held once; it is joined to a label's channel, and not while it is being wired
pub record IsLabel (setups : List Setup) (setup : Setup) (label : Label) : Type 0 where
  pub in_range : is_in_range setup label.number ≡ true
  pub output : (output : End) → label.join ≡ Some output → IsLabelEnd setups output
  pub unjoined : label.state ≡ Wiring → label.join ≡ None

abbrev pub IsBefore : Label → Label → Type 0
IsBefore x y = label_number x < label_number y

-- *Grants*: one of a label; it is lent to a label's channel, and it lives unless it is leaving
pub record IsGrant (setups : List Setup) (setup : Setup) (grant : Grant) : Type 0 where
  pub in_range : is_in_range setup grant.label ≡ true
  pub input : (input : End) → lent_input grant.state ≡ Some input → IsLabelEnd setups input
  pub lives : is_leaving grant.state ≡ false → 1 ≤ grant.lifetime

abbrev pub IsApart : Grant → Grant → Type 0
IsApart x y = x.label ≢ y.label

-- one that is leaving, and owes nothing
pub data OwesNothing : GrantState → Type 0 where
  owes_nothing : (input : End) → OwesNothing (Leaving input false)

abbrev pub GrantOwesNothing : Grant → Type 0
GrantOwesNothing grant = OwesNothing grant.state

-- *A port*: it has a session exactly in Estab; otherwise its grants are leaving and owe nothing, and it has
-- some in Clearing alone
pub record IsPort (setups : List Setup) (setup : Setup) (port : Port) : Type 0 where
  pub side : IsSide port.adjacency
  pub session : is_some port.session ≡ is_estab port.adjacency.state
  pub labels : Every (IsLabel setups setup) (labels_of port)
  pub ascend : InOrder IsBefore (labels_of port)
  pub grants : Every (IsGrant setups setup) port.grants
  pub apart : InOrder IsApart port.grants
  pub few : length port.grants ≤ most_grants
  pub closed : is_estab port.adjacency.state ≡ false → Every GrantOwesNothing port.grants
  pub cleared : is_estab port.adjacency.state ≡ false → (port.adjacency.state ≡ Clearing) ⊎ (port.grants ≡ [])

-- *A port that is shut*, as before its switch is met: in Clearing, without a session and without grants
pub record IsShut (port : Port) : Type 0 where
  pub clearing : port.adjacency.state ≡ Clearing
  pub session : port.session ≡ None
  pub grants : port.grants ≡ []

-- *Requests*: the shapes of those that a controller asks
abbrev pub IsLinked : List Setup → PortNo → Type 0
IsLinked setups port = is_some (at setup_port port.0 setups) ≡ true

-- the default channel of a linked port, or that of the control link
pub record IsDefaultEnd (setups : List Setup) (end : End) : Type 0 where
  pub port : (end.port.0 ≡ 0) ⊎ IsLinked setups end.port
  pub vpi : end.channel.vpi ≡ 0
  pub vci : end.channel.vci ≡ 15

pub data IsShaped (setups : List Setup) : Request → Type 0 where
  asks_ports : IsShaped setups AllPorts
  empties_control : (port : PortNo) → port.0 ≡ 0 → IsShaped setups (DeleteAll port)
  empties_port : (port : PortNo) → IsLinked setups port → IsShaped setups (DeleteAll port)
  opens_input : (end : End) → IsDefaultEnd setups end → IsShaped setups (AddBranch end (home_of end))
  opens_output : (end : End) → IsDefaultEnd setups end → IsShaped setups (AddBranch (home_of end) end)
  leads_label : (end : End) → IsLabelEnd setups end → IsShaped setups (AddBranch end (home_of end))
  leads_grant : (end : End) → IsLabelEnd setups end → IsShaped setups (AddBranch (home_of end) end)
  joins_label : (input output : End) → IsLabelEnd setups input → IsLabelEnd setups output
      → IsShaped setups (MoveBranch input (home_of input) output)
  parts_label : (input output : End) → IsLabelEnd setups input → IsLabelEnd setups output
      → IsShaped setups (MoveBranch input output (home_of input))
  frees_label : (end : End) → IsLabelEnd setups end → IsShaped setups (DeleteTree end)

-- what a port asks: it moves no branch, but by a join that it takes back
abbrev pub MovesNone : Request → Type 0
MovesNone (MoveBranch input from to) = ⊥
MovesNone request = Unit {0}

abbrev pub IsAction : List Setup → Action → Type 0
IsAction setups (Ask request needed) = IsShaped setups request × MovesNone request
IsAction setups (TakeBack input output) = IsLabelEnd setups input × IsLabelEnd setups output
IsAction setups action = Unit {0}

-- *A message* that is heard, and may name these channels: a REDIRECT has a lifetime, and a flow is one that
-- packets can have
abbrev pub IsHeard : (Channel → Type 0) → Message → Type 0
IsHeard Heard (Redirect sender peer number lifetime channel flow) = (1 ≤ lifetime) × Heard channel × IsFlow flow
IsHeard Heard (Reclaim sender peer number channel flow) = Heard channel × IsFlow flow
IsHeard Heard message = Unit {0}

abbrev pub AnyChannel : Channel → Type 0
AnyChannel channel = Unit {0}

abbrev pub Lives : Message → Type 0
Lives message = IsHeard AnyChannel message

-- *Flows*: those of labels and grants are flows that packets can have
pub record HasFlows (port : Port) : Type 0 where
  pub labels : Every (λ (label : Label). IsFlow label.flow) (labels_of port)
  pub grants : Every (λ (grant : Grant). IsFlow grant.flow) port.grants

-- *What is said* is in the range of IFMP's messages
abbrev pub IsSayable : Action → Type 0
IsSayable (Say message) = InRange message
IsSayable action = Unit {0}

-- what a port is opened with: a lifetime, and a range of labels that isn't empty
pub record IsRanged (setup : Setup) : Type 0 where
  pub lifetime : 1 ≤ setup.timers.lifetime
  pub least : is_label_number setup.least ≡ true
  pub greatest : is_label_number setup.greatest ≡ true
  pub order : setup.least ≤ setup.greatest

-- *A port at work*
pub record IsWork (setups : List Setup) (setup : Setup) (w : Work) : Type 0 where
  pub port : IsPort setups setup w.port
  pub actions : Every (IsAction setups) w.actions
