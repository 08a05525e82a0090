-- What a call makes of a port's engine

use Rattle.std.specs.Prelude.{◌≡◌, ◌==◌, ℕ, Bool, false, List, None, Some, IsTrue}
use Rattle.std.specs.Option.{option_map_or}
use Rattle.net_types.specs.Label.{is_label_channel}
use Rattle.keyed_lists.specs.Keyed.{at}
use Rattle.grant_table.specs.Table.{releases}
use Rattle.gsmp_wire.specs.declared.request.Request.{Request}
use Rattle.gsmp_wire.specs.declared.request.Request.TheVariants.{MoveBranch}
use Rattle.port_model.specs.declared.action.Action.{Action}
use Rattle.port_model.specs.Labels.{Label, Offered}
use Rattle.port_model.specs.Grants.{Grant, GrantState, ByController, grant_label, lent_input}
use Rattle.port_model.specs.Port.{Port, Work, label_at}
use Rattle.port_model.specs.Setup.{Setup}
use Rattle.world_model.specs.Opening.{opens_port}
use Rattle.controller_gsmp.specs.Client.{PortEnd}

-- a port at work that hasn't asked to be reset
abbrev pub begun : Port → List Action → (instances : ℕ) → Work
begun port actions instances = record { port = port; actions = actions; halted = false; instances = instances }

-- a call has done a rule of the port: the engine is at the rule's port, the list is that of the rule's
-- actions, and so many instances are given out
pub record HasDone (old new : PortEnd) (list : List Action) (given : ℕ) (w : Work) : Type 0 where
  pub port : new.port ≡ w.port
  pub actions : list ≡ w.actions
  pub instances : given ≡ w.instances

-- a request that is answered moves no branch but those of labels, and moves them to labels alone, or to the
-- control link
abbrev pub CanBeDone : Request → Type 0
CanBeDone (MoveBranch input from to) =
    IsTrue (is_label_channel input.channel) × ((to.port.0 == 0) ≡ false → IsTrue (is_label_channel to.channel))
CanBeDone request = Unit {0}

-- *Joins*: a label that is offered and isn't joined; a grant under which the router sends; one whose input a request
-- that is answered releases
pub record IsFree (port : Port) (number : ℕ) : Type 0 where
  pub label : Label
  pub held : label_at port number ≡ Some label
  pub offered : label.state ≡ Offered
  pub unjoined : label.join ≡ None

pub record IsSentUnder (port : Port) (number : ℕ) : Type 0 where
  pub grant : Grant
  pub granted : at grant_label number port.grants ≡ Some grant
  pub sent : grant.state ≡ ByController

abbrev pub is_released_by : Request → GrantState → Bool
is_released_by request state = option_map_or (releases request) (lent_input state) false

pub record IsReleased (request : Request) (port : Port) (number : ℕ) : Type 0 where
  pub grant : Grant
  pub granted : at grant_label number port.grants ≡ Some grant
  pub released : IsTrue (is_released_by request grant.state)

-- *An engine that is opened*, where so many instances are given out before
abbrev pub opened_end : Setup → (instances : ℕ) → PortEnd
opened_end setup instances = record { setup = setup; port = (opens_port setup instances).port }
