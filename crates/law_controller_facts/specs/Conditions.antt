-- What the calls of a controller's parts ask of the requests that stand and of its joins

use Rattle.std.specs.Prelude.{◌≡◌, ◌≤◌, ◌<◌, ◌==◌, false, List, Some, IsTrue}
use Rattle.claims_model.specs.world_model.Words.{End, is_label_channel, Request, MoveBranch, PortManagement, at, Standing, Setup, grant_label, Controller, Linked, linked_at, joins_of}
use Rattle.law_port_facts.specs.ordered_lists.Ordered.{Every}
use Rattle.claims_model.specs.world_model.port_model.Grants.{lent_input}
use Rattle.law_port_facts.specs.Port.{IsLabelEnd}
use Rattle.claims_model.specs.world_model.Joins.{Join, output_joined}

-- *Requests*: none manages a port. A Move Branch moves the branch of a label's channel, and moves it to a
-- label's channel or to the control link
abbrev pub MovesLabels : Request → Type 0
MovesLabels (MoveBranch input from to) =
    IsTrue (is_label_channel input.channel) × ((to.port.0 == 0) ≡ false → IsTrue (is_label_channel to.channel))
MovesLabels (PortManagement port function) = ⊥
MovesLabels request = Unit {0}

abbrev pub HasMovingRequests : List Setup → Controller → Type 0
HasMovingRequests setups c = Every (λ (s : Standing). MovesLabels s.request) c.desk.standing

-- *Joins*: the grant of a join is found at its port, and is lent to its very input. Both are labels' channels of
-- linked ports
pub record IsGranted (setups : List Setup) (c : Controller) (join : Join) : Type 0 where
  pub linked : Linked
  pub found : linked_at c join.port ≡ Some linked
  pub granted : at grant_label join.grant.label linked.port.grants ≡ Some join.grant
  pub lent : lent_input join.grant.state ≡ Some join.input
  pub input : IsLabelEnd setups join.input
  pub output : IsLabelEnd setups (output_joined join)

abbrev pub HasGrantedJoins : List Setup → Controller → Type 0
HasGrantedJoins setups c = Every (IsGranted setups c) (joins_of c)

-- *A channel of a link* that the control link has too
pub record HasHome (end : End) : Type 0 where
  pub least : 1 ≤ end.port.0
  pub most : end.port.0 ≤ 8
  pub vpi : end.channel.vpi < 16
