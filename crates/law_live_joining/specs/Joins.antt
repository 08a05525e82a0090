-- What is joined at a controller: a label on its input, and the grant that is lent to the input

use Rattle.std.specs.Prelude.{◌≡◌, ℕ, Option, None, Some, if◌then◌else◌}
use Rattle.std.specs.Option.{option_map, option_and_then}
use Rattle.world_model.specs.Words.{PortNo, End, FlowId, at, Label, Grant, GrantState, ByInput, grant_label, is_offered, label_on, Controller}
use Rattle.world_model.specs.Joins.{Join, output_joined}
use Rattle.law_live_joins.specs.Law.{granted_at}

-- *What a label is joined to*, with its flow, where it is offered and joined
abbrev pub joined_label : Label → Option (FlowId × End)
joined_label label = if is_offered label.state then option_map (λ (output : End). (label.flow, output)) label.join else None

abbrev pub joined_on : Controller → (input : End) → Option (FlowId × End)
joined_on c input = option_and_then joined_label (label_on c input)

-- *Whom a grant is lent to*, with its flow, where it is lent to an input and isn't leaving
abbrev pub by_input : GrantState → Option End
by_input (ByInput input) = Some input
by_input state = None

abbrev pub lent_grant : Grant → Option (FlowId × End)
lent_grant grant = option_map (λ (input : End). (grant.flow, input)) (by_input grant.state)

abbrev pub lent_on : Controller → PortNo → (label : ℕ) → Option (FlowId × End)
lent_on c port label = option_and_then lent_grant (at grant_label label (granted_at c port))

-- *A join holds*: the label of this flow on its input is joined to its output, and the grant of its output's label, of the same
-- flow as before, is lent to its input
pub record IsJoinHeld (c : Controller) (flow : FlowId) (join : Join) : Type 0 where
  pub joined : joined_on c join.input ≡ Some (flow, output_joined join)
  pub lent : lent_on c join.port join.grant.label ≡ Some (join.grant.flow, join.input)

-- *All joins are kept*: whatever is joined is joined so still, and whatever is lent is lent so
pub record KeepsJoins (before after : Controller) : Type 0 where
  pub joined : (input : End) (what : FlowId × End) → joined_on before input ≡ Some what → joined_on after input ≡ Some what
  pub lent : (port : PortNo) (label : ℕ) (what : FlowId × End) → lent_on before port label ≡ Some what → lent_on after port label ≡ Some what
