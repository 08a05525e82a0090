-- The labels under which a port may send (RFC 1953). That a grant is lent to an input which is joined to
-- it, and the limit, are this project's own.

use Rattle.std.specs.Prelude.{ℕ, Bool, true, false, not, ◌&&◌, nat_lt, List, length, find, Option, None, Some, if◌then◌else◌}
use Rattle.std.specs.Option.{option_or, option_map_or}
use Rattle.net_types.specs.declared.channel.Channel.{Channel}
use Rattle.net_types.specs.declared.channel.End.{End}
use Rattle.net_types.specs.Label.{label_number_of}
use Rattle.link_model.specs.ipv4_packet.declared.flow.FlowKind.{FlowKind}
use Rattle.link_model.specs.ipv4_packet.declared.flow.FlowKind.TheVariants.{One, Two}
use Rattle.link_model.specs.ipv4_packet.declared.flow.FlowId.{FlowId}
use Rattle.link_model.specs.ipv4_packet.Flow.{flow_of}
use Rattle.link_model.specs.ipv4_packet.Parts.{same_flow}
use Rattle.keyed_lists.specs.Keyed.{at}
use Rattle.port_model.specs.Setup.{Setup, is_in_range}

-- its branch is being made; the controller sends under it; an input is joined to it; it is to end when
-- that input is released, and the peer then is, or isn't, owed an acknowledgement
pub data GrantState : Type 0 where
  Idle : GrantState
  ByController : GrantState
  ByInput : (input : End) → GrantState
  Leaving : (input : End) → (owed : Bool) → GrantState

pub record Grant : Type 0 where
  pub label : ℕ
  pub flow : FlowId
  pub lifetime : ℕ
  pub state : GrantState

abbrev pub grant_label : Grant → ℕ
grant_label grant = grant.label

-- the grant that a message names by its label's channel
abbrev pub grant_on : List Grant → Option ℕ → Option Grant
grant_on grants None = None
grant_on grants (Some number) = at grant_label number grants

abbrev pub is_by_controller : GrantState → Bool
is_by_controller ByController = true
is_by_controller state = false

abbrev pub is_leaving : GrantState → Bool
is_leaving (Leaving input owed) = true
is_leaving state = false

-- the input that a grant is lent to
abbrev pub lent_input : GrantState → Option End
lent_input (ByInput input) = Some input
lent_input (Leaving input owed) = Some input
lent_input state = None

-- the first grant of a flow under which the controller sends
abbrev pub grant_for : List Grant → FlowId → Option Grant
grant_for grants flow = find (λ grant. is_by_controller grant.state && same_flow grant.flow flow) grants

-- the one for a packet: by its flow of type 1, else by its flow of type 2
abbrev pub grant_of_kind : List Grant → FlowKind → (packet : List ℕ) → Option Grant
grant_of_kind grants kind packet = option_map_or (grant_for grants) (flow_of kind packet) None

abbrev pub grant_matching : List Grant → (packet : List ℕ) → Option Grant
grant_matching grants packet = option_or (grant_of_kind grants One packet) (grant_of_kind grants Two packet)

-- what a port makes of a REDIRECT: a new grant of this label, or a grant that is there and is refreshed;
-- else a refusal: the label is outside its range, another flow holds it, its grant is leaving, there are
-- 256 grants
pub data Acceptance : Type 0 where
  New : (label : ℕ) → Acceptance
  Refreshed : Grant → Acceptance
  OutOfRange : Acceptance
  Taken : Acceptance
  IsLeaving : Acceptance
  GrantsFull : Acceptance

abbrev pub most_grants : ℕ
most_grants = 256

abbrev pub acceptance_beside : List Grant → (label : ℕ) → FlowId → Option Grant → Acceptance
acceptance_beside grants label flow None = if nat_lt (length grants) most_grants then New label else GrantsFull
acceptance_beside grants label flow (Some grant) =
    if not (same_flow grant.flow flow) then Taken
    else (if is_leaving grant.state then IsLeaving else Refreshed grant)

abbrev pub acceptance_of : Setup → List Grant → FlowId → Option ℕ → Acceptance
acceptance_of setup grants flow None = OutOfRange
acceptance_of setup grants flow (Some label) =
    if is_in_range setup label then acceptance_beside grants label flow (at grant_label label grants) else OutOfRange

abbrev pub acceptance : Setup → List Grant → Channel → FlowId → Acceptance
acceptance setup grants channel flow = acceptance_of setup grants flow (label_number_of channel)
