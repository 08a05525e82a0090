-- What a table of grants is seen as, and what its calls make of it

use Rattle.std.specs.Prelude.{◌≡◌, ℕ, Bool, true, false, not, ◌-◌, ◌==◌, ◌&&◌, nat_lt, nat_le, List, [], ◌∷◌, ◌++◌, Option, None, Some, Result, Ok, Err, option_map, IsTrue, if◌then◌else◌}
use Rattle.std.specs.List.{AllByRecursion}
use Rattle.std.specs.Option.{option_map_or}
use Rattle.net_types.specs.declared.channel.End.{End}
use Rattle.net_types.specs.Label.{is_label_number, label_number_of}
use Rattle.ipv4_packet.specs.declared.flow.FlowId.{FlowId}
use Rattle.gsmp_wire.specs.declared.request.Request.{Request}
use Rattle.gsmp_wire.specs.declared.request.Request.TheVariants.{AddBranch}
use Rattle.branch_desk.specs.port_model.Requests.{leads_home}
use Rattle.keyed_lists.specs.Keyed.{at, put, without}
use Rattle.branch_desk.specs.port_model.Setup.{home_of}
use Rattle.branch_desk.specs.port_model.Grants.{Grant, GrantState, Idle, ByController, ByInput, Leaving, Acceptance, acceptance_beside, grant_label, lent_input, is_leaving}
use Rattle.branch_desk.specs.port_model.Grants as grants
use Rattle.grant_table.specs.declared.table.GrantState as view
use Rattle.grant_table.specs.declared.table.GrantState.TheVariants as states
use Rattle.grant_table.specs.declared.table.GrantView.{GrantView}
use Rattle.grant_table.specs.declared.table.Accepted.{Accepted}
use Rattle.grant_table.specs.declared.table.Accepted.TheVariants.{New, Refreshed}
use Rattle.grant_table.specs.declared.table.AcceptFault.{AcceptFault}
use Rattle.grant_table.specs.declared.table.AcceptFault.TheVariants as faults

-- the range of labels that it takes, by their numbers, and the grants in the order of acceptance
pub record Table : Type 0 where
  pub least : ℕ
  pub greatest : ℕ
  pub grants : List Grant

-- no two grants are of one label
abbrev pub AreApart : List Grant → Type 0
AreApart [] = Unit {0}
AreApart (grant ∷ grants) = (at grant_label grant.label grants ≡ None) × AreApart grants

-- each grant is of a label
abbrev pub AreOfLabels : List Grant → Type 0
AreOfLabels grants = AllByRecursion (λ grant. IsTrue (is_label_number grant.label)) grants

abbrev pub grant_of : Table → (label : ℕ) → Option Grant
grant_of table label = at grant_label label table.grants

abbrev pub state_of : Table → (label : ℕ) → Option GrantState
state_of table label = option_map (λ grant. grant.state) (grant_of table label)

-- the input that the grant of a label is lent to
abbrev pub lent_to : Table → (label : ℕ) → Option End
lent_to table label = option_map_or (λ grant. lent_input grant.state) (grant_of table label) None

-- *A change*: another grant has its place; its grant is in another state; it has ended
abbrev pub with_grant : Table → Grant → Table
with_grant table grant = record table { grants = put grant_label grant table.grants }

abbrev pub in_state : Table → (label : ℕ) → GrantState → Table
in_state table label state =
    option_map_or (λ grant. with_grant table (record grant { state = state })) (grant_of table label) table

abbrev pub ended : Table → (label : ℕ) → Table
ended table label = record table { grants = without grant_label label table.grants }

-- *Evidence*: the request that makes the branch of a label from the controller; the requests that
-- release the input that a grant is lent to
abbrev pub makes_branch : (label : ℕ) → Request → Bool
makes_branch label (AddBranch input output) =
    input.port.0 == 0 && option_map_or (λ number. number == label) (label_number_of output.channel) false
makes_branch label request = false

abbrev pub releases : Request → End → Bool
releases request input = leads_home input (home_of input) request

-- a grant that is lent is the controller's again; a grant can end
abbrev pub can_go_back : Request → GrantState → Bool
can_go_back request (ByInput input) = releases request input
can_go_back request state = false

abbrev pub can_end : Option Request → GrantState → Bool
can_end None Idle = true
can_end None ByController = true
can_end (Some request) (Leaving input owed) = releases request input
can_end request state = false

-- whether the peer is owed an acknowledgement
abbrev pub is_owed : GrantState → Bool
is_owed (Leaving input owed) = owed
is_owed state = false

-- *Acceptance* of a label of the table's range, as it is answered, and the grants behind it
abbrev pub is_in_range : Table → (label : ℕ) → Bool
is_in_range table label = is_label_number label && (nat_le table.least label && nat_le label table.greatest)

abbrev pub acceptance_in : Table → (label : ℕ) → FlowId → Acceptance
acceptance_in table label flow =
    if is_in_range table label
    then acceptance_beside table.grants label flow (grant_of table label)
    else grants.OutOfRange

abbrev pub told : Acceptance → Result Accepted AcceptFault
told (grants.New label) = Ok New
told (grants.Refreshed grant) = Ok Refreshed
told grants.OutOfRange = Err faults.OutOfRange
told grants.Taken = Err faults.Taken
told grants.IsLeaving = Err faults.Leaving
told grants.GrantsFull = Err faults.GrantsFull

abbrev pub accepted : Table → FlowId → (lifetime : ℕ) → Acceptance → Table
accepted table flow lifetime (grants.New label) =
    record table { grants = table.grants ++ record { label = label; flow = flow; lifetime = lifetime; state = Idle } ∷ [] }
accepted table flow lifetime (grants.Refreshed grant) = with_grant table (record grant { lifetime = lifetime })
accepted table flow lifetime refusal = table

-- *A tick* takes one from the lifetime of a grant that isn't leaving and has some left; none is left by
-- this tick
abbrev pub ages : Grant → Bool
ages grant = not (is_leaving grant.state) && nat_lt 0 grant.lifetime

abbrev pub aged : Grant → Grant
aged grant = if ages grant then record grant { lifetime = grant.lifetime - 1 } else grant

abbrev pub runs_out : Grant → Bool
runs_out grant = not (is_leaving grant.state) && grant.lifetime == 1

-- *A grant as it is read*
abbrev pub kind_of : GrantState → view.GrantState
kind_of Idle = states.Idle
kind_of ByController = states.ByController
kind_of (ByInput input) = states.ByInput
kind_of (Leaving input owed) = states.Leaving

abbrev pub view_of : Grant → GrantView
view_of grant = record {
  label = grant.label;
  state = kind_of grant.state;
  flow = grant.flow;
  lifetime = grant.lifetime;
  input = lent_input grant.state;
  owed = is_owed grant.state;
}
