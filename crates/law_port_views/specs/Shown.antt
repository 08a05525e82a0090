-- What a port at work shows of the line of a label: the port's part of the line, as a relation. A relation that
-- speaks of a part of the line alone stays as it is where another part changes.

use Rattle.std.specs.Prelude.{◌≡◌, ℕ, ◌+◌, ◌≤◌, ◌⊎◌, false, List, [], ◌∷◌, ◌++◌, is_some, Option, None, Some}
use Rattle.std.specs.Option.{option_map_or}
use Rattle.law_port_facts.specs.port_model.Words.{State, Clearing, is_estab, SideByInstances, router, side_of, at, Label, LabelState, Wiring, Offered, Recalled, Wired, Grant, GrantState, Idle, ByController, ByInput, Leaving, grant_label, Session, Work, label_at, spent_number}
use Rattle.law_port_facts.specs.ordered_lists.Ordered.{Every}
use Rattle.law_label_line.specs.Cells.{Role, Downstream, Upstream, Cell}
use Rattle.law_label_line.specs.Line as lines
use Rattle.law_label_line.specs.Line.{Line}
use Rattle.law_port_views.specs.Link.{LinkLabel, other}
use Rattle.law_port_views.specs.Flows.{flow_number}
use Rattle.law_port_views.specs.Heard.{IsOwn, asked_all}

-- *The parts of a line*: what one end of it holds
pub record Part : Type 0 where
  pub side : SideByInstances
  pub label : lines.Label
  pub flow : ℕ
  pub number : ℕ
  pub known : ℕ
  pub reassembly : List ℕ
  pub grant : lines.Grant
  pub expected : ℕ
  pub fresh : ℕ
  pub sent : List Cell

abbrev pub part_of : Role → Line → Part
part_of Downstream line = record {
  side = line.downstream;
  label = line.label;
  flow = line.flow;
  number = line.number;
  known = line.known;
  reassembly = line.reassembly;
  grant = lines.NoGrant;
  expected = 0;
  fresh = line.fresh;
  sent = line.to_upstream.to_switch;
}
part_of Upstream line = record {
  side = line.upstream;
  label = lines.Spare;
  flow = 0;
  number = 0;
  known = 0;
  reassembly = [];
  grant = line.grant;
  expected = line.expected;
  fresh = line.fresh;
  sent = line.to_downstream.to_switch;
}

-- and a line without it: the moves of an end leave all that is the other end's, the switches' and the other way's
abbrev pub nobody : SideByInstances
nobody = record { state = Clearing; own = 0; stored = 0 }

abbrev pub rest_of : Role → Line → Line
rest_of Downstream line = record line {
  downstream = nobody;
  downstream_cleared = λ instance. false;
  fresh = 0;
  label = lines.Spare;
  flow = 0;
  number = 0;
  known = 0;
  reassembly = [];
  to_upstream = record (line.to_upstream) { to_switch = [] };
}
rest_of Upstream line = record line {
  upstream = nobody;
  upstream_cleared = λ instance. false;
  fresh = 0;
  grant = lines.NoGrant;
  expected = 0;
  to_downstream = record (line.to_downstream) { to_switch = [] };
}

-- *Numbers*: where there is no session they are 1
abbrev pub number_of : Option Session → ℕ
number_of session = option_map_or (λ s. s.number) session 1

abbrev pub known_number : Option Session → ℕ
known_number session = option_map_or (λ s. s.known) session 1

abbrev pub expected_number : Option Session → ℕ
expected_number session = option_map_or (λ s. s.expected) session 1

-- *The label* at the port that hands it out
abbrev pub label_in : (flow : ℕ) → LabelState → lines.Label
label_in flow Wiring = lines.Wiring flow
label_in flow Offered = lines.Offered
label_in flow (Recalled last acknowledged) = lines.Recalled last acknowledged
label_in flow Wired = lines.Wired

abbrev pub label_of : Option Label → lines.Label
label_of None = lines.Spare
label_of (Some label) = label_in (flow_number label.flow) label.state

-- the flow to which it is bound, where it is, and else this one
abbrev pub flow_in : (bound other : ℕ) → LabelState → ℕ
flow_in bound other Wiring = other
flow_in bound other Offered = bound
flow_in bound other (Recalled last acknowledged) = bound
flow_in bound other Wired = other

abbrev pub flow_of : (other : ℕ) → Option Label → ℕ
flow_of other None = other
flow_of other (Some label) = flow_in (flow_number label.flow) other label.state

-- *The grant* of the label at the other end
abbrev pub grant_in : (flow : ℕ) → GrantState → lines.Grant
grant_in flow Idle = lines.Idle flow
grant_in flow ByController = lines.ByController flow
grant_in flow (ByInput input) = lines.ByInput flow
grant_in flow (Leaving input owed) = lines.Leaving flow owed

abbrev pub granted : Grant → lines.Grant
granted grant = grant_in (flow_number grant.flow) grant.state

-- a grant that a reset of its node ended, whose join the line keeps until the port is cleared
abbrev pub IsLeft : lines.Grant → Type 0
IsLeft (lines.Leaving flow false) = Unit {0}
IsLeft grant = ⊥

abbrev pub GrantShows : State → Option Grant → lines.Grant → Type 0
GrantShows state (Some grant) shown = shown ≡ granted grant
GrantShows state None shown = (shown ≡ lines.NoGrant) ⊎ (IsLeft shown × (state ≡ Clearing))

-- an input may be joined to the label
abbrev pub IsLent : lines.Grant → Type 0
IsLent (lines.ByInput flow) = Unit {0}
IsLent (lines.Leaving flow owed) = Unit {0}
IsLent grant = ⊥

-- at most one grant is of the label
abbrev pub IsOfOther : (label : ℕ) → Grant → Type 0
IsOfOther label grant = grant.label ≡ label → ⊥

abbrev pub Once : (label : ℕ) → List Grant → Type 0
Once label [] = Unit {0}
Once label (grant ∷ grants) = (grant.label ≡ label → Every (IsOfOther label) grants) × Once label grants

-- *The relation*, for a port at work: `queued` is what stands already in the queue to its switch

-- of the end that hands the label out
pub record DownAt (link : LinkLabel) (queued : List Cell) (w : Work) (part : Part) : Type 0 where
  -- its side of the adjacency, seen by instances: all addresses are right
  pub side : w.port.adjacency
      ≡ side_of (router (link.address Downstream)) (router (link.address Upstream)) part.side w.port.adjacency.silence
  pub session : is_some w.port.session ≡ is_estab part.side.state
  pub label : part.label ≡ label_of (label_at w.port link.label)
  pub flow : part.flow ≡ flow_of part.flow (label_at w.port link.label)
  pub number : part.number ≡ number_of w.port.session
  pub unspent : part.number ≤ spent_number
  pub known : part.known ≡ known_number w.port.session
  -- what the label's channel has gathered isn't kept in the line: each of its cells is given up as it comes
  pub reassembled : part.reassembly ≡ []
  pub drawn : part.fresh ≤ w.instances + 1
  pub own : Every (IsOwn (link.address Upstream)) w.actions
  pub sent : part.sent ≡ queued ++ asked_all Downstream link.label w.actions

-- of the end that may send under it. Where a join to the label is in the network, or a request that makes one (`like`),
-- its grant is lent
pub record UpAt (link : LinkLabel) (like : Type 0) (queued : List Cell) (w : Work) (part : Part) : Type 0 where
  pub side : w.port.adjacency
      ≡ side_of (router (link.address Upstream)) (router (link.address Downstream)) part.side w.port.adjacency.silence
  pub session : is_some w.port.session ≡ is_estab part.side.state
  pub grant : GrantShows part.side.state (at grant_label link.label w.port.grants) part.grant
  pub once : Once link.label w.port.grants
  pub lent : like → IsLent part.grant
  pub expected : part.expected ≡ expected_number w.port.session
  pub drawn : part.fresh ≤ w.instances + 1
  pub own : Every (IsOwn (link.address Downstream)) w.actions
  pub sent : part.sent ≡ queued ++ asked_all Upstream link.label w.actions

abbrev pub ShownAt : Role → LinkLabel → (like : Type 0) → (queued : List Cell) → Work → Part → Type 0
ShownAt Downstream link like queued w part = DownAt link queued w part
ShownAt Upstream link like queued w part = UpAt link like queued w part

abbrev pub Shown : Role → LinkLabel → (like : Type 0) → (queued : List Cell) → Work → Line → Type 0
Shown role link like queued w line = ShownAt role link like queued w (part_of role line)
