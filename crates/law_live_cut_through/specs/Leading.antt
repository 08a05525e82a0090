-- Where a switch leads the channels of labels and grants that are held, in a network that binds and in which only branches are asked

use Rattle.std.specs.Prelude.{◌≡◌, ℕ, true, List, Option, None, Some}
use Rattle.world_model.specs.Words.{Policy, PortNo, End, FlowId, GrantState, ByController, label_end, control_end, grant_for, grants_at, output_at, is_empty, Topology}
use Rattle.world_model.specs.Topology.{peer_of}
use Rattle.world_model.specs.network_model.declared.link.LinkEnd.{LinkEnd}
use Rattle.world_model.specs.network_model.declared.event.Event.{Event}
use Rattle.law_live_ease.specs.law_live_hearing.Law.{world_at}
use Rattle.law_live_ease.specs.law_live_journeys.Hops.{IsStretch}
use Rattle.law_live_cut_through.specs.Law.{HoldsLabel, HoldsGrant, ServesAlone, BindsAlone}

-- *A label's channel* leads to what it is joined to, or to the controller, if it leads anywhere; and where no queue has a cell, it does
abbrev pub led_to : (port : PortNo) → (number : ℕ) → (join : Option End) → End
led_to port number None = control_end port number
led_to port number (Some output) = output

abbrev pub LabelsLeadThere : Type 0
LabelsLeadThere = (policy : Policy) (topology : Topology) (events rest : List Event) → IsStretch policy topology events rest → BindsAlone topology (world_at policy topology events)
    → (one far : LinkEnd) → peer_of topology one.node one.port ≡ Some far → (number : ℕ) (flow : FlowId) (join : Option End)
    → HoldsLabel (world_at policy topology events) far number flow join
    → (other : End) → output_at (world_at policy topology events) far.node (label_end far.port number) ≡ Some other → other ≡ led_to far.port number join

abbrev pub LabelsLead : Type 0
LabelsLead = (policy : Policy) (topology : Topology) (events rest : List Event) → IsStretch policy topology events rest → BindsAlone topology (world_at policy topology events)
    → (one far : LinkEnd) → peer_of topology one.node one.port ≡ Some far → (number : ℕ) (flow : FlowId) (join : Option End)
    → HoldsLabel (world_at policy topology events) far number flow join → is_empty (world_at policy topology events) ≡ true
    → output_at (world_at policy topology events) far.node (label_end far.port number) ≡ Some (led_to far.port number join)

-- *A grant's channel*, from the controller, leads out to the label's, likewise
abbrev pub GrantsLeadThere : Type 0
GrantsLeadThere = (policy : Policy) (topology : Topology) (events rest : List Event) → IsStretch policy topology events rest → BindsAlone topology (world_at policy topology events)
    → (one far : LinkEnd) → peer_of topology one.node one.port ≡ Some far → (number : ℕ) (flow : FlowId) (state : GrantState)
    → HoldsGrant (world_at policy topology events) one number flow state
    → (other : End) → output_at (world_at policy topology events) one.node (control_end one.port number) ≡ Some other → other ≡ label_end one.port number

abbrev pub GrantsLead : Type 0
GrantsLead = (policy : Policy) (topology : Topology) (events rest : List Event) → IsStretch policy topology events rest → BindsAlone topology (world_at policy topology events)
    → (one far : LinkEnd) → peer_of topology one.node one.port ≡ Some far → (number : ℕ) (flow : FlowId) (state : GrantState)
    → HoldsGrant (world_at policy topology events) one number flow state → is_empty (world_at policy topology events) ≡ true
    → output_at (world_at policy topology events) one.node (control_end one.port number) ≡ Some (label_end one.port number)

-- *The controller sends a flow under its grant*, where the next end holds no other label of the flow
abbrev pub GrantsAreFound : Type 0
GrantsAreFound = (policy : Policy) (topology : Topology) (events rest : List Event) → IsStretch policy topology events rest → BindsAlone topology (world_at policy topology events)
    → (one far : LinkEnd) → peer_of topology one.node one.port ≡ Some far → (number : ℕ) (flow : FlowId)
    → ServesAlone (world_at policy topology events) far number flow → (held : HoldsGrant (world_at policy topology events) one number flow ByController)
    → grant_for (grants_at (world_at policy topology events) one) flow ≡ Some held.grant
