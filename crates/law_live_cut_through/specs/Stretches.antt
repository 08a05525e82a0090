-- What is held stays so along a calm stretch, in which cells are carried and packets enter, and no label is joined in it

use Rattle.std.specs.Prelude.{◌≡◌, ℕ, List, ◌++◌, Option, Some}
use Rattle.world_model.specs.Words.{Policy, End, FlowId, GrantState, ByInput, Topology, world_after}
use Rattle.world_model.specs.network_model.declared.link.LinkEnd.{LinkEnd}
use Rattle.world_model.specs.network_model.declared.event.Event.{Event}
use Rattle.law_live_ease.specs.law_live_hearing.Law.{world_at}
use Rattle.law_live_ease.specs.Law.{Binds}
use Rattle.law_live_ease.specs.Binding.{IsCalmStretch}
use Rattle.law_live_cut_through.specs.Law.{HoldsLabel, HoldsGrant, ServesAlone, AddBranchesAlone}

-- *Behind each front of it*, where the network binds as it begins: labels that are offered, with what they are joined to
abbrev pub StretchesKeepLabels : Type 0
StretchesKeepLabels = (policy : Policy) (topology : Topology) (before events : List Event) → IsCalmStretch policy topology before events
    → Binds topology (world_at policy topology before) → (front rest : List Event) → events ≡ front ++ rest
    → (end : LinkEnd) (number : ℕ) (flow : FlowId) (join : Option End) → HoldsLabel (world_at policy topology before) end number flow join
    → HoldsLabel (world_after topology (world_at policy topology before) front) end number flow join

-- grants, with who sends under them
abbrev pub StretchesKeepGrants : Type 0
StretchesKeepGrants = (policy : Policy) (topology : Topology) (before events : List Event) → IsCalmStretch policy topology before events
    → Binds topology (world_at policy topology before) → (front rest : List Event) → events ≡ front ++ rest
    → (end : LinkEnd) (number : ℕ) (flow : FlowId) (state : GrantState) → HoldsGrant (world_at policy topology before) end number flow state
    → HoldsGrant (world_after topology (world_at policy topology before) front) end number flow state

-- *No label is joined in it*, and no grant is lent: what is behind it was so as it began
abbrev pub StretchesJoinNone : Type 0
StretchesJoinNone = (policy : Policy) (topology : Topology) (before events : List Event) → IsCalmStretch policy topology before events
    → Binds topology (world_at policy topology before) → (front rest : List Event) → events ≡ front ++ rest
    → (end : LinkEnd) (number : ℕ) (flow : FlowId) (output : End) → HoldsLabel (world_after topology (world_at policy topology before) front) end number flow (Some output)
    → HoldsLabel (world_at policy topology before) end number flow (Some output)

abbrev pub StretchesLendNone : Type 0
StretchesLendNone = (policy : Policy) (topology : Topology) (before events : List Event) → IsCalmStretch policy topology before events
    → Binds topology (world_at policy topology before) → (front rest : List Event) → events ≡ front ++ rest
    → (end : LinkEnd) (number : ℕ) (flow : FlowId) (input : End) → HoldsGrant (world_after topology (world_at policy topology before) front) end number flow (ByInput input)
    → HoldsGrant (world_at policy topology before) end number flow (ByInput input)

-- *A label that serves a flow alone* does so still, where it is offered
abbrev pub StretchesServeAlone : Type 0
StretchesServeAlone = (policy : Policy) (topology : Topology) (before events : List Event) → IsCalmStretch policy topology before events
    → Binds topology (world_at policy topology before) → (front rest : List Event) → events ≡ front ++ rest
    → (end : LinkEnd) (number : ℕ) (flow : FlowId) (join : Option End) → HoldsLabel (world_at policy topology before) end number flow join
    → ServesAlone (world_at policy topology before) end number flow
    → ServesAlone (world_after topology (world_at policy topology before) front) end number flow

-- *Only branches are asked* in it, where that is so as it begins
abbrev pub StretchesAddBranches : Type 0
StretchesAddBranches = (policy : Policy) (topology : Topology) (before events : List Event) → IsCalmStretch policy topology before events
    → Binds topology (world_at policy topology before) → AddBranchesAlone (world_at policy topology before)
    → (front rest : List Event) → events ≡ front ++ rest → AddBranchesAlone (world_after topology (world_at policy topology before) front)
