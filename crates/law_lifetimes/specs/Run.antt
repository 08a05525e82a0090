-- Lifetimes in a run: of any topology, policy and list of events, forged frames among them

use Rattle.std.specs.Prelude.{◌≡◌, ℕ, ◌≤◌, ◌+◌, true, List, Some}
use Rattle.law_controller.specs.world_model.Words.{NodeId, PortNo, Down, End, Policy, control_end, Grant, ByInput, Controller, Topology, World, controller_at, queue_at, next, world_after}
use Rattle.law_controller.specs.world_model.network_model.declared.event.Event.{Event}
use Rattle.law_controller.specs.world_model.network_model.declared.event.Event.TheVariants.{Tick}
use Rattle.law_controller.specs.world_model.World.{opened}
use Rattle.law_controller.specs.law_controller_facts.claims_model.Expiry.{HasEnded, SendsNone, EndsByReset}
use Rattle.law_controller.specs.law_controller_facts.claims_model.Lifetimes.{acted_in, comes_to, SetsIn, NotSetIn, reaches_in, IsCountedIn, grant_in, IsSetIn, stays_queued_in, IsConductIn, IsLedIn}

-- *It is set*, where the node isn't reset in the event
abbrev pub IsSetInRuns : Type 0
IsSetInRuns = (policy : Policy) (topology : Topology) (events : List Event) (event : Event) (node : NodeId) (port : PortNo) (label lifetime : ℕ)
    → SetsIn (world_after topology (opened policy topology) events) event node port label lifetime
    → IsSetIn (next topology (world_after topology (opened policy topology) events) event) node port label lifetime

-- *It has ended or is leaving*
abbrev pub EndsInRuns : Type 0
EndsInRuns = (policy : Policy) (topology : Topology) (node : NodeId) (port : PortNo) (label lifetime : ℕ) (w : World) (ticks : ℕ)
    → IsCountedIn policy topology node port label lifetime w ticks → lifetime ≤ ticks → HasEnded (grant_in w node port label)

-- *No frame is sent by it* in any event, until the lifetime of a grant of the label is set
abbrev pub SendsNoMoreInRuns : Type 0
SendsNoMoreInRuns = (policy : Policy) (topology : Topology) (node : NodeId) (port : PortNo) (label lifetime : ℕ) (w : World) (ticks : ℕ)
    → IsCountedIn policy topology node port label lifetime w ticks → lifetime ≤ ticks
    → (event : Event) → IsConductIn (comes_to w node event) → NotSetIn w event node port label
    → SendsNone (control_end port label).channel (stays_queued_in (comes_to w node event) (queue_at w (Down node))) (queue_at (next topology w event) (Down node))

-- *Its input is led back* at the end of the last tick, where it is lent before and the node isn't reset in it
abbrev pub IsLedBackInRuns : Type 0
IsLedBackInRuns = (policy : Policy) (topology : Topology) (node : NodeId) (port : PortNo) (label lifetime : ℕ) (w : World) (before : ℕ)
    → IsCountedIn policy topology node port label lifetime w before → lifetime ≤ before + 1 → reaches_in w node port ≡ true
    → (grant : Grant) (input : End) → grant_in w node port label ≡ Some grant → grant.state ≡ ByInput input
    → IsLedIn (next topology w (Tick node)) node input

-- *Nothing but a node reset ends the session with the switch* there: of the controller of a node in a world of a run
abbrev pub IsEndedByResetInRuns : Type 0
IsEndedByResetInRuns = (policy : Policy) (topology : Topology) (events : List Event) (node : NodeId) (port : PortNo) (controller : Controller)
    → controller_at (world_after topology (opened policy topology) events) node ≡ Some controller
    → EndsByReset (acted_in (world_after topology (opened policy topology) events) controller) port
