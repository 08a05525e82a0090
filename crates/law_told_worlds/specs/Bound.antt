-- What is so of a label when an event binds it

use Rattle.std.specs.Prelude.{ℕ, List, Contains}
use Rattle.world_model.specs.Words.{NodeId, PortNo, FlowId, Bind, Policy, Topology, past_of, Way, IsWay, IsUnused}
use Rattle.world_model.specs.network_model.declared.event.Event.{Event}
use Rattle.law_frame_readings.specs.law_world_views.Between.{IsWorld}
use Rattle.law_frame_readings.specs.law_world_views.Kept.{Comes, behind}
use Rattle.law_unused_labels.specs.Unused.{HasOwnChannels}
use Rattle.law_told_worlds.specs.Before.{end_at, IsWiringAt}

-- it was being wired for its flow, in an open session
abbrev pub BindsAreWired : Type 0
BindsAreWired = (policy : Policy) (topology : Topology) (before : List Event) (event : Event) → Comes policy topology before event → IsWorld (past_of policy topology before)
    → (node : NodeId) (port : PortNo) (label : ℕ) (flow : FlowId) → Contains (behind policy topology before event).now.notes.records (Bind node port label flow)
    → IsWiringAt (past_of policy topology before).now (end_at node port) label flow

-- and nobody used it, where copies of requests and REDIRECTs are on their own channels
abbrev pub BoundLabelsAreUnused : Type 0
BoundLabelsAreUnused = (policy : Policy) (topology : Topology) (before : List Event) (event : Event) → Comes policy topology before event → IsWorld (past_of policy topology before)
    → ((way : Way) (label : ℕ) → IsWay topology way → HasOwnChannels (past_of policy topology before).now way label)
    → (way : Way) (label : ℕ) (flow : FlowId) → Contains (behind policy topology before event).now.notes.records (Bind way.down.node way.down.port label flow)
    → IsWay topology way → IsUnused (past_of policy topology before).now way label
