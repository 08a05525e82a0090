-- a node of a run at which no queue has a cell is still, so it wakes

use Rattle.std.proofs.Common.{◌≡◌, true, List, ◌++◌, subst}
use Rattle.world_model.specs.Words.{NodeId, Policy, Topology, is_empty, IsNode, IsRun}
use Rattle.world_model.specs.network_model.declared.event.Event.{Event}
use Rattle.live_model.specs.Waking.{NodesWake, events_of}
use Rattle.law_link_parties.specs.law_run_facts.law_world_views.Fronts.{HasAddresses}
use Rattle.law_link_parties.proofs.law_run_facts.Steps.{front_run}
use Rattle.law_link_parties.specs.law_live_hearing.Law.{world_at}
use Rattle.law_link_parties.proofs.law_live_hearing.Places.{down_empty, up_empty}
use Rattle.law_link_parties.specs.law_live_rested.Law.{IsStill, StillNodesWake}

still : (policy : Policy) (topology : Topology) (events : List Event) (node : NodeId) → IsRun policy topology events → IsNode topology node
    → is_empty (world_at policy topology events) ≡ true → IsStill policy topology events node
still policy topology events node run within empty = record {
  within = within;
  down = down_empty policy topology run.topology_is events node within empty;
  up = up_empty policy topology run.topology_is events node within empty;
}

pub nodes_wake : StillNodesWake → (policy : Policy) (topology : Topology) (events : List Event) → IsRun policy topology events → HasAddresses topology
    → NodesWake policy topology events
nodes_wake wake policy topology events run addresses before after node beats are tame within empty peace enough =
    let of_beats : List Event = events_of topology (world_at policy topology before) beats in
    let so_far : IsRun policy topology (before ++ of_beats) = front_run policy topology (before ++ of_beats) after (subst (IsRun policy topology) are run) in
    wake policy topology before node beats (record { run = so_far; addresses = addresses; tame = tame })
    (still policy topology before node (front_run policy topology before of_beats so_far) within empty) peace enough
