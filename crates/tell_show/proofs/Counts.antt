-- Flows that are counted, taken one by one

use Rattle.std.proofs.Common.{◌≡◌, ◌++◌, ◌∙◌, ℕ, List, ◌∷◌, flat_map, ap}
use Rattle.std.proofs.lemmas.List.Concat.{flat_map-cons}
use Rattle.std.proofs.lemmas.List.Folds.{flat_map-map}
use Rattle.net_types.specs.declared.node.NodeId.{NodeId}
use Rattle.net_types.specs.declared.node.PortNo.{PortNo}
use Rattle.ipv4_packet.specs.declared.flow.FlowId.{FlowId}
use Rattle.port_model.specs.Counts.{Counted, packet_total}
use Rattle.flow_classifier.specs.Counting.{totals}
use Rattle.world_model.specs.Topology.{Topology}
use Rattle.show_text.specs.Port.{count_line, count_lines}

abbrev pub pair_lines : Topology → NodeId → PortNo → List (FlowId × ℕ) → List ℕ
pair_lines t node port flows = flat_map (λ (p : FlowId × ℕ). count_line t node port p.0 p.1) flows

pub all_counts : (t : Topology) (node : NodeId) (port : PortNo) (counts : List Counted) → pair_lines t node port (totals counts) ≡ count_lines t node port counts
all_counts t node port counts = flat_map-map (λ (p : FlowId × ℕ). count_line t node port p.0 p.1) (λ (c : Counted). (c.flow, packet_total c.packets)) counts

pub next_count : (t : Topology) (node : NodeId) (port : PortNo) (flows rest : List (FlowId × ℕ)) (p : FlowId × ℕ) → flows ≡ p ∷ rest
    → pair_lines t node port flows ≡ count_line t node port p.0 p.1 ++ pair_lines t node port rest
next_count t node port flows rest p is = ap (pair_lines t node port) is ∙ flat_map-cons (λ (q : FlowId × ℕ). count_line t node port q.0 q.1) p rest
