-- The law of counts, over every list of calls of a classifier, the latest call first.

use Rattle.std.specs.Prelude.{ℕ, ◌+◌, ◌==◌, Bool, not, if◌then◌else◌, List, [], ◌∷◌, filter, take}
use Rattle.std.specs.List.{list_any}
use Rattle.ipv4_packet.specs.declared.flow.FlowId.{FlowId}
use Rattle.ipv4_packet.specs.Parts.{same_flow}
use Rattle.port_model.specs.Counts.{Counted, counted_once, window_moved, most_flows}

pub data Call : Type 0 where
  Count : FlowId → Call
  Tick : Call
  Clear : Call

abbrev pub counts_after : (window : ℕ) → List Call → List Counted
counts_after window [] = []
counts_after window (Count flow ∷ before) = counted_once (counts_after window before) flow
counts_after window (Tick ∷ before) = window_moved window (counts_after window before)
counts_after window (Clear ∷ before) = []

-- the flows that were counted since the last clear, the one that was counted last first
abbrev pub recency : List Call → List FlowId
recency [] = []
recency (Count flow ∷ before) = flow ∷ filter (λ other. not (same_flow other flow)) (recency before)
recency (Tick ∷ before) = recency before
recency (Clear ∷ before) = []

-- a flow is remembered until it is cleared, or 1,024 others were counted since its own last count
abbrev pub is_remembered : FlowId → List Call → Bool
is_remembered flow calls = list_any (λ other. same_flow other flow) (take most_flows (recency calls))

-- the packets of a flow after which fewer than `window` ticks came, since it was last forgotten before a
-- packet of its own; `ticks` came behind these calls
abbrev pub packets_since : (window : ℕ) → FlowId → (ticks : ℕ) → List Call → ℕ
packets_since window flow ticks [] = 0
packets_since window flow ticks (Count other ∷ before) =
    if same_flow other flow
    then 1 + (if is_remembered flow before then packets_since window flow ticks before else 0)
    else packets_since window flow ticks before
packets_since window flow ticks (Tick ∷ before) =
    if ticks + 1 == window then 0 else packets_since window flow (ticks + 1) before
packets_since window flow ticks (Clear ∷ before) = 0
