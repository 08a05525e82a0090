-- The flows that a port counts: the packets of each in the last ticks. The window, the limit of flows
-- and that counts stay at their greatest value are this project's own.

use Rattle.std.specs.Prelude.{ℕ, ◌+◌, ◌-◌, not, List, [], ◌∷◌, ◌++◌, length, take, drop, map, filter, find, min, Option, None, Some}
use Rattle.std.specs.List.{sum_by}
use Rattle.link_model.specs.ipv4_packet.declared.flow.FlowId.{FlowId}
use Rattle.link_model.specs.ipv4_packet.Parts.{same_flow}

-- a flow, with its packets since the last tick, between that and the one before it, and so on
pub record Counted : Type 0 where
  pub flow : FlowId
  pub packets : List ℕ

abbrev pub greatest_count : ℕ
greatest_count = 4294967295

abbrev pub most_flows : ℕ
most_flows = 1024

abbrev pub counted_of : List Counted → FlowId → Option Counted
counted_of counts flow = find (λ c. same_flow c.flow flow) counts

-- one packet more since the last tick
abbrev pub one_more_packet : List ℕ → List ℕ
one_more_packet [] = 1 ∷ []
one_more_packet (n ∷ before) = min greatest_count (n + 1) ∷ before

abbrev pub packets_of : Option Counted → List ℕ
packets_of None = []
packets_of (Some c) = c.packets

-- the last so many of a list
abbrev pub last_of : {A : Type 0} → ℕ → List A → List A
last_of count xs = drop (length xs - count) xs

-- a packet of a flow is counted. The flows stand in the order of their last packets; one above the limit
-- makes the first one forgotten
abbrev pub counted_once : List Counted → FlowId → List Counted
counted_once counts flow =
    last_of most_flows (filter (λ c. not (same_flow c.flow flow)) counts
    ++ record { flow = flow; packets = one_more_packet (packets_of (counted_of counts flow)) } ∷ [])

-- how many packets of a flow are counted
abbrev pub packet_total : List ℕ → ℕ
packet_total packets = min greatest_count (sum_by (λ n. n) packets)

abbrev pub packets_in : List Counted → FlowId → ℕ
packets_in counts flow = packet_total (packets_of (counted_of counts flow))

-- a tick: what is older than the window isn't counted any more
abbrev pub window_moved : (window : ℕ) → List Counted → List Counted
window_moved window counts = map (λ (c : Counted). record c { packets = take window (0 ∷ c.packets) }) counts
