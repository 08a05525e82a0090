-- What a classifier is seen as.

use Rattle.std.specs.Prelude.{ℕ, List, map}
use Rattle.ipv4_packet.specs.declared.flow.FlowId.{FlowId}
use Rattle.port_model.specs.Counts.{Counted, packet_total}

-- over how many ticks packets are counted, and the flows that are counted, in the order of their last
-- packets
pub record Counting : Type 0 where
  pub window : ℕ
  pub counts : List Counted

-- each flow with how many of its packets are counted
abbrev pub totals : List Counted → List (FlowId × ℕ)
totals = map (λ c. (c.flow, packet_total c.packets))
