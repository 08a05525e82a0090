-- A number for each flow, by which the line of a label tells flows apart

use Rattle.std.specs.Prelude.{ℕ, ◌+◌, ◌*◌}
use Rattle.law_port_facts.specs.port_model.Words.{FlowId}
use Rattle.law_port_facts.specs.port_model.ipv4_packet.declared.flow.FlowId.TheVariants.{One, Two}

-- a number for each two numbers
unfoldable pub paired : ℕ → ℕ → ℕ
paired a b = (a + b) * (a + b) + a

-- even where the flow is of type 1, odd where it is of type 2. No end computes it
unfoldable pub flow_number : FlowId → ℕ
flow_number (One tos ttl protocol source destination source_port destination_port) =
    2 * paired tos (paired ttl (paired protocol (paired source.0 (paired destination.0 (paired source_port destination_port)))))
flow_number (Two ttl source destination) = 2 * paired ttl (paired source.0 destination.0) + 1
