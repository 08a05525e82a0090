-- A label of a link, and the two ends of the link as they stand to it

use Rattle.std.specs.Prelude.{ℕ}
use Rattle.law_port_facts.specs.port_model.Words.{NodeId, PortNo, Addr}
use Rattle.law_label_line.specs.Cells.{Role, Downstream, Upstream}

-- the end at the other side of the link
abbrev pub other : Role → Role
other Downstream = Upstream
other Upstream = Downstream

-- the node, the port and the address of each end, and the number of the label that the downstream end hands out
pub record LinkLabel : Type 0 where
  pub node : Role → NodeId
  pub port : Role → PortNo
  pub address : Role → Addr
  pub label : ℕ
